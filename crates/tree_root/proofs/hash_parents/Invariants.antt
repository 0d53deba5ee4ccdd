-- `hash_parents` meets its contract.
use Prim.Native.Nat.{◌-◌}
use lib.ListN.{length, take}
use Rattle.tree_root.proofs.ParentDigests.{HashParentsInv}
use Rattle.tree_root.proofs.hash_parents.Given as goal

abbrev pub invariant-loop-a : goal.invariant-loop-a
invariant-loop-a l = HashParentsInv l.b (take (length l.set) l.set) (length l.set) l.initial.dig l.nodes l.t-2 l.initial.buf l.off l.dig l.buf l.a l.w l.t l.ran

abbrev pub decreases-loop-a : goal.decreases-loop-a
decreases-loop-a l = length l.set - l.a
