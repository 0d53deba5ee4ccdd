-- `to_parents` meets its contract.
use Prim.Native.Nat.{◌-◌}
use lib.ListN.{length}
use Rattle.node_sets.proofs.Parents.{ParentsInv}
use Rattle.node_sets.proofs.to_parents.Given as goal

abbrev pub invariant-loop-a : goal.invariant-loop-a
invariant-loop-a l =
    ParentsInv l.b l.initial.set (length l.initial.set) l.set l.a l.w

abbrev pub decreases-loop-a : goal.decreases-loop-a
decreases-loop-a l = length l.initial.set - l.a
