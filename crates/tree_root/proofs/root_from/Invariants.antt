-- `root_from` meets its contract.
use Prim.Native.Nat.{◌-◌}
use lib.ListN.{length}
use Rattle.tree_root.proofs.Roots.{RootInv}
use Rattle.tree_root.proofs.root_from.Given as goal

abbrev pub invariant-loop : goal.invariant-loop
invariant-loop l = RootInv l.b l.h l.initial.set (length l.initial.set) l.initial.dig l.nodes l.initial.buf l.off l.set l.dig l.buf l.n l.t l.ran (l.h - l.counter)
