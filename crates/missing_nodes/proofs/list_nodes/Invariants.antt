-- `list_nodes` meets its contract.
use Prim.Native.Nat.{◌-◌}
use lib.ListN.{length}
use Rattle.missing_nodes.proofs.ListedLevels.{ListNodesInv}
use Rattle.missing_nodes.proofs.list_nodes.Given as goal

abbrev pub invariant-loop : goal.invariant-loop
invariant-loop l =
    ListNodesInv l.b l.h l.initial.set (length l.initial.set) l.tree l.initial.out l.set l.out l.n l.t l.start l.width (l.h - l.counter)
