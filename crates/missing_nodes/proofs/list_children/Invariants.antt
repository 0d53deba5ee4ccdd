-- `list_children` meets its contract.
use Prim.Native.Nat.{◌+◌, ◌-◌}
use Rattle.tree.specs.Tree.{all_parts}
use Rattle.missing_nodes.proofs.Listing.{Listing}
use Rattle.missing_nodes.proofs.list_children.Given as goal

abbrev pub invariant-loop-c : goal.invariant-loop-c
invariant-loop-c l =
    Listing l.first l.b l.set (all_parts l.tree) l.start l.initial.out l.a-2 l.t-2 l.out l.a l.t l.c (l.first + l.b - l.c)
