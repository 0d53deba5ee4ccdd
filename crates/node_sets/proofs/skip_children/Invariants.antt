-- `skip_children` meets its contract: the place and what is used from there on add up to the result.
use mathlib.Core.Path.{◌≡◌}
use Prim.Native.Nat.{◌+◌, ◌-◌}
use lib.ListN.{drop}
use Rattle.tree.specs.Walk.{used}
use Rattle.node_sets.proofs.skip_children.Given as goal

abbrev pub invariant-loop-c : goal.invariant-loop-c
invariant-loop-c l = l.a + used l.c (l.first + l.b - l.c) (drop l.a l.set) ≡ l.a-2 + used l.first l.b (drop l.a-2 l.set)
