-- `gather_children` meets its contract.
use Prim.Native.Nat.{◌+◌, ◌-◌}
use lib.ListN.{length, take}
use Rattle.tree.specs.Tree.{parts, all_parts}
use Rattle.tree_root.proofs.Gathering.{Gathering}
use Rattle.tree_root.proofs.gather_children.Given as goal

abbrev pub invariant-loop-c : goal.invariant-loop-c
invariant-loop-c l = Gathering l.first l.b l.set (parts (length l.set) l.dig) (all_parts l.nodes) (take l.off l.initial.buf) l.off l.a-2 l.t-2 (length l.initial.buf) l.buf l.a l.t l.c (l.first + l.b - l.c)
