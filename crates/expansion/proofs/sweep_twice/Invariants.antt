-- `expansion::sweep_twice` meets its contract. The invariant: the places before i are swept twice, the others are as they were.
use mathlib.Core.Path.{◌≡◌}
use Prim.Native.Nat.{◌+◌, ◌≤◌}
use lib.ListN.{length}
use Rattle.algebra.specs.Divided.{stage}
use Rattle.algebra.specs.Pairs.{twice_n}
use Rattle.expansion.proofs.sweep_twice.Given as goal

abbrev pub invariant-loop-i : goal.invariant-loop-i
invariant-loop-i l = (l.last + 2 ≡ length l.initial.s) × (l.i ≤ l.last) × (l.s ≡ stage (twice_n l.x.0 l.y.0 l.initial.s) l.initial.s l.i) × (length l.s ≡ length l.initial.s)
