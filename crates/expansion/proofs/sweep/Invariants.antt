-- `expansion::sweep` meets its contract. The invariant: the places before i - 1 are swept, the others are as they were.
use mathlib.Core.Path.{◌≡◌}
use Prim.Native.Nat.{◌-◌, ◌≤◌, max}
use lib.ListN.{length}
use Rattle.algebra.specs.Divided.{sweep_n, stage}
use Rattle.expansion.proofs.sweep.Given as goal

abbrev pub invariant-loop-i : goal.invariant-loop-i
invariant-loop-i l = (l.i-end ≡ length l.initial.s) × (1 ≤ l.i) × (l.i ≤ max l.i-end 1) × (l.s ≡ stage (sweep_n l.x.0 l.initial.s) l.initial.s (l.i - 1)) × (length l.s ≡ length l.initial.s)
