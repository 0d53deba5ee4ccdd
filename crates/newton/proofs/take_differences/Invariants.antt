-- `newton::take_differences` meets its contract. The invariant: the places before i are differences, the others are as they were.
use mathlib.Core.Path.{◌≡◌}
use lib.ListN.{length}
use Rattle.algebra.specs.Numbers.{Elements}
use Rattle.algebra.specs.Differences.{neighbours}
use Rattle.lists.specs.Fill.{Filled, entry_of}
use Rattle.newton.proofs.take_differences.Given as goal

abbrev pub invariant-loop-i : goal.invariant-loop-i
invariant-loop-i l = (length l.s ≡ length l.initial.s) × Filled (neighbours l.initial.s) l.s 0 l.i × Filled (entry_of l.initial.s) l.s l.i (length l.initial.s) × Elements l.s
