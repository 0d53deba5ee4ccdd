-- `row_sums::reduce_sums` meets its contract. The invariant: the places below i have their sums.
use mathlib.Core.Path.{◌≡◌}
use lib.ListN.{length}
use Rattle.lists.specs.Fill.{Filled}
use Rattle.algebra.specs.Sums.{reduced_at}
use Rattle.row_sums.proofs.reduce_sums.Given as goal

abbrev pub invariant-loop-i : goal.invariant-loop-i
invariant-loop-i l = (length l.out ≡ length l.initial.out) × Filled (reduced_at l.low l.high) l.out 0 l.i
