-- `row_sums::add_rows` meets its contract. The invariant: the sums are those of the first j rows.
use mathlib.Core.Path.{◌≡◌}
use lib.ListN.{length}
use Rattle.algebra.specs.Sums.{Summed}
use Rattle.row_sums.proofs.add_rows.Given as goal

abbrev pub invariant-loop-j : goal.invariant-loop-j
invariant-loop-j l = (length l.low ≡ length l.initial.low) × (length l.high ≡ length l.initial.low) × Summed l.weights (length l.initial.low) l.rows l.j l.low l.high
