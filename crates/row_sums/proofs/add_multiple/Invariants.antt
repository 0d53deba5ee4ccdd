-- `row_sums::add_multiple` meets its contract. The invariant: the places below i have one part more, the others are as they were.
use mathlib.Core.Path.{◌≡◌}
use lib.ListN.{length}
use Rattle.lists.specs.Fill.{Filled, entry_of}
use Rattle.algebra.specs.Sums.{low_added, high_added, SmallProducts}
use Rattle.row_sums.proofs.add_multiple.Given as goal

abbrev pub invariant-loop-i : goal.invariant-loop-i
invariant-loop-i l =
    (length l.low ≡ length l.row) × (length l.high ≡ length l.row) × Filled (low_added l.c l.row l.initial.low) l.low 0 l.i × Filled (entry_of l.initial.low) l.low l.i (length l.row) × Filled (high_added l.c l.row l.initial.high) l.high 0 l.i × Filled (entry_of l.initial.high) l.high l.i (length l.row) × SmallProducts l.c l.row l.i
