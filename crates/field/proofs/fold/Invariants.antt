-- `field::fold` meets its contract. The invariant: the places below i have their sums, the others are as they were.
use mathlib.Core.Path.{◌≡◌}
use lib.ListN.{length}
use Rattle.algebra.specs.Dot.{accumulated_at}
use Rattle.lists.specs.Fill.{Filled, entry_of}
use Rattle.field.proofs.fold.Given as goal

abbrev pub invariant-loop-i : goal.invariant-loop-i
invariant-loop-i l =
    (length l.acc ≡ length l.initial.acc) × Filled (accumulated_at l.row l.c.0 l.initial.acc) l.acc 0 l.i × Filled (entry_of l.initial.acc) l.acc l.i (length l.initial.acc)
