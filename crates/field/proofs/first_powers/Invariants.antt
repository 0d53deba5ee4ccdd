-- `field::first_powers` meets its contract. The invariant: p is the power of the index, and the places below it have theirs.
use mathlib.Core.Path.{◌≡◌}
use lib.ListN.{length}
use Rattle.algebra.specs.Columns.{pow_n}
use Rattle.lists.specs.Fill.{Filled}
use Rattle.field.proofs.first_powers.Given as goal

abbrev pub invariant-loop-place : goal.invariant-loop-place
invariant-loop-place l = (length l.out ≡ length l.initial.out) × (l.p.0 ≡ pow_n l.x.0 l.place-index) × Filled (pow_n l.x.0) l.out 0 l.place-index
