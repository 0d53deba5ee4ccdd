-- `interpolation::copy` meets its contract. The invariant: the places below i are copied.
use mathlib.Core.Path.{◌≡◌}
use lib.ListN.{length}
use Rattle.lists.specs.Fill.{Filled, entry_of}
use Rattle.interpolation.proofs.copy.Given as goal

abbrev pub invariant-loop-i : goal.invariant-loop-i
invariant-loop-i l = (length l.to ≡ length l.from) × Filled (entry_of l.from) l.to 0 l.i
