-- `divided_differences::widen` meets its contract. The invariant: the places below i have their values.
use mathlib.Core.Path.{◌≡◌}
use lib.ListN.{length}
use Rattle.lists.specs.Fill.{Filled, entry_of}
use Rattle.divided_differences.proofs.widen.Given as goal

abbrev pub invariant-loop-i : goal.invariant-loop-i
invariant-loop-i l = (length l.rests ≡ length l.values) × Filled (entry_of l.values) l.rests 0 l.i
