-- `divided_differences::products_before` meets its contract. The invariant: p is the product of the first i entries, and the places below i have theirs.
use mathlib.Core.Path.{◌≡◌}
use lib.ListN.{length}
use Rattle.lists.specs.Fill.{Filled}
use Rattle.algebra.specs.Inverses.{before_n}
use Rattle.divided_differences.proofs.products_before.Given as goal

abbrev pub invariant-loop-i : goal.invariant-loop-i
invariant-loop-i l = (length l.room ≡ length l.s) × (l.p.0 ≡ before_n l.s l.i) × Filled (before_n l.s) l.room 0 l.i
