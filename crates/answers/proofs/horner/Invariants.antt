-- `answers::horner` meets its contract. The invariant: the rows from j on are combined.
use mathlib.Core.Path.{◌≡◌}
use lib.ListN.{length}
use Rattle.answers.proofs.Combining.{combined_from}
use Rattle.answers.proofs.horner.Given as goal

abbrev pub invariant-loop-j : goal.invariant-loop-j
invariant-loop-j l = (l.out ≡ combined_from l.n l.mu l.z.0 l.rows l.j) × (length l.out ≡ l.n)
