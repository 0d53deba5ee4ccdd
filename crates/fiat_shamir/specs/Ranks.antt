-- The drawn leaves one after the other: a rank among the unused is found by a walk over the used ones alone, which stay in rising order.
use Rattle.std.specs.Prelude.{List, [], ◌∷◌, ℕ, suc, ◌-◌, ◌%◌, leb}
use Rattle.lists.specs.Choice.{pick}
use Rattle.lists.specs.Sorted.{inserted}

-- the unused number of rank r: it is one greater for each used one on the way that is not above it
unfoldable pub ranked : ℕ → List ℕ → ℕ
ranked r [] = r
ranked r (u ∷ us) = pick (leb u r) (ranked (suc r) us) r

-- the used ones after some words, each modulo the number of unused ones, which is n at first
unfoldable pub drawn_into : ℕ → List ℕ → List ℕ → List ℕ
drawn_into n used [] = used
drawn_into n used (x ∷ xs) = drawn_into (n - 1) (inserted (ranked (x % n) used) used) xs
