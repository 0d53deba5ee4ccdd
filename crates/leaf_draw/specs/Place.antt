-- The place of an unused number among the used ones.
use Rattle.std.specs.Prelude.{List, [], ◌∷◌, ℕ, suc, leb}
use Rattle.lists.specs.Choice.{pick}

-- how many of the used ones, which rise, come before the unused one of rank r
unfoldable pub place_of : ℕ → List ℕ → ℕ
place_of r [] = 0
place_of r (u ∷ us) = pick (leb u r) (suc (place_of (suc r) us)) 0
