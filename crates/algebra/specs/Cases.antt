-- Worked cases: an interpolation is known by its values, which compute.
use Rattle.std.specs.Prelude.{◌≡◌, List, [], ◌∷◌, map, ℕ, length}
use Rattle.std.proofs.Common.{sym, ◌∙◌, le_of_eq}
use Rattle.lists.specs.All.{All, Distinct}
use Rattle.algebra.specs.Numbers.{eval_n, Elements, unique_n, interp_n, interp_n_below, interp_n-length, interp_n_values}

map_all : (p r xs : List ℕ) → map (λ (x : ℕ). eval_n p x) xs ≡ map (λ (x : ℕ). eval_n r x) xs → All (λ (x : ℕ). eval_n p x ≡ eval_n r x) xs
map_all p r [] e = tt
map_all p r (x ∷ xs) e = (cc, map_all p r xs (cc))

-- a list of the right length with the right values is the interpolation
pub interp_n_is : (xs ys p : List ℕ) → Elements xs → Distinct xs → Elements ys → Elements p → length p ≡ length xs → length ys ≡ length xs → map (λ (x : ℕ). eval_n p x) xs ≡ ys → interp_n xs ys ≡ p
interp_n_is xs ys p bx d by bp lp ly e =
    unique_n xs (interp_n xs ys) p bx d (interp_n_below xs ys) bp (interp_n-length xs ys ly ∙ sym lp) (le_of_eq lp)
    (map_all (interp_n xs ys) p xs (interp_n_values xs ys bx d by ly ∙ sym e))
