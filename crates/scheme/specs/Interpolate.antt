-- Interpolation over points of the caller's own (document 02, No. 5): its tests, and the coefficients.
use Rattle.std.specs.Prelude.{not, List, [], ◌∷◌, ◌++◌, map, ◌≡◌, ℕ, eqb, length}
use Rattle.lists.specs.Tests.{Test, verdict_of, every, within}
use Rattle.lists.specs.Differ.{differ}
use Rattle.algebra.specs.Numbers.{eval_n, interp_n, Elements}
use Rattle.scheme.specs.Sizes.{elements}
use Rattle.scheme.specs.Commit.{after}

-- the most points
abbrev pub most_samples : ℕ
most_samples = 320

-- the number of points; as many values as points, and as much room for coefficients; the elements
unfoldable pub samples_tests : List ℕ → List ℕ → List ℕ → List Test
samples_tests points values room =
    (1, not (within 1 most_samples (length points)))
    ∷ (2, not (every (eqb (length values) (length points) ∷ eqb (length room) (length points) ∷ [])))
    ∷ (3, not (every (elements points ∷ elements values ∷ [])))
    ∷ []

-- and that no point stands twice
unfoldable pub interpolation_tests : List ℕ → List ℕ → List ℕ → List Test
interpolation_tests points values room = samples_tests points values room ++ ((13, not (differ points)) ∷ [])

unfoldable pub interpolation_verdict : List ℕ → List ℕ → List ℕ → ℕ
interpolation_verdict points values room = verdict_of (interpolation_tests points values room)

-- what interpolating does: its verdict, and the lent slice, with the coefficients, lowest first
unfoldable pub interpolating : List ℕ → List ℕ → List ℕ → ℕ × List ℕ
interpolating points values room =
    let v : ℕ = interpolation_verdict points values room in
    (v, after v (interp_n points values) room)

-- p is the one polynomial of degree below the number of points that takes the values at the points
pub record OnePolynomial (points values p : List ℕ) : Type 0 where
  pub count : length p ≡ length points
  pub below : Elements p
  pub takes : map (λ (x : ℕ). eval_n p x) points ≡ values
  pub only : (r : List ℕ) → length r ≡ length points → Elements r → map (λ (x : ℕ). eval_n r x) points ≡ values → r ≡ p
