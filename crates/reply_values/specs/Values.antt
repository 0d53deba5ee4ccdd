-- The values of the polynomials, over words.
use Rattle.std.specs.Prelude.{List, map, ℕ, get_or}
use Rattle.lists.specs.Pieces.{piece, pieces}
use Rattle.algebra.specs.Columns.{pow_n}
use Rattle.algebra.specs.Numbers.{eval_n}

-- at one point, the values of n polynomials of ν columns each: base is the point's power by which columns are weighed
unfoldable pub point_values : ℕ → ℕ → List ℕ → ℕ → List ℕ
point_values ν base answer n = map (λ vs. eval_n vs base) (pieces ν n answer)

-- at point p, from its answer
unfoldable pub values_at : ℕ → ℕ → ℕ → ℕ → List ℕ → List ℕ → ℕ → List ℕ
values_at μ ν w width points answers p = point_values ν (pow_n (get_or points p 0) μ) (piece width p answers) w
