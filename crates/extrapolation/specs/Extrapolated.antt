-- What extrapolating leaves: the values of polynomials at 0, .., n - 1, from those at n, n + 1, ..
use Rattle.std.specs.Prelude.{◌≡◌, List, ℕ, ◌+◌, ◌*◌, ◌≤◌, ◌<◌, length}
use Rattle.algebra.specs.Field.{of}
use Rattle.algebra.specs.Numbers.{eval_n}
use Rattle.stepping.specs.Lanes.{entry}

-- the most points of both kinds together
abbrev pub points_together : ℕ
points_together = 65536

-- polynomial p j has at most `width` coefficients, and at n, .., n + width - 1 the values of lane j, which stand four places apart
unfoldable pub Through : (ℕ → List ℕ) → List ℕ → ℕ → ℕ → ℕ → Type 0
Through p src width n lanes = (j : ℕ) → j < lanes → (length (p j) ≤ width) × ((t : ℕ) → t < width → of (entry src (4 * t + j)) ≡ of (eval_n (p j) (n + t)))

-- the columns from lo on, of n rows of `stride` entries, are the values of the p j at 0, .., n - 1
unfoldable pub Columns : (ℕ → List ℕ) → ℕ → ℕ → ℕ → ℕ → List ℕ → Type 0
Columns p lanes n lo stride table = (x j : ℕ) → x < n → j < lanes → entry table (x * stride + (lo + j)) ≡ eval_n (p j) x

unfoldable pub Extrapolated : List ℕ → ℕ → ℕ → ℕ → ℕ → ℕ → List ℕ → Type 0
Extrapolated src width lanes n lo stride table = (p : ℕ → List ℕ) → Through p src width n lanes → Columns p lanes n lo stride table
