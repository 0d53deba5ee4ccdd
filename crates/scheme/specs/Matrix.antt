-- The matrix that polynomials are laid out in (PCS), column by column: coefficients, and the blinds that hide what a column's value would show of them.
use Rattle.std.specs.Prelude.{List, [], ◌++◌, ℕ, zero, suc, ◌+◌, ◌-◌, ◌*◌, ltb, drop}
use Rattle.lists.specs.Choice.{pick}
use Rattle.lists.specs.Pieces.{piece}
use Rattle.algebra.specs.Lowered.{lowered}
use Rattle.scheme.specs.Sizes.{Sizes, coefficient_count}

module _ (s : Sizes) (coefficients blinds : List ℕ) where
  -- polynomial i, its μν + β coefficients, and the top β of them
  abbrev pub polynomial : ℕ → List ℕ
  polynomial i = piece (coefficient_count s) i coefficients

  abbrev pub top_coefficients : ℕ → List ℕ
  top_coefficients i = drop (s.μ * s.ν) (polynomial i)

  -- the β blinds of column t of polynomial i; its last column has none
  abbrev pub blinds_of : ℕ → ℕ → List ℕ
  blinds_of i t = piece s.β (i * (s.ν - 1) + t) blinds

  -- rows μ to μ + β - 1 of that column: its blinds, and in the last column the top coefficients
  unfoldable pub blinding_rows : ℕ → ℕ → List ℕ
  blinding_rows i t = pick (ltb (suc t) s.ν) (blinds_of i t) (top_coefficients i)

  -- what its first β entries are lowered by: the blinds of the column before
  unfoldable pub lowered_by : ℕ → ℕ → List ℕ
  lowered_by i zero = []
  lowered_by i (suc t) = blinds_of i t

  -- column t of polynomial i, from row 0 on: coefficients tμ to tμ + μ - 1, the first β of them lowered, then the blinding rows
  unfoldable pub column_of : ℕ → ℕ → List ℕ
  column_of i t = lowered (piece s.μ t (polynomial i)) (lowered_by i t) ++ blinding_rows i t
