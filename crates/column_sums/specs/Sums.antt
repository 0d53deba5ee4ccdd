-- Sums over the rows of the matrix, and the weights that they are taken with.
use Rattle.std.specs.Prelude.{◌≡◌, List, [], map, ℕ}
use Rattle.lists.specs.Range.{up_from}
use Rattle.lists.specs.Tabulate.{tabulate}
use Rattle.algebra.specs.Columns.{pow_n}
use Rattle.algebra.specs.Dot.{dot_n}
use Rattle.scheme.specs.Sizes.{Sizes, columns}
use Rattle.scheme.specs.Matrix.{column_of}
use Rattle.scheme.specs.Layers.{column}
use Rattle.lent.specs.Partly.{lent_rows}

-- weights that are the first n powers of a point
pub record Powers (n : ℕ) (weights : List ℕ) : Type 0 where
  pub point : ℕ
  pub are : weights ≡ tabulate n (pow_n point)

-- sums over the rows of the matrix, each entry times the weight of its row: of the columns of polynomial i, and of all columns
abbrev pub polynomial_sums : Sizes → List ℕ → List ℕ → List ℕ → ℕ → List ℕ
polynomial_sums s coefficients blinds weights i = map (λ t. dot_n weights (column_of s coefficients blinds i t)) (up_from 0 s.ν)

abbrev pub column_sums : Sizes → List ℕ → List ℕ → List ℕ → List ℕ
column_sums s coefficients blinds weights = map (λ a. dot_n weights (column s (lent_rows coefficients [] blinds) a)) (up_from 0 (columns s))
