-- Clauses of the functions that fill the table.
use Rattle.std.specs.Prelude.{◌≡◌, List, ℕ, ◌+◌, ◌*◌, ◌/◌, ◌≤◌, length}
use Rattle.stepping.specs.Lanes.{Small}
use Rattle.scheme.specs.Sizes.{Sizes, leaves, width, record_values}
use Rattle.lent.specs.Rows.{CanExtend}

-- room for the values of four lanes at so many points, and for a table of their differences
pub record Room (width : ℕ) (values lines : List ℕ) : Type 0 where
  pub points : 4 * width ≤ length values
  pub orders : 20 * ((width + 4) / 5) ≤ length lines
  pub small : Small lines

-- sizes in their ranges, as many words as they ask, and a table of its length
pub record Evaluable (s : Sizes) (coefficients tails blinds masks table : List ℕ) : Type 0 where
  pub extend : CanExtend s coefficients tails blinds
  pub masks_length : length masks ≡ s.η * width s
  pub table-length : length table ≡ leaves s * record_values s
