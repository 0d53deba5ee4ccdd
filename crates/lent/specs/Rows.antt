-- Rows as they stand in what is lent.
use Rattle.std.specs.Prelude.{◌≡◌, List, ℕ, ◌+◌, ◌*◌, length, get_or}
use Rattle.algebra.specs.Numbers.{Elements}
use Rattle.scheme.specs.Sizes.{Sizes, SizesInOrder, rows, coefficient_count, blind_count}

-- from the first on, every step-th element
unfoldable pub strided : List ℕ → ℕ → ℕ → ℕ → ℕ
strided xs first step i = get_or xs (first + step * i) 0

-- the matrix can be laid out: sizes in their ranges, as many coefficients and blinds as they ask, and blinds that are elements, since they are subtracted
pub record CanLayOut (s : Sizes) (coefficients blinds : List ℕ) : Type 0 where
  pub sizes : SizesInOrder s
  pub coefficients_length : length coefficients ≡ s.w * coefficient_count s
  pub blinds_length : length blinds ≡ s.w * blind_count s
  pub blinds_below : Elements blinds

-- and its rows have as many tails as the sizes ask
pub record CanExtend (s : Sizes) (coefficients tails blinds : List ℕ) : Type 0 where
  pub laid : CanLayOut s coefficients blinds
  pub tails-length : length tails ≡ rows s * s.ℓ
