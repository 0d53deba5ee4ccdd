-- Values of rows and masks at N, N + 1, .., four lanes side by side: place 4t + j is lane j at N + t.
use Rattle.std.specs.Prelude.{◌≡◌, List, ℕ, ◌+◌, ◌-◌, ◌*◌, ◌%◌, ◌<◌}
use Rattle.lists.specs.Pieces.{piece}
use Rattle.algebra.specs.Prime.{q}
use Rattle.algebra.specs.Numbers.{eval_n, interp_n}
use Rattle.stepping.specs.Lanes.{entry, KeptLanes}
use Rattle.scheme.specs.Sizes.{Sizes, width, points}
use Rattle.scheme.specs.Layers.{Lent, column, extended}
use Rattle.lent.specs.Rows.{strided}

-- every step-th element lowered by a blind, these `apart` from each other
abbrev pub strided_difference : List ℕ → ℕ → ℕ → List ℕ → ℕ → ℕ → ℕ → ℕ
strided_difference elements first step blinds start apart i = (strided elements first step i + (q - strided blinds start apart i)) % q

-- from place `to` on lane j has the first values of f, and before it what it had
unfoldable pub Gathered : (ℕ → ℕ) → ℕ → ℕ → ℕ → List ℕ → List ℕ → Type 0
Gathered f count to j old values = ((i : ℕ) → i < count → entry values (4 * (to + i) + j) ≡ f i) × ((t : ℕ) → t < to → entry values (4 * t + j) ≡ entry old (4 * t + j))

-- in lane j alone a row has taken the columns of polynomial i
abbrev pub EntriesGathered : Sizes → Lent → ℕ → ℕ → ℕ → List ℕ → List ℕ → Type 0
EntriesGathered s l i row j old values =
    KeptLanes old j values × Gathered (λ (t : ℕ). entry (column s l (s.ν * i + t)) row) s.ν (s.ν * i) j old values

-- lane j is a row
unfoldable pub Lane : List ℕ → ℕ → ℕ → List ℕ → Type 0
Lane row width j values = (t : ℕ) → t < width → entry values (4 * t + j) ≡ entry row t

-- lane j is row lo + j with its tails
unfoldable pub RowLanes : Sizes → Lent → ℕ → ℕ → List ℕ → Type 0
RowLanes s l lo lanes values = (j : ℕ) → j < lanes → Lane (extended s l (lo + j)) (width s) j values

-- lane k has the values of mask k at the points first, .., first + i - 1
unfoldable pub MaskLanes : ℕ → List ℕ → ℕ → ℕ → ℕ → List ℕ → Type 0
MaskLanes first masks width eta i values = (t k : ℕ) → t < i → k < eta → entry values (4 * t + k) ≡ eval_n (piece width k masks) (first + t)

-- P_j, the polynomial through row j with its tails
abbrev pub row_polynomial : Sizes → Lent → ℕ → List ℕ
row_polynomial s l j = interp_n (points s) (extended s l j)
