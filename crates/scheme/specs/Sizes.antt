-- The sizes of a commitment, and the numbers that follow from them.
use Rattle.std.specs.Prelude.{Bool, List, [], ◌∷◌, ℕ, ◌+◌, ◌-◌, ◌*◌, ◌^◌, ◌≤◌, leb, ltb}
use Rattle.algebra.specs.Prime.{q}
use Rattle.lists.specs.Bytes.{Bytes}
use Rattle.lists.specs.Range.{up_from}
use Rattle.lists.specs.Tests.{every, all, within}

-- depth h, rows of coefficients μ, columns per polynomial ν, polynomials w, opened leaves ℓ, batching repetitions η, blinding rows β
pub record Sizes : Type 0 where
  pub h : ℕ
  pub μ : ℕ
  pub ν : ℕ
  pub w : ℕ
  pub ℓ : ℕ
  pub η : ℕ
  pub β : ℕ

abbrev pub sizes_of : ℕ → ℕ → ℕ → ℕ → ℕ → ℕ → ℕ → Sizes
sizes_of h μ ν w ℓ η β = record { h = h; μ = μ; ν = ν; w = w; ℓ = ℓ; η = η; β = β }

-- the children of a node of the tree, the levels below its root, and what a node's string begins with, 0x01 and the salt: a function of the sizes each, so that one place says it
abbrev pub arity : Sizes → ℕ
arity s = 2

abbrev pub levels : Sizes → ℕ
levels s = s.h

abbrev pub node_prefix : Sizes → Bytes → Bytes
node_prefix s salt = 1 ∷ salt

-- N, the number of leaves
abbrev pub leaves : Sizes → ℕ
leaves s = 2 ^ s.h

-- all columns, wν
abbrev pub columns : Sizes → ℕ
columns s = s.w * s.ν

-- the rows of the matrix, μ + β
abbrev pub rows : Sizes → ℕ
rows s = s.μ + s.β

-- the coefficients of a polynomial, μν + β
abbrev pub coefficient_count : Sizes → ℕ
coefficient_count s = s.μ * s.ν + s.β

-- the blinds of a polynomial: β in each of its columns but the last
abbrev pub blind_count : Sizes → ℕ
blind_count s = (s.ν - 1) * s.β

-- d + 1: the value points and the tail points, and the coefficients of a row's polynomial
abbrev pub width : Sizes → ℕ
width s = columns s + s.ℓ

-- d, the row degree bound
abbrev pub degree : Sizes → ℕ
degree s = width s - 1

-- the values of a leaf record: rows, then masks
abbrev pub record_values : Sizes → ℕ
record_values s = rows s + s.η

-- e_i, the point of leaf i
abbrev pub leaf_point : ℕ → ℕ
leaf_point i = i

-- the value points N to N + wν - 1 and the ℓ tail points after them
abbrev pub points : Sizes → List ℕ
points s = up_from (leaves s) (width s)

-- each size in its range, wν + ℓ at most N, β at most μ, and μ + β at most 64
unfoldable pub sizes_ok : Sizes → Bool
sizes_ok s =
    every
    (within 1 12 s.h ∷ within 1 64 s.μ ∷ within 1 256 s.ν ∷ within 1 256 s.w ∷ leb (columns s) 256 ∷ within 1 64 s.ℓ
    ∷ within 1 4 s.η ∷ leb (width s) (leaves s) ∷ within 0 16 s.β ∷ leb s.β s.μ ∷ leb (rows s) 64 ∷ [])

-- the same as facts
pub record SizesInOrder (s : Sizes) : Type 0 where
  pub h_low : 1 ≤ s.h
  pub h_high : s.h ≤ 12
  pub μ_low : 1 ≤ s.μ
  pub μ_high : s.μ ≤ 64
  pub ν-low : 1 ≤ s.ν
  pub w_low : 1 ≤ s.w
  pub columns-high : columns s ≤ 256
  pub ℓ-low : 1 ≤ s.ℓ
  pub ℓ-high : s.ℓ ≤ 64
  pub η-low : 1 ≤ s.η
  pub η-high : s.η ≤ 4
  pub fits : width s ≤ leaves s
  pub β-high : s.β ≤ 16
  pub β-fits : s.β ≤ s.μ
  pub rows-high : rows s ≤ 64

-- the largest numbers that sizes in order give: leaves, rows, the width, values of a record; and points of a question
abbrev pub most_leaves : ℕ
most_leaves = 4096

abbrev pub most_rows : ℕ
most_rows = 64

abbrev pub most_width : ℕ
most_width = 320

abbrev pub most_values : ℕ
most_values = 68

abbrev pub most_points : ℕ
most_points = 8

-- m, the number of evaluation points, in its range
abbrev pub points_ok : ℕ → Bool
points_ok m = within 1 8 m

-- field elements: words below q
abbrev pub elements : List ℕ → Bool
elements xs = all (λ x. ltb x q) xs
