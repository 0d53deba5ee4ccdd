-- How large the numbers of a reply's layout can be.
use mathlib.Core.Path.{◌≡◌, ap₂}
use mathlib.Core.List.{List}
use Prim.Native.Nat.{ℕ, ◌+◌, ◌*◌, ◌≤◌}
use native.Mathlib.Nat.{mul-le-mul, mul-le-mul_left, mul-le-mul_right, le_trans}
use native.Mathlib.Omega.{arith}
use lib.ListN.{length}
use Rattle.tree.specs.Sets.{missing}
use Rattle.tree.specs.Clauses.{IndexSet}
use Rattle.tree.proofs.Counts.{missing_bound}
use Rattle.scheme.specs.Sizes.{Sizes, SizesInOrder, blind_count, width, record_values}
use Rattle.scheme.specs.Reply.{record_length, answers_at, records_at, nodes_at}

module _ (s : Sizes) (g : SizesInOrder s) where
  pub width-high : width s ≤ 320
  width-high = omega (arith, g.columns-high, g.ℓ-high)

  ν-high : s.ν ≤ 256
  ν-high = let h : 1 * s.ν ≤ s.w * s.ν = mul-le-mul_right s.ν g.w_low in omega (arith, h, g.columns-high)

  pub rows_of_coefficients_high : s.μ * s.ν ≤ 16384
  rows_of_coefficients_high = mul-le-mul {n₂ = 64} {m₂ = 256} g.μ_high ν-high

  pub blinds_high : blind_count s ≤ 4080
  blinds_high = mul-le-mul {n₂ = 255} {m₂ = 16} (omega (arith, ν-high)) g.β-high

  pub values_high : record_values s ≤ 68
  values_high = omega (arith, g.rows-high, g.η-high)

  record_high : record_length s ≤ 304
  record_high = omega (arith, values_high)

  pub answers_high : answers_at s ≤ 5120
  answers_high = mul-le-mul {n₂ = 1280} {m₂ = 4} (omega (arith, width-high)) g.η-high

  pub all_records_high : record_length s * s.ℓ ≤ 19456
  all_records_high = mul-le-mul {n₂ = 304} {m₂ = 64} record_high g.ℓ-high

  module _ (m : ℕ) (h : m ≤ 8) where
    pub answer_bytes : 4 * width s * m ≤ 10240
    answer_bytes = mul-le-mul {n₂ = 1280} {m₂ = 8} (omega (arith, width-high)) h

    pub records_high : records_at s m ≤ 15360
    records_high = omega (arith, answers_high, answer_bytes)

    pub nodes_high : nodes_at s m ≤ 34816
    nodes_high = omega (arith, records_high, all_records_high)

pub missing-high : (h : ℕ) (indices : List ℕ) → IndexSet h indices → length (missing 2 h indices) ≤ 768
missing-high h indices g =
    let a : length indices * 1 ≤ 64 = omega (arith, g.few) in
    le_trans (missing_bound 1 h indices g.rising) (mul-le-mul {n₂ = 64} {m₂ = 12} a g.depth)

-- the bytes of the evaluation answers
pub answers_fit : (s : Sizes) (m wide from n : ℕ) → wide ≡ width s → from ≡ answers_at s → records_at s m ≤ n → from + 4 * (wide * m) ≤ n
answers_fit s m wide from n e f h =
    let g : from + 4 * (wide * m) ≡ answers_at s + 4 * (width s * m) = ap₂ (λ (a w : ℕ). a + 4 * (w * m)) f e in
    omega (arith, g)

pub buffer_high : (s : Sizes) → SizesInOrder s → (m : ℕ) → m ≤ 8 → s.w * m ≤ 2048
buffer_high s g m h =
    let a : s.w * 1 ≤ s.w * s.ν = mul-le-mul_left s.w g.ν-low in
    mul-le-mul {n₂ = 256} {m₂ = 8} (omega (arith, a, g.columns-high)) h
