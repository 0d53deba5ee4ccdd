-- A line: its three numbers and three separators, one after the other, in a room of 24 bytes.
use mathlib.Core.Path.{◌≡◌, ap}
use mathlib.Core.List.{[], ◌∷◌, ◌++◌}
use Prim.Native.Nat.{ℕ, ◌+◌, ◌≤◌, ◌<◌}
use native.Mathlib.Omega.{arith}
use lib.ListN.{length, length-append}
use Rattle.lists.specs.Bytes.{Bytes}
use Rattle.scheme.specs.Program.{decimal, value_line}
use Rattle.report.specs.Written.{written}
use Rattle.report.proofs.Writing.{written_more, left_over}
use Rattle.report.proofs.Decimal.{decimal_one, decimal_few}

pub length_line : (p i v : ℕ) → p < 9 → length (value_line p i v) ≤ 24
unfolding value_line
length_line p i v small =
    omega (
      arith,
      length-append (decimal (p + 1)) (32 ∷ (decimal (i + 1) ++ (32 ∷ (decimal v ++ (10 ∷ []))))),
      length-append (decimal (i + 1)) (32 ∷ (decimal v ++ (10 ∷ []))),
      length-append (decimal v) (10 ∷ []),
      ap length (decimal_one (p + 1) (omega arith)),
      decimal_few (i + 1),
      decimal_few v,
    )

module _ (out : Bytes) (at p i v : ℕ) (small : p < 9) (room : at + 24 ≤ length out) (r₁ : ℕ) (o₁ : Bytes) (e₁ : (r₁, o₁) ≡ written out at (decimal (p + 1))) where
  pub after_point : r₁ + 23 ≤ length o₁
  after_point = left_over out at (decimal (p + 1)) r₁ o₁ 24 23 room (omega (arith, ap length (decimal_one (p + 1) (omega arith)))) e₁

  module _ (r₂ : ℕ) (o₂ : Bytes) (e₂ : (r₂, o₂) ≡ written o₁ r₁ (32 ∷ [])) where
    pub after_first : r₂ + 22 ≤ length o₂
    after_first = left_over o₁ r₁ (32 ∷ []) r₂ o₂ 23 22 after_point (omega arith) e₂

    module _ (r₃ : ℕ) (o₃ : Bytes) (e₃ : (r₃, o₃) ≡ written o₂ r₂ (decimal (i + 1))) where
      pub after_polynomial : r₃ + 12 ≤ length o₃
      after_polynomial = left_over o₂ r₂ (decimal (i + 1)) r₃ o₃ 22 12 after_first (omega (arith, decimal_few (i + 1))) e₃

      module _ (r₄ : ℕ) (o₄ : Bytes) (e₄ : (r₄, o₄) ≡ written o₃ r₃ (32 ∷ [])) where
        pub after_second : r₄ + 11 ≤ length o₄
        after_second = left_over o₃ r₃ (32 ∷ []) r₄ o₄ 12 11 after_polynomial (omega arith) e₄

        module _ (r₅ : ℕ) (o₅ : Bytes) (e₅ : (r₅, o₅) ≡ written o₄ r₄ (decimal v)) where
          pub after_value : r₅ + 1 ≤ length o₅
          after_value = left_over o₄ r₄ (decimal v) r₅ o₅ 11 1 after_second (omega (arith, decimal_few v)) e₅

          pub whole_line : (z : ℕ × Bytes) → z ≡ written o₅ r₅ (10 ∷ []) → z ≡ written out at (value_line p i v)
          unfolding value_line
          whole_line z e₆ =
              let f = length_line p i v small in
              written_more out at (decimal (p + 1)) (32 ∷ (decimal (i + 1) ++ (32 ∷ (decimal v ++ (10 ∷ []))))) r₁ o₁ z (omega (arith, ap length (decimal_one (p + 1) (omega arith)))) e₁
              (written_more o₁ r₁ (32 ∷ []) (decimal (i + 1) ++ (32 ∷ (decimal v ++ (10 ∷ [])))) r₂ o₂ z (omega (arith, after_point)) e₂
              (written_more o₂ r₂ (decimal (i + 1)) (32 ∷ (decimal v ++ (10 ∷ []))) r₃ o₃ z (omega (arith, after_first, decimal_few (i + 1))) e₃
              (written_more o₃ r₃ (32 ∷ []) (decimal v ++ (10 ∷ [])) r₄ o₄ z (omega (arith, after_polynomial)) e₄
              (written_more o₄ r₄ (decimal v) (10 ∷ []) r₅ o₅ z (omega (arith, after_second, decimal_few v)) e₅ e₆))))
