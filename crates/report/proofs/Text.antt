-- The text of a verdict: `verdict `, the number, a line end, and after verdict 0 the lines of the values.
use mathlib.Core.Path.{◌≡◌, refl, sym, ap, ◌∙◌}
use mathlib.Core.Bool.{Bool, true, false}
use mathlib.Core.List.{[], ◌∷◌, ◌++◌, append_assoc, append-nil}
use Prim.Native.Nat.{ℕ, ◌+◌, ◌*◌, ◌≤◌}
use native.Mathlib.Nat.{mul-le-mul}
use native.Mathlib.Omega.{arith}
use lib.Dec.{eqb}
use lib.ListN.{length, take, drop, length-append}
use borrow.Author.Tests.{eq-eqb, ne_eqb}
use Rattle.lists.specs.Choice.{pick}
use Rattle.lists.specs.Bytes.{Bytes}
use Rattle.scheme.specs.Program.{decimal, text}
use Rattle.report.specs.Written.{written}
use Rattle.report.proofs.Writing.{written_more, left_over}
use Rattle.report.proofs.Decimal.{decimal_few}

-- `verdict `
abbrev head : Bytes
head = 0x76 ∷ 0x65 ∷ 0x72 ∷ 0x64 ∷ 0x69 ∷ 0x63 ∷ 0x74 ∷ 32 ∷ []

first_line : (v : ℕ) → text v [] ≡ head ++ (decimal v ++ (10 ∷ []))
unfolding text
first_line v = ap (λ (t : Bytes). head ++ (decimal v ++ (10 ∷ t))) (neither (eqb v 0))
  where
    neither : (b : Bool) → ◌≡◌ {A = Bytes} (pick b [] []) []
    neither true = refl
    neither false = refl

text_lines : (v : ℕ) (rows : Bytes) → text v rows ≡ text v [] ++ pick (eqb v 0) rows []
unfolding text
text_lines v rows =
    sym (ap (λ (t : Bytes). t ++ pick (eqb v 0) rows []) (first_line v)
    ∙ append_assoc head (decimal v ++ (10 ∷ [])) (pick (eqb v 0) rows [])
    ∙ ap (λ (t : Bytes). head ++ t) (append_assoc (decimal v) (10 ∷ []) (pick (eqb v 0) rows [])))

-- a verdict that is not 0 has no lines
pub text-refused : (v : ℕ) (rows : Bytes) → (v ≡ 0 → ⊥) → text v rows ≡ text v []
text-refused v rows k = text_lines v rows ∙ ap (λ (b : Bool). text v [] ++ pick b rows []) (ne_eqb v 0 k) ∙ append-nil (text v [])

short : (v : ℕ) → length (text v []) ≤ 19
short v = omega (arith, ap length (first_line v), length-append (decimal v) (10 ∷ []), decimal_few v)

-- ---- the first line

module _ (out : Bytes) (v : ℕ) (room : 19 ≤ length out) (o₁ : Bytes) (e₁ : o₁ ≡ take 0 out ++ (head ++ drop (0 + 8) out)) where
  begun : (8, o₁) ≡ written out 0 head
  begun = ap (λ (o : Bytes). (8, o)) e₁

  pub after_head : 8 + 11 ≤ length o₁
  after_head = left_over out 0 head 8 o₁ 19 11 (omega arith) (omega arith) begun

  module _ (r₂ : ℕ) (o₂ : Bytes) (e₂ : (r₂, o₂) ≡ written o₁ 8 (decimal v)) where
    pub after_number : r₂ + 1 ≤ length o₂
    after_number = left_over o₁ 8 (decimal v) r₂ o₂ 11 1 after_head (omega (arith, decimal_few v)) e₂

    pub whole_first : (z : ℕ × Bytes) → z ≡ written o₂ r₂ (10 ∷ []) → z ≡ written out 0 (text v [])
    whole_first z e₃ =
        written_more out 0 head (decimal v ++ (10 ∷ [])) 8 o₁ z (omega arith) begun
        (written_more o₁ 8 (decimal v) (10 ∷ []) r₂ o₂ z (omega (arith, after_head, decimal_few v)) e₂ e₃)
        ∙ ap (written out 0) (sym (first_line v))

-- ---- the lines after it

module _ (out : Bytes) (v : ℕ) (rows : Bytes) (room : length out ≡ 65536) (r : ℕ) (o : Bytes) (e : (r, o) ≡ written out 0 (text v [])) where
  pub lines_room : (m w : ℕ) → m ≤ 8 → w ≤ 256 → r + 24 * (w * m) ≤ length o
  lines_room m w hm hw =
      let h : w * m ≤ 256 * 8 = mul-le-mul hw hm in
      left_over out 0 (text v []) r o 65536 (24 * (w * m)) (omega arith) (omega (arith, short v)) e

  pub accepted-text : v ≡ 0 → (z : ℕ × Bytes) → z ≡ written o r rows → z ≡ written out 0 (text v rows)
  accepted-text k z f =
      written_more out 0 (text v []) rows r o z (omega (arith, short v)) e f
      ∙ ap (written out 0) (ap (λ (b : Bool). text v [] ++ pick b rows []) (sym (eq-eqb v 0 k)) ∙ sym (text_lines v rows))

  pub refused-text : (v ≡ 0 → ⊥) → (r, o) ≡ written out 0 (text v rows)
  refused-text k = e ∙ ap (written out 0) (sym (text-refused v rows k))
