-- The reply's length, written after verdict 0 and left as it was by a refusal.
use mathlib.Core.Path.{◌≡◌, sym, ap, ◌∙◌, subst}
use mathlib.Core.Bool.{Bool}
use mathlib.Core.List.{List}
use Prim.Native.Nat.{ℕ, ◌<◌}
use native.Mathlib.Nat.{not-suc-le-zero}
use lib.Dec.{eqb}
use borrow.Author.Tests.{ne_eqb}
use Rattle.lists.specs.Choice.{pick}
use Rattle.lists.specs.Bytes.{Bytes}
use Rattle.scheme.specs.Layers.{Lent}
use Rattle.scheme.specs.Question.{Question, read_question}
use Rattle.scheme.specs.Reply.{reply_length}
use Rattle.scheme.specs.Open.{open_verdict, opening, opening_c}
use Rattle.scheme.proofs.Accepted.{well_formed}
use Rattle.scheme.proofs.Opening.{question_passed}
use Rattle.scheme.proofs.Lengths.{some_bytes}
use Rattle.std.specs.Prelude.{Result}
use Rattle.std.specs.Prelude.Result.{Ok, Err}
use Rattle.refusal.specs.declared.Refusal.{Refusal}
use Rattle.refusal.specs.Numbers.{number, number_of, given}
use Rattle.smallwood.specs.Told.{told}

module _ (question : Bytes) (l : Lent) (table : List ℕ) (nodes buffer : Bytes) (before : ℕ) where
  -- a length of 0 comes with a refusal
  refusal : (v : ℕ) (r : Bytes) → (v, 0, r) ≡ opening question l table nodes buffer → v ≡ 0 → ⊥
  unfolding opening
  refusal v r e z =
      let u : Question = read_question question in
      let o : open_verdict question l table nodes buffer ≡ 0 = sym (ap (λ (x : ℕ × ℕ × Bytes). x.0) e) ∙ z in
      let n : 0 ≡ reply_length u = ap (λ (x : ℕ × ℕ × Bytes). x.1) e ∙ ap (λ (k : ℕ). pick (eqb k 0) (reply_length u) 0) o in
      not-suc-le-zero (subst (λ (k : ℕ). 0 < k) (sym n) (some_bytes u (well_formed question (question_passed question l table nodes buffer o))))

  pub length_told : (answer : Result ℕ Refusal) (reply : Bytes) → (number_of answer, given answer, reply) ≡ opening question l table nodes buffer
      → ((told answer before).0, (told answer before).1, reply) ≡ opening_c question l table nodes buffer before
  unfolding opening_c
  length_told (Ok n) reply e = ap (λ (x : ℕ × ℕ × Bytes). (x.0, pick (eqb x.0 0) x.1 before, x.2)) e
  length_told (Err r) reply e =
      ap (λ (b : Bool). (number r, pick b 0 before, reply)) (sym (ne_eqb (number r) 0 (refusal (number r) reply e)))
      ∙ ap (λ (x : ℕ × ℕ × Bytes). (x.0, pick (eqb x.0 0) x.1 before, x.2)) e
