-- The number that a planner is told, written after verdict 0 and left as it was by a refusal.
use mathlib.Core.Path.{◌≡◌, sym, ap, ◌∙◌, subst}
use mathlib.Core.Bool.{Bool}
use Prim.Native.Nat.{ℕ, ◌<◌}
use native.Mathlib.Nat.{not-suc-le-zero}
use lib.Dec.{eqb}
use borrow.Author.Tests.{ne_eqb}
use Rattle.lists.specs.Choice.{pick}
use Rattle.lists.specs.Bytes.{Bytes}
use Rattle.scheme.specs.Question.{Question, read_question, question_verdict}
use Rattle.scheme.specs.Sizing.{planning, planning_c}
use Rattle.scheme.proofs.Opening.{planned_is}
use Rattle.smallwood.specs.Told.{told}
use Rattle.std.specs.Prelude.{Result}
use Rattle.std.specs.Prelude.Result.{Ok, Err}
use Rattle.refusal.specs.declared.Refusal.{Refusal}
use Rattle.refusal.specs.Numbers.{number, number_of, given}

-- a number that is never 0
module _ (plan : Question → ℕ) (question : Bytes) (some : question_verdict question ≡ 0 → 0 < plan (read_question question)) (before : ℕ) where
  -- 0 comes with a refusal
  refusal : (v : ℕ) → (v, 0) ≡ planning plan question → v ≡ 0 → ⊥
  refusal v e z =
      let k = planned_is plan question 0 (sym e ∙ ap (λ (n : ℕ). (n, 0)) z) in
      not-suc-le-zero (subst (λ (n : ℕ). 0 < n) k.1 (some k.0))

  pub told_is : (answer : Result ℕ Refusal) → (number_of answer, given answer) ≡ planning plan question → told answer before ≡ planning_c plan question before
  unfolding planning_c
  told_is (Ok n) e = ap (λ (x : ℕ × ℕ). (x.0, pick (eqb x.0 0) x.1 before)) e
  told_is (Err r) e =
      ap (λ (b : Bool). (number r, pick b 0 before)) (sym (ne_eqb (number r) 0 (refusal (number r) e))) ∙ ap (λ (x : ℕ × ℕ). (x.0, pick (eqb x.0 0) x.1 before)) e
