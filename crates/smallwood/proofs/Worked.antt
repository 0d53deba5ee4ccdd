-- What a planner was told is what the check ran: a call of `permutations`, or of its entry for C, and a call of `check` with the same question, each as its contract
-- describes it. The permutations of a check never exceed ℓ (3 + h).
use mathlib.Core.Path.{◌≡◌, sym, ap, ◌∙◌, subst}
use mathlib.Core.Bool.{true}
use Prim.Native.Nat.{ℕ, ◌≤◌}
use contract.Lifetimes.{Lfts}
use denote.Triple.Clauses.{AtExit}
use borrow.Fn.Kinds.{Dens, res_t, ended_of}
use lib.Dec.{eqb}
use Rattle.lists.specs.Bytes.{Bytes}
use Rattle.lists.specs.Choice.{pick}
use Rattle.scheme.specs.Question.{read_question}
use Rattle.scheme.specs.Sizing.{planning_c}
use Rattle.scheme.specs.Work.{after_hashing, counting, counting_c, work_bound, Counted}
use Rattle.scheme.proofs.Work.{all_counted}
use Rattle.refusal.specs.Numbers.{number_of, given}
use Rattle.planner.proofs.permutations.Kinds as plan-kinds
use Rattle.planner.proofs.permutations.Reads as plan
use Rattle.checker.proofs.check.Kinds as check-kinds
use Rattle.checker.proofs.check.Reads as check
use Rattle.smallwood.proofs.smallwood_permutations.Kinds as c-plan-kinds
use Rattle.smallwood.proofs.smallwood_permutations.Reads as c-plan

module _ (κs : Lfts 3) (a : Dens κs check-kinds.ps) (r : (res_t check-kinds.r κs).Denot) (e : AtExit (ended_of 3 check-kinds.ps check-kinds.r) κs) (h : check.Learnt κs a r e) where
  abbrev asked : Bytes
  asked = a.0.now

  work-counted : Counted asked (number_of r.outcome, r.permutations, e.1.1.0.now)
  work-counted = subst (Counted asked) (sym h) (all_counted asked a.1.0.now a.1.1.0.now)

  pub never_over : r.permutations ≤ work_bound (read_question asked).sizes
  never_over = work-counted.bounded

  module _ (hashing : after_hashing (number_of r.outcome) ≡ true) where
    -- the entry of Rattle
    pub foretold : (κ₁ : Lfts 1) (a₁ : Dens κ₁ plan-kinds.ps) (r₁ : (res_t plan-kinds.r κ₁).Denot) (e₁ : AtExit (ended_of 1 plan-kinds.ps plan-kinds.r) κ₁) → plan.Learnt κ₁ a₁ r₁ e₁
        → a₁.0.now ≡ asked → (number_of r₁ ≡ 0) × (given r₁ ≡ r.permutations)
    foretold κ₁ a₁ r₁ e₁ h₁ same =
        let k : ◌≡◌ {A = ℕ × ℕ} (number_of r₁, given r₁) (0, r.permutations) = h₁ ∙ ap counting same ∙ work-counted.planned hashing in
        (ap (λ (z : ℕ × ℕ). z.0) k, ap (λ (z : ℕ × ℕ). z.1) k)

    -- the entry for C
    pub foretold_c : (κ₁ : Lfts 2) (a₁ : Dens κ₁ c-plan-kinds.ps) (r₁ : (res_t c-plan-kinds.r κ₁).Denot) (e₁ : AtExit (ended_of 2 c-plan-kinds.ps c-plan-kinds.r) κ₁) → c-plan.Learnt κ₁ a₁ r₁ e₁
        → a₁.0.now ≡ asked → (r₁ ≡ 0) × (e₁.1.0.now ≡ r.permutations)
    unfolding planning_c
    foretold_c κ₁ a₁ r₁ e₁ h₁ same =
        let before : ℕ = a₁.1.0.now in
        let k : ◌≡◌ {A = ℕ × ℕ} (r₁, e₁.1.0.now) (0, r.permutations) =
        h₁ ∙ ap (λ (q : Bytes). counting_c q before) same ∙ ap (λ (z : ℕ × ℕ). (z.0, pick (eqb z.0 0) z.1 before)) (work-counted.planned hashing) in
        (ap (λ (z : ℕ × ℕ). z.0) k, ap (λ (z : ℕ × ℕ). z.1) k)
