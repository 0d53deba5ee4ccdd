-- `question::body` meets its contract.
use mathlib.Core.Path.{◌≡◌, sym, ap, ap₂, ◌∙◌, subst}
use mathlib.Core.Bool.{not}
use Prim.Native.Nat.{ℕ, ◌+◌}
use lib.ListN.{length}
use borrow.Author.Tests.{eq-eqb, ne_eqb}
use Rattle.lists.specs.Tests.{verdict_of, within_high}
use Rattle.lists.specs.Numbers.{numbers}
use Rattle.lists.specs.Scan.{placed}
use Rattle.scheme.specs.Sizes.{elements}
use Rattle.scheme.specs.Question.{question_length}
use Rattle.scheme.proofs.Accepted.{sizes_in_order}
use Rattle.commitment.specs.Shape.{sizes_in}
use Rattle.question.proofs.Answer.{well_headed}
use Rattle.question.proofs.Order.{body_decides}
use native.Mathlib.Omega.{arith}
use Rattle.question.proofs.body.Goals as goal

pub question_length-requires : goal.question_length-requires
question_length-requires c =
    let s = c.args in
    within_high 1 8 s.m (well_headed s.question.now s.s s.m c.requires).points_ok_lem

pub returns-then-question-question_length : goal.returns-then-question-question_length
unfolding verdict_of
returns-then-question-question_length c =
    let s = c.args in
    simp (
      body_decides s.question.now s.s s.m c.requires,
      ne_eqb (length s.question.now) (question_length (sizes_in s.s) s.m)
          (subst (λ (n : ℕ). length s.question.now ≡ n → ⊥) c.question_length.ensures c.if-question-question_length.true),
    )

pub elements_in-requires : goal.elements_in-requires
elements_in-requires c = omega (arith, c.challenges_at.ensures, c.question_length.ensures, c.if-question-question_length.false)

pub returns-then-not-elements_in : goal.returns-then-not-elements_in
unfolding verdict_of
returns-then-not-elements_in c =
    let s = c.args in
    let e = c.elements_in.ensures ∙ ap (λ (k : ℕ). elements (numbers 4 (s.s.eta + s.m) k s.question.now)) c.challenges_at.ensures in
    simp (
      body_decides s.question.now s.s s.m c.requires,
      eq-eqb (length s.question.now) (question_length (sizes_in s.s) s.m)
          (c.if-question-question_length.false ∙ c.question_length.ensures),
      ap not (sym e) ∙ (ap not c.if-not-elements_in.true),
    )

pub leaf_count-leaves-requires : goal.leaf_count-leaves-requires
leaf_count-leaves-requires c =
    let s = c.args in
    (sizes_in_order (sizes_in s.s) (well_headed s.question.now s.s s.m c.requires).sizes_ok_lem).h_high

pub indices_at-requires : goal.indices_at-requires
indices_at-requires c =
    let s = c.args in
    within_high 1 8 s.m (well_headed s.question.now s.s s.m c.requires).points_ok_lem

pub indices_ok-requires : goal.indices_ok-requires
indices_ok-requires c =
    omega (arith, c.indices_at.ensures, c.question_length.ensures, c.if-question-question_length.false)

pub returns-then-not-indices_ok : goal.returns-then-not-indices_ok
unfolding verdict_of
returns-then-not-indices_ok c =
    let s = c.args in
    let e = c.elements_in.ensures ∙ ap (λ (k : ℕ). elements (numbers 4 (s.s.eta + s.m) k s.question.now))
    c.challenges_at.ensures in
    let f = c.indices_ok.ensures ∙ ap₂ (λ (k n : ℕ). placed n (numbers 2 s.s.l k s.question.now)) c.indices_at.ensures c.leaf_count-leaves.ensures in
    simp (
      body_decides s.question.now s.s s.m c.requires,
      eq-eqb (length s.question.now) (question_length (sizes_in s.s) s.m) (c.if-question-question_length.false ∙
          c.question_length.ensures),
      ap not (sym e) ∙ (ap not c.if-not-elements_in.false),
      ap not (sym f) ∙ (ap not c.if-not-indices_ok.true),
    )

pub returns : goal.returns
unfolding verdict_of
returns c =
    let s = c.args in
    let e = c.elements_in.ensures ∙ ap (λ (k : ℕ). elements (numbers 4 (s.s.eta + s.m) k s.question.now))
    c.challenges_at.ensures in
    let f = c.indices_ok.ensures ∙ ap₂ (λ (k n : ℕ). placed n (numbers 2 s.s.l k s.question.now)) c.indices_at.ensures c.leaf_count-leaves.ensures in
    simp (
      body_decides s.question.now s.s s.m c.requires,
      eq-eqb (length s.question.now) (question_length (sizes_in s.s) s.m) (c.if-question-question_length.false ∙
          c.question_length.ensures),
      ap not (sym e) ∙ (ap not c.if-not-elements_in.false),
      ap not (sym f) ∙ (ap not c.if-not-indices_ok.false),
    )
