-- `offline_question::offline_body` meets its contract.
use mathlib.Core.Bool.{not}
use Rattle.lists.specs.Bytes.{words}
use lib.ListN.{length, drop}
use Rattle.scheme.specs.Sizes.{elements}
use Prim.Native.Nat.{ℕ}
use Rattle.fiat_shamir.specs.Offline.{most_bits, offline_length}
use borrow.Author.Tests.{lt-ltb, le-ltb, ne_eqb, eq-eqb}
use mathlib.Core.Path.{◌∙◌, ap, subst, ◌≡◌, sym}
use Rattle.question.proofs.Answer.{well_headed}
use Rattle.offline_question.proofs.Order.{body_decides}
use Rattle.lists.specs.Tests.{within_high, verdict_of}
use borrow.Author.Rules.{rules}
use native.Mathlib.Omega.{arith}
use Rattle.offline_question.proofs.offline_body.Goals as goal

pub returns-then-kappa-gt-MOST_BITS : goal.returns-then-kappa-gt-MOST_BITS
unfolding verdict_of
returns-then-kappa-gt-MOST_BITS c =
    let s = c.args in
    simp (body_decides s.question.now s.kappa s.s s.m c.requires, lt-ltb most_bits s.kappa (search rules))

pub offline_length-requires : goal.offline_length-requires
offline_length-requires c =
    let s = c.args in
    within_high 1 8 s.m (well_headed s.question.now s.s s.m c.requires).points_ok_lem

pub returns-then-question-offline_length : goal.returns-then-question-offline_length
unfolding verdict_of
returns-then-question-offline_length c =
    let s = c.args in
    simp (
      body_decides s.question.now s.kappa s.s s.m c.requires,
      le-ltb most_bits s.kappa (search rules),
      ne_eqb (length s.question.now) (offline_length s.m) (subst (λ (n : ℕ). length s.question.now ≡ n → ⊥) c.offline_length.ensures c.if-question-offline_length.true),
    )

pub elements_in-requires : goal.elements_in-requires
elements_in-requires c = omega (arith, c.challenges_at.ensures, c.offline_length.ensures, c.if-question-offline_length.false)

pub returns-then-not-elements_in : goal.returns-then-not-elements_in
unfolding verdict_of
returns-then-not-elements_in c =
    let s = c.args in
    let e = c.elements_in.ensures ∙ ap (λ (k : ℕ). elements (words s.m (drop k s.question.now))) c.challenges_at.ensures in
    simp (
      body_decides s.question.now s.kappa s.s s.m c.requires,
      le-ltb most_bits s.kappa (search rules),
      eq-eqb (length s.question.now) (offline_length s.m) (c.if-question-offline_length.false ∙ c.offline_length.ensures),
      ap not (sym e) ∙ (ap not c.if-not-elements_in.true),
    )

pub returns : goal.returns
unfolding verdict_of
returns c =
    let s = c.args in
    let e = c.elements_in.ensures ∙ ap (λ (k : ℕ). elements (words s.m (drop k s.question.now))) c.challenges_at.ensures in
    simp (
      body_decides s.question.now s.kappa s.s s.m c.requires,
      le-ltb most_bits s.kappa (search rules),
      eq-eqb (length s.question.now) (offline_length s.m) (c.if-question-offline_length.false ∙ c.offline_length.ensures),
      ap not (sym e) ∙ (ap not c.if-not-elements_in.false),
    )
