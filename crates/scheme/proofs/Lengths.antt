-- One length, three users: what sizing answers, opening fills and the check's 7 asks for is one number.
use mathlib.Core.Path.{◌≡◌, refl, sym, ap, ◌∙◌, subst}
use mathlib.Core.Logic.{◌≢◌}
use mathlib.Core.Bool.{Bool, true, false, not, ◌&&◌}
use mathlib.Core.List.{List, [], ◌∷◌, ◌++◌}
use Prim.Native.Nat.{ℕ, ◌*◌, ◌≤◌, ◌<◌}
use native.Mathlib.Nat.{pos_of_ne-zero, ne_of_gt, mul-le-mul, one-mul, suc_inj, suc-ne-zero}
use native.Mathlib.Omega.{arith}
use lib.Dec.{eqb}
use lib.ListN.{length}
use borrow.Author.Tests.{eq-eqb, ne_eqb}
use Rattle.lists.specs.Bytes.{Bytes}
use Rattle.lists.specs.Choice.{and_false}
use Rattle.lists.specs.Tests.{every, every_true, verdict_hit, verdict_miss, verdict_go, verdict_stop, verdict_other}
use Rattle.tree.specs.Sets.{missing}
use Rattle.tree.proofs.Counts.{missing_bound, missing_one}
use Rattle.scheme.specs.Sizes.{width}
use Rattle.scheme.specs.Layers.{Lent}
use Rattle.scheme.specs.Question.{Question, read_question, question_tests, question_verdict}
use Rattle.scheme.specs.Reply.{reply_length, reply_bound}
use Rattle.scheme.specs.Commit.{lent_ok, filled_ok}
use Rattle.scheme.specs.Open.{lengths_ok, open_verdict, opening}
use Rattle.scheme.specs.Check.{buffer_test, reply_tests, check_verdict, checking, checking_c}
use Rattle.scheme.specs.Collect.{Entry, for_rust, for_c, does}
use Rattle.scheme.specs.Lengths.{values_length, Agreed, OneLength}
use Rattle.scheme.proofs.Accepted.{Asked, well_formed, question_numbers}
use Rattle.scheme.proofs.Bound.{indices_length}
use Rattle.scheme.proofs.Opening.{planned_is, planning-number, asked_verdict, lent_passed, verdict_2, opening-refused, opening_done, opening-number}
use Rattle.scheme.proofs.Parts.{reply_sized}

-- a reply never has more than ℓ·h nodes
pub reply_bounded : (question : Bytes) → question_verdict question ≡ 0 → reply_length (read_question question) ≤ reply_bound (read_question question).sizes (read_question question).m
reply_bounded question wf =
    let u : Question = read_question question in
    omega (arith, missing_bound 1 u.sizes.h u.indices (well_formed question wf).indices_rising, ap (λ (n : ℕ). n * 1 * u.sizes.h) (indices_length question))

-- and has as many where one leaf is opened
missing-alone : (h : ℕ) (s : List ℕ) → length s ≡ 1 → length (missing 2 h s) ≡ h
missing-alone h [] e = absurd (suc-ne-zero 0 (sym e))
missing-alone h (i ∷ []) e = missing_one 1 h i ∙ one-mul h
missing-alone h (i ∷ j ∷ s) e = absurd (suc-ne-zero (length s) (suc_inj e))

pub bound_reached : (question : Bytes) → (read_question question).sizes.ℓ ≡ 1 → reply_length (read_question question) ≡ reply_bound (read_question question).sizes (read_question question).m
bound_reached question e =
    let u : Question = read_question question in
    omega (arith, missing-alone u.sizes.h u.indices (indices_length question ∙ e), ap (λ (n : ℕ). n * u.sizes.h) e)

-- it has some bytes
pub some_bytes : (u : Question) → Asked u → 0 < reply_length u
some_bytes u a =
    let w : 1 ≤ 4 * width u.sizes = omega (arith, a.in_order.ℓ-low) in
    let h : 1 * 1 ≤ 4 * width u.sizes * u.sizes.η = mul-le-mul w a.in_order.η-low in
    omega arith

module _ (question : Bytes) where
  abbrev u : Question
  u = read_question question

  -- ---- the check

  module _ (unit : ℕ) (reply : Bytes) (n : ℕ) where
    check_7 : question_verdict question ≡ 0 → n ≡ unit * (u.sizes.w * u.m) → length reply ≢ reply_length u → check_verdict unit question reply n ≡ 7
    unfolding check_verdict reply_tests
    check_7 wf e f =
        verdict_go (question_tests question) _ (question_numbers question) wf
        ∙ verdict_miss 2 (not (eqb n (unit * (u.sizes.w * u.m)))) _ (ap not (eq-eqb n (unit * (u.sizes.w * u.m)) e))
        ∙ verdict_hit 7 (not (eqb (length reply) (reply_length u))) _ (ap not (ne_eqb (length reply) (reply_length u) f))

    check_not_7 : length reply ≡ reply_length u → check_verdict unit question reply n ≢ 7
    unfolding check_verdict question_tests reply_tests
    check_not_7 e =
        verdict_other 7 (question_tests question ++ (buffer_test unit u n ∷ reply_tests u reply)) (λ z. absurd (omega (arith, z)))
        (refl, (refl, (refl, (refl, (refl, (refl, (refl, (ap not (eq-eqb (length reply) (reply_length u) e), (refl, (refl, (refl, (refl, tt))))))))))))

    check_asked : (v : ℕ) → 0 < v → question_verdict question ≡ v → check_verdict unit question reply n ≡ v
    unfolding check_verdict
    check_asked v p e = verdict_stop (question_tests question) _ v p e

  refused_rust : (v : ℕ) (reply : Bytes) (values : List ℕ) → 0 < v → check_verdict 1 question reply (length values) ≡ v → checking question reply values ≡ (v, values)
  unfolding checking
  refused_rust v reply values p e = rw (e, ne_eqb v 0 (ne_of_gt p)) refl

  refused_c : (v : ℕ) (reply : Bytes) (values : Bytes) → 0 < v → check_verdict 4 question reply (length values) ≡ v → checking_c question reply values ≡ (v, values)
  unfolding checking_c
  refused_c v reply values p e = rw (e, ne_eqb v 0 (ne_of_gt p)) refl

  number_rust : (reply : Bytes) (values : List ℕ) → (checking question reply values).0 ≡ check_verdict 1 question reply (length values)
  unfolding checking
  number_rust reply values = refl

  number_c : (reply : Bytes) (values : Bytes) → (checking_c question reply values).0 ≡ check_verdict 4 question reply (length values)
  unfolding checking_c
  number_c reply values = refl

  one : (k : ℕ) → k ≡ 1 * k
  one k = omega arith

  says_7 : question_verdict question ≡ 0 → (e : Entry) (reply : Bytes) (values : List ℕ) → length values ≡ values_length e question → length reply ≢ reply_length u
      → does e question reply values ≡ (7, values)
  says_7 wf for_rust reply values l f = refused_rust 7 reply values (omega arith) (check_7 1 reply (length values) wf (l ∙ one (u.sizes.w * u.m)) f)
  says_7 wf for_c reply values l f = refused_c 7 reply values (omega arith) (check_7 4 reply (length values) wf l f)

  not_7 : (e : Entry) (reply : Bytes) (values : List ℕ) → length reply ≡ reply_length u → (does e question reply values).0 ≢ 7
  not_7 for_rust reply values l = λ k. check_not_7 1 reply (length values) l (sym (number_rust reply values) ∙ k)
  not_7 for_c reply values l = λ k. check_not_7 4 reply (length values) l (sym (number_c reply values) ∙ k)

  says_v : (v : ℕ) → 0 < v → question_verdict question ≡ v → (e : Entry) (reply : Bytes) (values : List ℕ) → does e question reply values ≡ (v, values)
  says_v v p q for_rust reply values = refused_rust v reply values p (check_asked 1 reply (length values) v p q)
  says_v v p q for_c reply values = refused_c v reply values p (check_asked 4 reply (length values) v p q)

  -- ---- the opener

  other_length : (l : Lent) (table : List ℕ) (nodes buffer : Bytes) → length buffer ≢ reply_length u → lengths_ok u l table nodes buffer ≡ false
  unfolding every
  other_length l table nodes buffer f =
      and_false (lent_ok u.sizes l) _ (and_false (filled_ok u.sizes table nodes) _ (ap (λ (b : Bool). b && true) (ne_eqb (length buffer) (reply_length u) f)))

  refuses_other : question_verdict question ≡ 0 → (l : Lent) (table : List ℕ) (nodes buffer : Bytes) → length buffer ≢ reply_length u
      → opening question l table nodes buffer ≡ (2, 0, buffer)
  refuses_other wf l table nodes buffer f =
      opening-refused question l table nodes buffer 2 (omega arith) (verdict_2 question l table nodes buffer wf (other_length l table nodes buffer f))

  fills : question_verdict question ≡ 0 → (l : Lent) (table : List ℕ) (nodes buffer : Bytes) → (opening question l table nodes buffer).0 ≡ 0
      → ((opening question l table nodes buffer).1 ≡ reply_length u) × (length (opening question l table nodes buffer).2 ≡ reply_length u)
  fills wf l table nodes buffer e =
      let z : open_verdict question l table nodes buffer ≡ 0 = sym (opening-number question l table nodes buffer) ∙ e in
      let d = opening_done question l table nodes buffer z in
      let t = every_true _ (lent_passed question l table nodes buffer z).0 in (
        ap (λ (r : ℕ × ℕ × Bytes). r.1) d,
        ap (λ (r : ℕ × ℕ × Bytes). length r.2) d ∙ reply_sized question l table nodes (well_formed question wf) t.0 t.1.0,
      )

  agreed : question_verdict question ≡ 0 → Agreed question (reply_length u)
  agreed wf = record {
    bounded = reply_bounded question wf;
    other_buffer = refuses_other wf;
    filled = fills wf;
    other_reply = says_7 wf;
    this_reply = not_7;
  }

  pub one_length : OneLength question
  one_length = (
    λ n e. let k = planned_is reply_length question n e in subst (Agreed question) k.1 (agreed k.0),
    λ v f e.
        let p : 0 < v = pos_of_ne-zero f in
        let q : question_verdict question ≡ v = sym (planning-number reply_length question) ∙ e in
        record {
          opener = λ l table nodes buffer. opening-refused question l table nodes buffer v p (asked_verdict question l table nodes buffer v p q);
          check = says_v v p q;
        },
  )
