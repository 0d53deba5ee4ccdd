-- Laws of planning and opening: their verdicts, test by test, and what they leave.
use mathlib.Core.Path.{◌≡◌, refl, sym, ap, ap₂, ◌∙◌}
use mathlib.Core.Bool.{true, false, not}
use mathlib.Core.List.{List, [], ◌∷◌, ◌++◌}
use Prim.Native.Nat.{ℕ, ◌<◌}
use native.Mathlib.Nat.{ne_of_gt}
use native.Mathlib.Omega.{arith}
use lib.Dec.{eqb}
use borrow.Author.Tests.{ne_eqb, not-false}
use Rattle.lists.specs.All.{All, all_append, all_left, all_right}
use Rattle.lists.specs.Bytes.{Bytes}
use Rattle.lists.specs.Choice.{pick, both_true, and_true}
use Rattle.lists.specs.Tests.{Test, verdict_of, same, same_true, same_refl, passed, pass, verdict_hit, verdict_miss, verdict_go, verdict_stop}
use Rattle.scheme.specs.Layers.{Lent}
use Rattle.scheme.specs.Question.{Question, read_question, question_tests, question_verdict}
use Rattle.scheme.specs.Reply.{reply_length}
use Rattle.scheme.specs.Commit.{last_digest}
use Rattle.scheme.specs.Sizing.{planning, planning_c}
use Rattle.scheme.specs.Open.{lengths_ok, words_ok, names_ok, reply_of, open_tests, open_verdict, opening, opening_c}
use Rattle.scheme.proofs.Accepted.{question_numbers}

-- ---- the entries for planners, whatever the number `plan` that questions have

module _ (plan : Question → ℕ) where
  pub planning_is : (question : Bytes) → question_verdict question ≡ 0 → planning plan question ≡ (0, plan (read_question question))
  unfolding planning
  planning_is question e = rw e refl

  pub planning-refused : (question : Bytes) (v : ℕ) → 0 < v → question_verdict question ≡ v → planning plan question ≡ (v, 0)
  unfolding planning
  planning-refused question v p e = rw (e, ne_eqb v 0 (ne_of_gt p)) refl

  pub planning-number : (question : Bytes) → (planning plan question).0 ≡ question_verdict question
  unfolding planning
  planning-number question = refl

  -- where nothing is refused
  pub planned_is : (question : Bytes) (n : ℕ) → planning plan question ≡ (0, n) → (question_verdict question ≡ 0) × (plan (read_question question) ≡ n)
  planned_is question n e =
      let wf : question_verdict question ≡ 0 = sym (planning-number question) ∙ ap (λ (r : ℕ × ℕ). r.0) e in
      (wf, sym (ap (λ (r : ℕ × ℕ). r.1) (planning_is question wf)) ∙ ap (λ (r : ℕ × ℕ). r.1) e)

  -- .. for C
  pub planning_c_lem : (question : Bytes) (before n : ℕ) → planning_c plan question before ≡ (0, n) → planning plan question ≡ (0, n)
  unfolding planning_c
  planning_c_lem question before n e =
      let r : ℕ × ℕ = planning plan question in
      let z : r.0 ≡ 0 = ap (λ (x : ℕ × ℕ). x.0) e in
      ap₂ (λ (v k : ℕ). (v, k)) z (sym (ap (λ (v : ℕ). pick (eqb v 0) r.1 before) z) ∙ ap (λ (x : ℕ × ℕ). x.1) e)

-- ---- the question's root and salt are those that are lent

pub names_true : (root salt : Bytes) (l : Lent) (nodes : Bytes) → root ≡ last_digest nodes → salt ≡ l.salt → names_ok root salt l nodes ≡ true
names_true root salt l nodes e f =
    both_true (same (last_digest nodes) root) (same l.salt salt) (ap (same (last_digest nodes)) e ∙ same_refl (last_digest nodes)) (ap (same l.salt) f ∙ same_refl l.salt)

pub true_names : (root salt : Bytes) (l : Lent) (nodes : Bytes) → names_ok root salt l nodes ≡ true → (last_digest nodes ≡ root) × (l.salt ≡ salt)
true_names root salt l nodes e =
    let s = and_true _ _ e in
    (same_true _ _ s.0, same_true _ _ s.1)

-- ---- opening

module _ (question : Bytes) (l : Lent) (table : List ℕ) (nodes buffer : Bytes) where
  abbrev u : Question
  u = read_question question

  abbrev lent : List Test
  lent = (2, not (lengths_ok u l table nodes buffer)) ∷ (3, not (words_ok l table)) ∷ (8, not (names_ok u.root u.salt l nodes)) ∷ []

  -- the question's own
  pub asked_verdict : (v : ℕ) → 0 < v → question_verdict question ≡ v → open_verdict question l table nodes buffer ≡ v
  unfolding open_verdict open_tests
  asked_verdict v p e = verdict_stop (question_tests question) lent v p e

  all_passed : open_verdict question l table nodes buffer ≡ 0 → All (λ (t : Test). t.1 ≡ false) (question_tests question ++ lent)
  unfolding open_verdict open_tests
  all_passed z = passed (question_tests question ++ lent) (all_append (λ (t : Test). 0 < t.0) (question_tests question) lent (question_numbers question) (omega arith)) z

  pub question_passed : open_verdict question l table nodes buffer ≡ 0 → question_verdict question ≡ 0
  question_passed z = pass (question_tests question) (all_left (λ (t : Test). t.1 ≡ false) (question_tests question) lent (all_passed z))

  pub lent_passed : open_verdict question l table nodes buffer ≡ 0 → (lengths_ok u l table nodes buffer ≡ true) × (words_ok l table ≡ true)
  lent_passed z = let t = all_right (λ (t : Test). t.1 ≡ false) (question_tests question) lent (all_passed z) in (not-false _ t.0, not-false _ t.1.0)

  pub names_passed : open_verdict question l table nodes buffer ≡ 0 → names_ok u.root u.salt l nodes ≡ true
  names_passed z = let t = all_right (λ (t : Test). t.1 ≡ false) (question_tests question) lent (all_passed z) in not-false _ t.1.1.0

  module _ (asked : question_verdict question ≡ 0) where
    go : open_verdict question l table nodes buffer ≡ verdict_of lent
    unfolding open_verdict open_tests
    go = verdict_go (question_tests question) lent (question_numbers question) asked

    pub verdict_2 : lengths_ok u l table nodes buffer ≡ false → open_verdict question l table nodes buffer ≡ 2
    verdict_2 e = go ∙ verdict_hit 2 (not (lengths_ok u l table nodes buffer)) _ (ap not e)

    after_2 : lengths_ok u l table nodes buffer ≡ true → open_verdict question l table nodes buffer ≡ verdict_of ((3, not (words_ok l table)) ∷ (8, not (names_ok u.root u.salt l nodes)) ∷ [])
    after_2 e = go ∙ verdict_miss 2 (not (lengths_ok u l table nodes buffer)) _ (ap not e)

    pub verdict_3 : lengths_ok u l table nodes buffer ≡ true → words_ok l table ≡ false → open_verdict question l table nodes buffer ≡ 3
    verdict_3 e f = after_2 e ∙ verdict_hit 3 (not (words_ok l table)) _ (ap not f)

    after_3 : lengths_ok u l table nodes buffer ≡ true → words_ok l table ≡ true → open_verdict question l table nodes buffer ≡ verdict_of ((8, not (names_ok u.root u.salt l nodes)) ∷ [])
    after_3 e f = after_2 e ∙ verdict_miss 3 (not (words_ok l table)) _ (ap not f)

    pub verdict_8 : lengths_ok u l table nodes buffer ≡ true → words_ok l table ≡ true → names_ok u.root u.salt l nodes ≡ false → open_verdict question l table nodes buffer ≡ 8
    verdict_8 e f g = after_3 e f ∙ verdict_hit 8 (not (names_ok u.root u.salt l nodes)) [] (ap not g)

    pub verdict_0 : lengths_ok u l table nodes buffer ≡ true → words_ok l table ≡ true → names_ok u.root u.salt l nodes ≡ true → open_verdict question l table nodes buffer ≡ 0
    unfolding verdict_of
    verdict_0 e f g = after_3 e f ∙ verdict_miss 8 (not (names_ok u.root u.salt l nodes)) [] (ap not g)

  -- what opening leaves

  pub opening-refused : (v : ℕ) → 0 < v → open_verdict question l table nodes buffer ≡ v → opening question l table nodes buffer ≡ (v, 0, buffer)
  unfolding opening
  opening-refused v p e = rw (e, ne_eqb v 0 (ne_of_gt p)) refl

  pub opening_done : open_verdict question l table nodes buffer ≡ 0 → opening question l table nodes buffer ≡ (0, reply_length u, reply_of u l table nodes)
  unfolding opening
  opening_done e = rw e refl

  pub opening-number : (opening question l table nodes buffer).0 ≡ open_verdict question l table nodes buffer
  unfolding opening
  opening-number = refl

  -- for C, where nothing is refused
  pub opening_c_lem : (before : ℕ) → (opening_c question l table nodes buffer before).0 ≡ 0 → opening_c question l table nodes buffer before ≡ opening question l table nodes buffer
  unfolding opening_c
  opening_c_lem before z =
      let r : ℕ × ℕ × Bytes = opening question l table nodes buffer in
      ap (λ (v : ℕ). (r.0, pick (eqb v 0) r.1 before, r.2)) z
