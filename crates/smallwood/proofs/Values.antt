-- The check on words and the check on bytes.
use mathlib.Core.Path.{◌≡◌, refl, sym, ap, ap₂, ◌∙◌, subst}
use mathlib.Core.Bool.{Bool, true, false, not}
use mathlib.Core.List.{List, ◌∷◌, ◌++◌}
use Prim.Native.Nat.{ℕ, ◌*◌, ◌≤◌, ◌<◌}
use native.Mathlib.Nat.{one-mul, not-suc-le-zero}
use native.Mathlib.Omega.{arith}
use lib.Dec.{eqb}
use lib.ListN.{length}
use borrow.Author.Tests.{eq-eqb, ne_eqb}
use Rattle.lists.specs.Choice.{pick}
use Rattle.lists.specs.Bytes.{Bytes, bytes_of}
use Rattle.lists.specs.Tests.{Test, Numbered, verdict_of, verdict_go, verdict_stop, verdict_hit}
use Rattle.scheme.specs.Sizes.{Sizes, SizesInOrder}
use Rattle.scheme.specs.Question.{Question, read_question, question_tests, question_verdict}
use Rattle.scheme.specs.Reply.{read_reply}
use Rattle.scheme.specs.Commit.{after}
use Rattle.scheme.specs.Check.{check_verdict, check_values, reply_tests, checking, checking_c}
use Rattle.scheme.proofs.Accepted.{well_formed, question_numbers}
use Rattle.commitment.specs.Shape.{sizes_in}
use Rattle.commitment.proofs.Places.{buffer_high}
use Rattle.question.specs.Asked.{Asks}
use Rattle.commitment.specs.declared.Shape.{Shape}
use Rattle.question.proofs.Answer.{well_asked}
use Rattle.smallwood.specs.InBytes.{in_bytes}

-- ---- words written as bytes

once : (b : Bool) (vs words : List ℕ) (before : Bytes) → pick b (bytes_of (pick b vs words)) before ≡ pick b (bytes_of vs) before
once true vs words before = refl
once false vs words before = refl

-- ---- tests, the value buffer's 2 with k values among them, and the values: on words, and on bytes

module _ (tests rest : List Test) (numbered : Numbered tests) (k : ℕ) (vs : List ℕ) (before : Bytes) where
  abbrev verdict_in : ℕ → ℕ → ℕ
  verdict_in unit n = verdict_of (tests ++ ((2, not (eqb n (unit * k))) ∷ rest))

  abbrev on_words : List ℕ → ℕ × List ℕ
  on_words words = (verdict_in 1 (length words), after (verdict_in 1 (length words)) vs words)

  abbrev on_bytes : ℕ × Bytes
  on_bytes = (verdict_in 4 (length before), after (verdict_in 4 (length before)) (bytes_of vs) before)

  -- a refusal changes nothing
  unchanged : (v : ℕ) → 0 < v → verdict_in 4 (length before) ≡ v → (v, before) ≡ on_bytes
  unchanged v p e =
      let n : v ≡ 0 → ⊥ = λ z. not-suc-le-zero (subst (λ (n : ℕ). 0 < n) z p) in
      ap (λ (b : Bool). (v, pick b (bytes_of vs) before)) (sym (ne_eqb v 0 n)) ∙ ap (λ (n : ℕ). (n, after n (bytes_of vs) before)) (sym e)

  pub bytes_stop : (v : ℕ) → 0 < v → verdict_of tests ≡ v → (v, before) ≡ on_bytes
  bytes_stop v p e = unchanged v p (verdict_stop tests _ v p e)

  pub bytes-short : verdict_of tests ≡ 0 → (length before ≡ 4 * k → ⊥) → (2, before) ≡ on_bytes
  bytes-short e n =
      unchanged 2 (omega arith)
      (verdict_go tests _ numbered e ∙ verdict_hit 2 (not (eqb (length before) (4 * k))) rest (ap not (ne_eqb (length before) (4 * k) n)))

  pub bytes_done : (words : List ℕ) (z : ℕ × Bytes) → length before ≡ 4 * k → length words ≡ k → z ≡ in_bytes (on_words words) before → z ≡ on_bytes
  bytes_done words z h l f =
      let v : ℕ = verdict_in 1 (length words) in
      f
      ∙ ap (λ (x : Bytes). (v, x)) (once (eqb v 0) vs words before)
      ∙ ap (λ (b : Bool). (verdict_of (tests ++ ((2, not b) ∷ rest)), after (verdict_of (tests ++ ((2, not b) ∷ rest))) (bytes_of vs) before))
      (eq-eqb (length words) (1 * k) (l ∙ sym (one-mul k)) ∙ sym (eq-eqb (length before) (4 * k) h))

-- ---- the check of a reply

-- the values fit into 2,048 words
pub few_values : (b : Bytes) (s : Shape) (m : ℕ) → Asks b s m → s.w * m ≤ 2048
few_values b s m e =
    let a = well_asked b s m e in
    let h = well_formed b a.0 in
    buffer_high (sizes_in s) (subst SizesInOrder (sym a.1) h.in_order) m (subst (λ (n : ℕ). n ≤ 8) (sym a.2) h.m_high)

module _ (question reply before : Bytes) where
  abbrev u : Question
  u = read_question question

  abbrev k : ℕ
  k = u.sizes.w * u.m

  abbrev vs : List ℕ
  vs = check_values u (read_reply u reply)

  pub question_refused : (v : ℕ) → 0 < v → v ≡ question_verdict question → (v, before) ≡ checking_c question reply before
  unfolding checking_c check_verdict
  question_refused v p e = bytes_stop (question_tests question) (reply_tests u reply) (question_numbers question) k vs before v p (sym e)

  module _ (s : Shape) (m : ℕ) (e : Asks question s m) where
    count : s.w * m ≡ k
    count = let a = well_asked question s m e in ap₂ (λ (t : Sizes) (j : ℕ). t.w * j) a.1 a.2

    pub wrong_length : (length before ≡ 4 * (s.w * m) → ⊥) → (2, before) ≡ checking_c question reply before
    unfolding checking_c check_verdict
    wrong_length n =
        bytes-short (question_tests question) (reply_tests u reply) (question_numbers question) k vs before (well_asked question s m e).0 (λ z. n (z ∙ ap (λ (j : ℕ). 4 * j) (sym count)))

    pub checked-bytes : (words : List ℕ) (z : ℕ × Bytes) → length before ≡ 4 * (s.w * m) → length words ≡ s.w * m
        → z ≡ in_bytes (checking question reply words) before → z ≡ checking_c question reply before
    unfolding checking checking_c check_verdict
    checked-bytes words z h l f =
        bytes_done (question_tests question) (reply_tests u reply) (question_numbers question) k vs before words z (h ∙ ap (λ (j : ℕ). 4 * j) count) (l ∙ count) f
