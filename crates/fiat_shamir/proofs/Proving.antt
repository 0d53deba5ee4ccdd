-- Laws of proving, for every call: the question drawn with a counter, the proof's length, the verdict test by test, and what is left.
use mathlib.Core.Path.{◌≡◌, refl, sym, ap, ap₂, ◌∙◌, subst}
use mathlib.Core.Bool.{Bool, true, false, not}
use mathlib.Core.Logic.{⊎_elim}
use mathlib.Core.List.{List, [], ◌∷◌, ◌++◌, flatten}
use Prim.Native.Nat.{ℕ, ◌+◌, ◌*◌, ◌≤◌, ◌<◌}
use native.Mathlib.Nat.{ne_of_gt, ne_of_lt}
use native.Mathlib.Omega.{arith}
use lib.Dec.{eqb}
use lib.ListN.{length, drop, length-append, length-map}
use borrow.Author.Tests.{eq-eqb, ne_eqb}
use Rattle.lists.specs.Choice.{pick}
use Rattle.lists.specs.All.{Sized, all_each}
use Rattle.lists.specs.Range.{up_from, length-up_from}
use Rattle.lists.specs.Least.{least, least_cases, least_none}
use Rattle.lists.specs.Pieces.{length-flatten}
use Rattle.lists.specs.Bytes.{Bytes, little_endian, bytes_of, length-bytes_of, length-words}
use Rattle.lists.specs.Tests.{Test, verdict_of, every, each, true_each, each_stop, verdict_miss, verdict_go, verdict_stop}
use Rattle.scheme.specs.Sizes.{Sizes, width}
use Rattle.scheme.specs.Layers.{Lent}
use Rattle.scheme.specs.Question.{Question, read_question, header_sizes, header_points, question_verdict}
use Rattle.scheme.specs.Reply.{reply_length, reply_bound}
use Rattle.scheme.specs.Commit.{lent_ok, filled_ok}
use Rattle.scheme.specs.Open.{opened_batching, opened_answers, reply_of, words_ok, names_ok}
use Rattle.scheme.proofs.Accepted.{sizes_in_order, well_formed}
use Rattle.scheme.proofs.HonestAnswers.{combination-length}
use Rattle.scheme.proofs.Lengths.{reply_bounded}
use Rattle.scheme.proofs.Parts.{reply_sized}
use Rattle.fiat_shamir.specs.Offline.{offline_root, offline_salt, offline_points, offline_tests, offline_verdict}
use Rattle.fiat_shamir.specs.Draw.{drawn, drawn_bytes}
use Rattle.fiat_shamir.specs.Prove.{proved_answers, counter_length, counter_bytes, counter_draw, counter_ok, counter_question, proof_length, proof_of, proof_bound, prove_tests, prove_verdict, proving}
use Rattle.fiat_shamir.specs.CheckProof.{answers_length}
use Rattle.fiat_shamir.proofs.Drawn.{Leaves, drawn-leaves, AskedOffline, asked_offline_lem, offline_numbers, drawn-back, drawn_right}

-- ---- lengths

pub counter_sized : (c : ℕ) → length (counter_bytes c) ≡ counter_length
unfolding little_endian
counter_sized c = refl

pub answers_sized : (question : Bytes) (l : Lent) → length (proved_answers question l) ≡ answers_length question
unfolding proved_answers
answers_sized question l =
    let s : Sizes = header_sizes question in
    let bs : List (List ℕ) = opened_batching (drawn question []) l in
    let ans : List (List ℕ) = opened_answers (drawn question []) l in
    let bs-sized : Sized (width s) bs = all_each (λ (x : List ℕ). length x ≡ width s) _ (up_from 0 s.η) (λ k. combination-length (width s) _ _) in
    let ans-sized : Sized (width s) ans = all_each (λ (x : List ℕ). length x ≡ width s) _ (offline_points question) (λ z. combination-length (width s) z _) in
    let bs-count : length bs ≡ s.η = length-map (up_from 0 s.η) _ ∙ length-up_from 0 s.η in
    let ans-count : length ans ≡ header_points question = length-map (offline_points question) _ ∙ length-words (header_points question) _ in
    let bs-words : length (flatten bs) ≡ width s * s.η = length-flatten (width s) bs bs-sized ∙ ap (λ (k : ℕ). width s * k) bs-count in
    let ans-words : length (flatten ans) ≡ width s * header_points question = length-flatten (width s) ans ans-sized ∙ ap (λ (k : ℕ). width s * k) ans-count in
    length-append (bytes_of (flatten bs)) (bytes_of (flatten ans)) ∙ omega (arith, length-bytes_of (flatten bs), length-bytes_of (flatten ans), bs-words, ans-words)

-- the question drawn with counter c, as bytes
abbrev pub drawn_for : Bytes → Lent → ℕ → Bytes
drawn_for question l c = drawn_bytes question (counter_question question l c).indices

module _ (question : Bytes) (κ : ℕ) (l : Lent) (wf : offline_verdict question κ ≡ 0) (c : ℕ) where
  abbrev s : Sizes
  s = header_sizes question

  a : AskedOffline question κ
  a = asked_offline_lem question κ wf

  abbrev u : Question
  u = counter_question question l c

  abbrev D : Bytes
  D = drawn_for question l c

  ls : Leaves s u.indices
  ls = drawn-leaves s (sizes_in_order s a.sizes_right) (counter_draw question l c)

  pub counter_back : read_question D ≡ u
  counter_back = drawn-back question κ a u.indices ls

  pub counter_right : question_verdict D ≡ 0
  counter_right = drawn_right question κ a u.indices ls

  -- a proof has its length, and fits into the buffer
  pub proof_bounded : proof_length question l c ≤ proof_bound question
  proof_bounded =
      let fits : reply_length u ≤ reply_bound s (header_points question) = subst (λ (v : Question). reply_length v ≤ reply_bound v.sizes v.m) counter_back (reply_bounded D counter_right) in
      omega arith

  pub proof_sized : (table : List ℕ) (nodes : Bytes) → lent_ok s l ≡ true → filled_ok s table nodes ≡ true → length (proof_of question l table nodes c) ≡ proof_length question l c
  unfolding proof_of
  proof_sized table nodes lent filled =
      let sized : length (reply_of u l table nodes) ≡ reply_length u =
      subst (λ (v : Question). lent_ok v.sizes l ≡ true → filled_ok v.sizes table nodes ≡ true → length (reply_of v l table nodes) ≡ reply_length v) counter_back
      (reply_sized D l table nodes (well_formed D counter_right)) lent filled in
      length-append (counter_bytes c) (reply_of u l table nodes) ∙ ap₂ ◌+◌ (counter_sized c) sized

-- ---- the verdict

-- no counter below the limit qualifies exactly when the search for the least one ends at the limit
pub unqualified : (limit : ℕ) (f : ℕ → Bool) → each limit (λ c. not (f c)) ≡ eqb (least limit f) limit
unqualified limit f = ⊎_elim
    (λ h. each_stop limit (λ c. not (f c)) (least limit f) h.0 (ap not h.1) ∙ sym (ne_eqb (least limit f) limit (ne_of_lt h.0)))
    (λ (h : (c : ℕ) → c < limit → f c ≡ false). true_each limit (λ c. not (f c)) (λ c b. ap not (h c b)) ∙ sym (eq-eqb (least limit f) limit (least_none limit f h)))
    (least_cases limit f)

module _ (question : Bytes) (κ limit : ℕ) (l : Lent) (table : List ℕ) (nodes buffer : Bytes) where
  abbrev verdict : ℕ
  verdict = prove_verdict question κ limit l table nodes buffer

  abbrev counter : ℕ
  counter = least limit (counter_ok question κ l)

  abbrev lengths_ok : Bool
  lengths_ok = every (lent_ok (header_sizes question) l ∷ filled_ok (header_sizes question) table nodes ∷ eqb (length buffer) (proof_bound question) ∷ [])

  abbrev named : Bool
  named = names_ok (offline_root question) (offline_salt question) l nodes

  abbrev last : List Test
  last = (11, each limit (λ c. not (counter_ok question κ l c))) ∷ []

  abbrev lent : List Test
  lent = (2, not lengths_ok) ∷ (3, not (words_ok l table)) ∷ (8, not named) ∷ last

  -- the question's own
  pub prove_asked : (v : ℕ) → 0 < v → offline_verdict question κ ≡ v → verdict ≡ v
  unfolding prove_verdict prove_tests
  prove_asked v p e = verdict_stop (offline_tests question κ) lent v p e

  module _ (asked : offline_verdict question κ ≡ 0) where
    go : verdict ≡ verdict_of lent
    unfolding prove_verdict prove_tests
    go = verdict_go (offline_tests question κ) lent (offline_numbers question κ) asked

    module _ (lengths : lengths_ok ≡ true) where
      after_2 : verdict ≡ verdict_of ((3, not (words_ok l table)) ∷ (8, not named) ∷ last)
      after_2 = go ∙ verdict_miss 2 (not lengths_ok) _ (ap not lengths)

      module _ (words : words_ok l table ≡ true) where
        after_3 : verdict ≡ verdict_of ((8, not named) ∷ last)
        after_3 = after_2 ∙ verdict_miss 3 (not (words_ok l table)) _ (ap not words)

        -- then 11 exactly when no counter below the limit qualifies
        pub prove_last : named ≡ true → verdict ≡ pick (eqb counter limit) 11 0
        unfolding verdict_of
        prove_last e = after_3 ∙ verdict_miss 8 (not named) last (ap not e) ∙ ap (λ (t : Bool). pick t 11 0) (unqualified limit (counter_ok question κ l))

  -- ---- what is left
  pub proving-refused : (v : ℕ) → 0 < v → verdict ≡ v → proving question κ limit l table nodes buffer ≡ (v, 0, buffer)
  unfolding proving
  proving-refused v p e = rw (e, ne_eqb v 0 (ne_of_gt p)) refl

  pub proving_done : verdict ≡ 0
      → proving question κ limit l table nodes buffer ≡ (0, proof_length question l counter, proof_of question l table nodes counter ++ drop (proof_length question l counter) buffer)
  unfolding proving
  proving_done e = rw e refl
