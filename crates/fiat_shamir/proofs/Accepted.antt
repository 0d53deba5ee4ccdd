-- A proof is accepted exactly when its counter qualifies and the conversation's check accepts the question so drawn, and then with that check's values.
use mathlib.Core.Path.{◌≡◌, refl, sym, ap, ap₂, ◌∙◌}
use mathlib.Core.Bool.{Bool, true, false, not}
use mathlib.Core.List.{List, ◌∷◌, ◌++◌}
use Prim.Native.Nat.{ℕ, ◌+◌, ◌<◌}
use native.Mathlib.Nat.{mul-le-mul_left}
use native.Mathlib.Omega.{arith}
use lib.Dec.{ltb, eqb}
use lib.ListN.{length, drop, length-drop}
use borrow.Author.Tests.{ltb-true, ne_eqb, not-false}
use Rattle.lists.specs.Choice.{pick}
use Rattle.lists.specs.All.{All, all_append, all_left, all_right}
use Rattle.lists.specs.Bytes.{Bytes, bytes_of}
use Rattle.lists.specs.Tests.{Test, Numbered, verdict_of, passed, pass, verdict_go}
use Rattle.scheme.specs.Sizes.{SizesInOrder}
use Rattle.scheme.specs.Question.{Question, read_question, question_tests, question_verdict, header_sizes}
use Rattle.scheme.specs.Reply.{read_reply, reply_length, record_length}
use Rattle.scheme.specs.Commit.{after}
use Rattle.scheme.specs.Check.{reply_tests, buffer_test, check_verdict, check_values, checking, checking_c}
use Rattle.scheme.specs.Collect.{Entry, for_rust, for_c, does}
use Rattle.scheme.proofs.Accepted.{sizes_in_order, question_numbers}
use Rattle.fiat_shamir.specs.Offline.{offline_tests, offline_verdict}
use Rattle.fiat_shamir.specs.Draw.{qualifies}
use Rattle.fiat_shamir.specs.Prove.{counter_length}
use Rattle.fiat_shamir.specs.CheckProof.{proof_reply, answers_length, proof_draw, proof_indices, proof_asks, proof_question, proof_tests, check_proof_verdict, checking_proof, checking_proof_c, does_proof}
use Rattle.fiat_shamir.specs.Accepted.{AsConversation}
use Rattle.fiat_shamir.proofs.Drawn.{Leaves, drawn-leaves, AskedOffline, asked_offline_lem, offline_numbers, drawn-back, drawn_right}

-- the first 7 is never seen, where it implies the second, and 12 is not, where it does not hold
one_length : (t₂ short t₇ t₃ t₁₂ : Bool) (rest : List Test) → (short ≡ true → t₇ ≡ true) → t₁₂ ≡ false
    → verdict_of ((2, t₂) ∷ (7, short) ∷ (7, t₇) ∷ (3, t₃) ∷ (12, t₁₂) ∷ rest) ≡ verdict_of ((2, t₂) ∷ (7, t₇) ∷ (3, t₃) ∷ rest)
unfolding verdict_of
one_length true short t₇ t₃ t₁₂ rest h e = refl
one_length false true t₇ t₃ t₁₂ rest h e = sym (ap (λ (b : Bool). pick b 7 (pick t₃ 3 (verdict_of rest))) (h refl))
one_length false false t₇ t₃ t₁₂ rest h e = ap (λ (b : Bool). pick t₇ 7 (pick t₃ 3 (pick b 12 (verdict_of rest)))) e

module _ (question : Bytes) (κ : ℕ) (proof : Bytes) where
  abbrev is : List ℕ
  is = proof_indices question proof

  -- the question so drawn, and its bytes
  abbrev u : Question
  u = proof_asks question proof

  abbrev D : Bytes
  D = proof_question question proof

  abbrev reply : Bytes
  reply = proof_reply proof

  module _ (wf : offline_verdict question κ ≡ 0) where
    a : AskedOffline question κ
    a = asked_offline_lem question κ wf

    in_order : SizesInOrder (header_sizes question)
    in_order = sizes_in_order (header_sizes question) a.sizes_right

    ls : Leaves (header_sizes question) is
    ls = drawn-leaves (header_sizes question) in_order (proof_draw question proof)

    -- the question so drawn holds what was asked and drawn, and is well formed
    pub proof_question_back : read_question D ≡ u
    proof_question_back = drawn-back question κ a is ls

    pub proof_question_right : question_verdict D ≡ 0
    proof_question_right = drawn_right question κ a is ls

    -- ---- one verdict, where the counter qualifies
    conversation_verdict : (unit n : ℕ) → check_verdict unit D reply n ≡ verdict_of (buffer_test unit u n ∷ reply_tests u reply)
    unfolding check_verdict
    conversation_verdict unit n =
        verdict_go (question_tests D) (buffer_test unit (read_question D) n ∷ reply_tests (read_question D) reply) (question_numbers D) proof_question_right
        ∙ ap (λ (v : Question). verdict_of (buffer_test unit v n ∷ reply_tests v reply)) proof_question_back

    proof_verdict : (unit n : ℕ) → check_proof_verdict unit question κ proof n ≡ verdict_of (buffer_test unit u n ∷ proof_tests question κ proof)
    unfolding check_proof_verdict
    proof_verdict unit n = verdict_go (offline_tests question κ) (buffer_test unit u n ∷ proof_tests question κ proof) (offline_numbers question κ) wf

    -- a proof too short for counter and answers has no reply of its length either
    short : ltb (length proof) (counter_length + answers_length question) ≡ true → not (eqb (length reply) (reply_length u)) ≡ true
    short e =
        ap not (ne_eqb (length reply) (reply_length u) (λ f.
        omega (arith, f, length-drop counter_length proof, ltb-true (length proof) (counter_length + answers_length question) e, mul-le-mul_left (record_length (header_sizes question)) in_order.ℓ-low)))

    same_verdict : qualifies κ (proof_draw question proof) ≡ true → (unit n : ℕ) → check_proof_verdict unit question κ proof n ≡ check_verdict unit D reply n
    unfolding proof_tests reply_tests
    same_verdict ok unit n = proof_verdict unit n ∙ one_length _ _ _ _ _ (drop 2 (reply_tests u reply)) short (ap not ok) ∙ sym (conversation_verdict unit n)

    same_values : qualifies κ (proof_draw question proof) ≡ true → (e : Entry) (buffer : List ℕ) → does_proof e question κ proof buffer ≡ does e D reply buffer
    unfolding checking_proof checking_proof_c checking checking_c
    same_values ok for_rust buffer =
        ap₂ {C = ℕ × List ℕ} (λ (v : ℕ) (w : Question). (v, after v (check_values w (read_reply w reply)) buffer)) (same_verdict ok 1 (length buffer)) (sym proof_question_back)
    same_values ok for_c buffer =
        ap₂ {C = ℕ × List ℕ} (λ (v : ℕ) (w : Question). (v, after v (bytes_of (check_values w (read_reply w reply))) buffer)) (same_verdict ok 4 (length buffer)) (sym proof_question_back)

  -- ---- what verdict 0 says
  module _ (unit n : ℕ) (e : check_proof_verdict unit question κ proof n ≡ 0) where
    abbrev tests : List Test
    tests = buffer_test unit u n ∷ proof_tests question κ proof

    numbers : Numbered (offline_tests question κ ++ tests)
    unfolding proof_tests reply_tests
    numbers = all_append (λ (t : Test). 0 < t.0) (offline_tests question κ) tests (offline_numbers question κ) (omega arith)

    all_passed : All (λ (t : Test). t.1 ≡ false) (offline_tests question κ ++ tests)
    unfolding check_proof_verdict
    all_passed = passed (offline_tests question κ ++ tests) numbers e

    question_passed : offline_verdict question κ ≡ 0
    question_passed = pass (offline_tests question κ) (all_left (λ (t : Test). t.1 ≡ false) (offline_tests question κ) tests all_passed)

    counter_passed : qualifies κ (proof_draw question proof) ≡ true
    unfolding proof_tests reply_tests
    counter_passed = not-false _ (all_right (λ (t : Test). t.1 ≡ false) (offline_tests question κ) tests all_passed).1.1.1.1.0

-- ---- both entries

unit_of : Entry → ℕ
unit_of for_rust = 1
unit_of for_c = 4

entry_verdict : (e : Entry) (question : Bytes) (κ : ℕ) (proof : Bytes) (buffer : List ℕ) → (does_proof e question κ proof buffer).0 ≡ check_proof_verdict (unit_of e) question κ proof (length buffer)
unfolding unit_of checking_proof checking_proof_c
entry_verdict for_rust question κ proof buffer = refl
entry_verdict for_c question κ proof buffer = refl

pub as_conversation : (e : Entry) (question : Bytes) (κ : ℕ) (proof : Bytes) (buffer : List ℕ) → AsConversation e question κ proof buffer
as_conversation e question κ proof buffer = record {
  accepted = λ z.
      let v : check_proof_verdict (unit_of e) question κ proof (length buffer) ≡ 0 = sym (entry_verdict e question κ proof buffer) ∙ z in
      let wf : offline_verdict question κ ≡ 0 = question_passed question κ proof (unit_of e) (length buffer) v in
      let ok : qualifies κ (proof_draw question proof) ≡ true = counter_passed question κ proof (unit_of e) (length buffer) v in
      (wf, ok, same_values question κ proof wf ok e buffer);
  accepts = λ wf ok. same_values question κ proof wf ok e buffer;
}
