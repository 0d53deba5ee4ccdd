-- The verdicts of the check in the order in which the code finds them.
use Rattle.proof_checker.proofs.Elements.{elements_in_lem}
use Rattle.tree.specs.Sets.{missing}
use mathlib.Core.Path.{◌≡◌, refl, sym, ap, ap₂, ◌∙◌}
use mathlib.Core.Bool.{Bool, true, false, not}
use mathlib.Core.List.{List, [], ◌∷◌}
use Prim.Native.Nat.{ℕ, ◌+◌, ◌*◌, ◌≤◌, ◌<◌}
use native.Mathlib.Nat.{one-mul, ne_of_gt}
use native.Mathlib.Omega.{arith}
use lib.Dec.{ltb, eqb}
use lib.ListN.{length, drop}
use borrow.Author.Tests.{eq-eqb, ne_eqb, lt-ltb, le-ltb}
use Rattle.lists.specs.Bytes.{Bytes}
use Rattle.lists.specs.Choice.{pick}
use Rattle.lists.specs.Tests.{Test, verdict_of, verdict_hit, verdict_miss, verdict_go, verdict_stop}
use Rattle.scheme.specs.Sizes.{Sizes}
use Rattle.scheme.specs.Question.{Question, header_sizes, header_points}
use Rattle.scheme.specs.Reply.{records_at, reply_length, nodes_at}
use Rattle.scheme.specs.Commit.{after}
use Rattle.scheme.specs.Check.{reply_tests, buffer_test}
use Rattle.fiat_shamir.specs.Offline.{offline_tests, offline_verdict}
use Rattle.fiat_shamir.specs.Draw.{qualifies, drawn}
use Rattle.fiat_shamir.specs.Prove.{counter_length}
use Rattle.fiat_shamir.specs.CheckProof.{proof_reply, proof_draw, proof_indices, proof_asks, answers_length, proof_tests, proof_values, check_proof_verdict, checking_proof}
use Rattle.fiat_shamir.proofs.Drawn.{offline_numbers}
use Rattle.commitment.specs.Shape.{sizes_in}
use Rattle.commitment.specs.declared.Shape.{Shape}
use Rattle.offline_question.specs.Asked.{AsksOffline}
use Rattle.offline_question.specs.Offline.{Offline}
use Rattle.offline_question.proofs.Answer.{offline_taken}
use Rattle.proof_checker.specs.Parts.{elements_in, unqualified}

-- ---- a counter that does not qualify

some : (a b : Bool) → ◌≡◌ {A = ℕ} (pick a 7 (pick b 3 12)) 0 → ⊥
some true b e = omega (arith, e)
some false true e = omega (arith, e)
some false false e = omega (arith, e)

unqualified_some : (s : Sizes) (m : ℕ) (is : List ℕ) (reply : Bytes) → unqualified s m is reply ≡ 0 → ⊥
unfolding unqualified verdict_of
unqualified_some s m is reply e = some (not (eqb (length reply) (nodes_at s m + 32 * length (missing 2 s.h is)))) (not (elements_in s m reply)) e

module _ (s : Sizes) (m : ℕ) (is : List ℕ) (reply : Bytes) (n : ℕ) (e : n ≡ nodes_at s m + 32 * length (missing 2 s.h is)) where
  pub say_7 : (length reply ≡ n → ⊥) → 7 ≡ unqualified s m is reply
  unfolding unqualified
  say_7 f = sym (verdict_hit 7 _ _ (ap not (ne_eqb (length reply) _ (λ g. f (g ∙ sym e)))))

  pub say_3 : length reply ≡ n → elements_in s m reply ≡ false → 3 ≡ unqualified s m is reply
  unfolding unqualified
  say_3 f g = sym (verdict_miss 7 _ _ (ap not (eq-eqb (length reply) _ (f ∙ e))) ∙ verdict_hit 3 _ _ (ap not g))

  pub say_12 : length reply ≡ n → elements_in s m reply ≡ true → 12 ≡ unqualified s m is reply
  unfolding unqualified
  say_12 f g = sym (verdict_miss 7 _ _ (ap not (eq-eqb (length reply) _ (f ∙ e))) ∙ verdict_miss 3 _ _ (ap not g) ∙ verdict_hit 12 true [] refl)

-- ---- the check

module _ (question : Bytes) (κ : ℕ) (proof : Bytes) (buffer : List ℕ) where
  abbrev verdict : ℕ
  verdict = check_proof_verdict 1 question κ proof (length buffer)

  abbrev u : Question
  u = proof_asks question proof

  refused_as : (v : ℕ) → verdict ≡ v → (v ≡ 0 → ⊥) → (v, buffer) ≡ checking_proof question κ proof buffer
  unfolding checking_proof
  refused_as v e f =
      sym (ap {B = ℕ × List ℕ} (λ (n : ℕ). (n, after n (proof_values question proof) buffer)) e
      ∙ ap {B = ℕ × List ℕ} (λ (t : Bool). (v, pick t (proof_values question proof) buffer)) (ne_eqb v 0 f))

  abbrev later : List Test
  later = buffer_test 1 (drawn question []) (length buffer) ∷ proof_tests question κ proof

  -- a question that is refused
  pub refused_question : (v : ℕ) → 0 < v → v ≡ offline_verdict question κ → (v, buffer) ≡ checking_proof question κ proof buffer
  unfolding check_proof_verdict
  refused_question v p e = refused_as v (verdict_stop (offline_tests question κ) later v p (sym e)) (λ z. ne_of_gt p z)

  module _ (s : Shape) (m : ℕ) (e : AsksOffline question κ s m) where
    offline : Offline question (sizes_in s) m
    offline = (offline_taken question κ s m e).1

    asked : verdict ≡ verdict_of later
    unfolding check_proof_verdict
    asked = verdict_go (offline_tests question κ) later (offline_numbers question κ) e.verdict

    room : 1 * ((header_sizes question).w * header_points question) ≡ s.w * m
    room = one-mul ((header_sizes question).w * header_points question) ∙ ap₂ (λ (z : Sizes) (n : ℕ). z.w * n) offline.sizes offline.points

    pub refused_2 : (length buffer ≡ s.w * m → ⊥) → (2, buffer) ≡ checking_proof question κ proof buffer
    refused_2 f = refused_as 2 (asked ∙ verdict_hit 2 _ _ (ap not (ne_eqb (length buffer) _ (λ g. f (g ∙ room))))) (λ z. omega (arith, z))

    module _ (fits : length buffer ≡ s.w * m) where
      fitting : verdict ≡ verdict_of (proof_tests question κ proof)
      fitting = asked ∙ verdict_miss 2 _ _ (ap not (eq-eqb (length buffer) _ (fits ∙ sym room)))

      answers : answers_length question ≡ records_at (sizes_in s) m
      answers = ap₂ records_at offline.sizes offline.points

      pub refused_7 : length proof < counter_length + records_at (sizes_in s) m → (7, buffer) ≡ checking_proof question κ proof buffer
      unfolding proof_tests
      refused_7 l = refused_as 7 (fitting ∙ verdict_hit 7 _ _ (lt-ltb (length proof) _ (omega (arith, l, answers)))) (λ z. omega (arith, z))

      pub refused-unqualified : counter_length + records_at (sizes_in s) m ≤ length proof → qualifies κ (proof_draw question proof) ≡ false
          → (is : List ℕ) (reply : Bytes) (v : ℕ) → is ≡ proof_indices question proof → reply ≡ proof_reply proof → v ≡ unqualified (sizes_in s) m is reply
          → (v, buffer) ≡ checking_proof question κ proof buffer
      unfolding proof_tests reply_tests unqualified verdict_of
      refused-unqualified l unmet is reply v ei er ev =
          let long : ltb (length proof) (counter_length + answers_length question) ≡ false = le-ltb (length proof) _ (omega (arith, l, answers)) in
          let as-drawn : v ≡ unqualified u.sizes u.m u.indices (proof_reply proof) =
          ev ∙ ap₂ (λ (z : Sizes) (n : ℕ). unqualified z n is reply) (sym offline.sizes) (sym offline.points) ∙ ap₂ (λ (t : List ℕ) (x : Bytes). unqualified u.sizes u.m t x) ei er in
          refused_as v
          (fitting
          ∙ ap (λ (t : Bool). pick t 7 (verdict_of (drop 1 (proof_tests question κ proof)))) long
          ∙ ap₂ (λ (t q : Bool). pick (not (eqb (length (proof_reply proof)) (reply_length u))) 7 (pick (not t) 3 (pick (not q) 12 (verdict_of (drop 2 (reply_tests u (proof_reply proof)))))))
          (sym (elements_in_lem u (proof_reply proof))) unmet
          ∙ sym as-drawn)
          (λ z. unqualified_some (sizes_in s) m is reply (sym ev ∙ z))
