-- The check of a proof on words and on bytes.
use mathlib.Core.Path.{◌≡◌, sym, ap, ap₂, ◌∙◌}
use mathlib.Core.List.{List}
use Prim.Native.Nat.{ℕ, ◌*◌, ◌≤◌, ◌<◌}
use lib.ListN.{length}
use Rattle.lists.specs.Bytes.{Bytes}
use Rattle.scheme.specs.Sizes.{Sizes}
use Rattle.scheme.specs.Question.{header_sizes, header_points}
use Rattle.fiat_shamir.specs.Offline.{offline_tests, offline_verdict}
use Rattle.fiat_shamir.specs.CheckProof.{proof_tests, proof_values, check_proof_verdict, checking_proof, checking_proof_c}
use Rattle.fiat_shamir.proofs.Drawn.{offline_numbers}
use Rattle.commitment.specs.Shape.{sizes_in}
use Rattle.commitment.specs.declared.Shape.{Shape}
use Rattle.commitment.proofs.Places.{buffer_high}
use Rattle.offline_question.specs.Asked.{AsksOffline}
use Rattle.offline_question.proofs.Answer.{offline_taken, query_facts}
use Rattle.smallwood.specs.InBytes.{in_bytes}
use Rattle.smallwood.proofs.Values.{bytes_stop, bytes-short, bytes_done}

module _ (question : Bytes) (κ : ℕ) where
  -- the values fit into 2,048 words
  pub few_proof_values : (s : Shape) (m : ℕ) → AsksOffline question κ s m → s.w * m ≤ 2048
  few_proof_values s m e =
      let f = query_facts question κ s m e in
      buffer_high (sizes_in s) f.in_order m f.few_points

  module _ (proof before : Bytes) where
    abbrev k : ℕ
    k = (header_sizes question).w * header_points question

    abbrev vs : List ℕ
    vs = proof_values question proof

    pub offline_stop : (v : ℕ) → 0 < v → v ≡ offline_verdict question κ → (v, before) ≡ checking_proof_c question κ proof before
    unfolding checking_proof_c check_proof_verdict
    offline_stop v p e = bytes_stop (offline_tests question κ) (proof_tests question κ proof) (offline_numbers question κ) k vs before v p (sym e)

    module _ (s : Shape) (m : ℕ) (e : AsksOffline question κ s m) where
      count : s.w * m ≡ k
      count = let o = (offline_taken question κ s m e).1 in sym (ap₂ (λ (t : Sizes) (j : ℕ). t.w * j) o.sizes o.points)

      pub offline_short : (length before ≡ 4 * (s.w * m) → ⊥) → (2, before) ≡ checking_proof_c question κ proof before
      unfolding checking_proof_c check_proof_verdict
      offline_short n =
          bytes-short (offline_tests question κ) (proof_tests question κ proof) (offline_numbers question κ) k vs before e.verdict (λ z. n (z ∙ ap (λ (j : ℕ). 4 * j) (sym count)))

      pub proof_bytes : (words : List ℕ) (z : ℕ × Bytes) → length before ≡ 4 * (s.w * m) → length words ≡ s.w * m
          → z ≡ in_bytes (checking_proof question κ proof words) before → z ≡ checking_proof_c question κ proof before
      unfolding checking_proof checking_proof_c check_proof_verdict
      proof_bytes words z h l f =
          bytes_done (offline_tests question κ) (proof_tests question κ proof) (offline_numbers question κ) k vs before words z (h ∙ ap (λ (j : ℕ). 4 * j) count) (l ∙ count) f
