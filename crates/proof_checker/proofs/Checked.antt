-- From the draw of a proof to its leaves and to the conversation's check.
use mathlib.Core.Path.{◌≡◌, sym, ap, ap₂, ◌∙◌}
use mathlib.Core.Bool.{Bool, true, false}
use mathlib.Core.List.{List, [], ◌++◌}
use Prim.Native.Nat.{ℕ, ◌+◌, ◌*◌, ◌^◌, ◌≤◌}
use native.Mathlib.Omega.{arith}
use lib.ListN.{length, take, drop}
use lib.Seq.{length-take-le}
use Rattle.lists.specs.Bytes.{Bytes, doubles}
use Rattle.lists.specs.Parts.{lent_front}
use Rattle.scheme.specs.Sizes.{most_leaves}
use Rattle.scheme.specs.Check.{checking}
use Rattle.scheme.specs.Collect.{for_rust}
use Rattle.scheme.proofs.Accepted.{leaves-high}
use Rattle.fiat_shamir.specs.Offline.{most_bits}
use Rattle.fiat_shamir.specs.Draw.{ranks_at, qualifies, drawn_bytes}
use Rattle.fiat_shamir.specs.Ranks.{drawn_into}
use Rattle.fiat_shamir.specs.CheckProof.{proof_reply, proof_draw, proof_indices, checking_proof}
use Rattle.fiat_shamir.proofs.Accepted.{as_conversation}
use Rattle.commitment.specs.Shape.{sizes_in}
use Rattle.commitment.specs.declared.Shape.{Shape}
use Rattle.offline_question.specs.Asked.{AsksOffline}
use Rattle.offline_question.specs.Offline.{Offline}
use Rattle.offline_question.proofs.Answer.{Facts, offline_taken, offline_facts}
use Rattle.proof_checker.proofs.Draws.{draw-length, leaves_are}

module _ (question : Bytes) (κ : ℕ) (s : Shape) (m : ℕ) (e : AsksOffline question κ s m) where
  pub offline : Offline question (sizes_in s) m
  offline = (offline_taken question κ s m e).1

  pub known : Facts question (sizes_in s) m
  known = offline_facts question (sizes_in s) m offline

  pub room_enough : (room : List ℕ) → length room ≡ 64 → s.l ≤ length room
  room_enough room size = omega (arith, size, known.in_order.ℓ-high)

  module _ (proof x : Bytes) (ex : x ≡ proof_draw question proof) where
    long : length x ≡ ranks_at + 8 * s.l
    long = draw-length question proof (sizes_in s) m offline x ex

    pub bits_ask : (2 ≤ length x) × (κ ≤ most_bits)
    bits_ask = (omega (arith, long), (offline_taken question κ s m e).0)

    -- the leaves in the front of a room
    module _ (room : List ℕ) (enough : s.l ≤ length room) where
      front : length (take s.l room) ≡ s.l
      front = length-take-le s.l room enough

      module _ (n : ℕ) (en : n ≡ 2 ^ s.h) where
        pub leaves_ask : (ranks_at + 8 * length (take s.l room) ≤ length x) × (length (take s.l room) ≤ n) × (n ≤ most_leaves)
        leaves_ask = (omega (arith, long, front), omega (arith, front, en, known.in_order.fits), omega (arith, en, leaves-high (sizes_in s) known.in_order))

        pub indices_are : (is : List ℕ) → length is ≡ length (take s.l room) → is ≡ drawn_into n [] (doubles (length (take s.l room)) (drop ranks_at x))
            → take s.l (is ++ drop s.l room) ≡ proof_indices question proof
        indices_are is k h = lent_front s.l is room enough k ∙ h ∙ leaves_are question proof (sizes_in s) m offline known.in_order n (length (take s.l room)) x en front ex

    -- a counter that qualifies
    pub accepts : (t : Bool) → t ≡ qualifies κ x → t ≡ true → (is : List ℕ) (reply : Bytes) (buffer : List ℕ) → is ≡ proof_indices question proof → reply ≡ proof_reply proof
        → checking (drawn_bytes question is) reply buffer ≡ checking_proof question κ proof buffer
    accepts t et f is reply buffer ei er =
        ap₂ (λ (k : List ℕ) (r : Bytes). checking (drawn_bytes question k) r buffer) ei er
        ∙ sym ((as_conversation for_rust question κ proof buffer).accepts e.verdict (ap (qualifies κ) (sym ex) ∙ sym et ∙ f))

    -- and one that does not
    pub fails : (t : Bool) → t ≡ qualifies κ x → t ≡ false → qualifies κ (proof_draw question proof) ≡ false
    fails t et f = ap (qualifies κ) (sym ex) ∙ sym et ∙ f
