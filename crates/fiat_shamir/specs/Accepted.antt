-- A proof is accepted exactly when its counter qualifies and the conversation's check accepts the question so drawn; then that check's values are filled in.
use Rattle.std.specs.Prelude.{◌≡◌, true, List, ℕ}
use Rattle.lists.specs.Bytes.{Bytes}
use Rattle.scheme.specs.Collect.{Entry, does}
use Rattle.fiat_shamir.specs.Offline.{offline_verdict}
use Rattle.fiat_shamir.specs.Draw.{qualifies}
use Rattle.fiat_shamir.specs.CheckProof.{proof_draw, proof_question, proof_reply, does_proof}

-- for either entry and the conversation's of the same kind
pub record AsConversation (e : Entry) (question : Bytes) (κ : ℕ) (proof : Bytes) (buffer : List ℕ) : Type 0 where
  -- what an accepted proof says
  pub accepted : (does_proof e question κ proof buffer).0 ≡ 0
      → (offline_verdict question κ ≡ 0) × (qualifies κ (proof_draw question proof) ≡ true)
      × (does_proof e question κ proof buffer ≡ does e (proof_question question proof) (proof_reply proof) buffer)
  -- and of a well-formed question this is all that is asked
  pub accepts : offline_verdict question κ ≡ 0 → qualifies κ (proof_draw question proof) ≡ true
      → does_proof e question κ proof buffer ≡ does e (proof_question question proof) (proof_reply proof) buffer
