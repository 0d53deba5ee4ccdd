-- Proofs among the collected replies: a list of calls of the conversation's check and of the check of proofs, by any of their entries.
use Rattle.std.specs.Prelude.{◌≡◌, ℕ, eqb}
use mathlib.Core.List.{List, [], ◌∷◌, map, flatten, Memᴰ as Mem}
use Rattle.lists.specs.Choice.{pick}
use Rattle.lists.specs.Bytes.{Bytes}
use Rattle.scheme.specs.Collect.{Entry, Call, Answered, NoCollision, Covered, Extracted}
use Rattle.fiat_shamir.specs.CheckProof.{proof_reply, proof_question, does_proof}

-- a call of the check of proofs: what is lent at its entry, the value buffer before and after, the verdict
pub record ProofCall : Type 0 where
  pub entry : Entry
  pub question : Bytes
  pub κ : ℕ
  pub proof : Bytes
  pub before : List ℕ
  pub verdict : ℕ
  pub after : List ℕ

-- what the entries' contracts say of it
pub record ProofAnswered (c : ProofCall) : Type 0 where
  pub outcome : (c.verdict, c.after) ≡ does_proof c.entry c.question c.κ c.proof c.before

-- it is taken as a call of the conversation's check: the question so drawn, and the reply after its counter
abbrev pub taken : ProofCall → Call
taken c = record {
  entry = c.entry;
  question = proof_question c.question c.proof;
  reply = proof_reply c.proof;
  before = c.before;
  verdict = c.verdict;
  after = c.after;
}

pub data AnyCall : Type 0 where
  conversation : Call → AnyCall
  alone : ProofCall → AnyCall

abbrev pub AnyAnswered : AnyCall → Type 0
AnyAnswered (conversation c) = Answered c
AnyAnswered (alone c) = ProofAnswered c

-- the calls of the check that a list stands for; a refused proof is in no collection, and need not be a refused call of the check
abbrev pub joins : AnyCall → List Call
joins (conversation c) = c ∷ []
joins (alone c) = pick (eqb c.verdict 0) (taken c ∷ []) []

unfoldable pub joined : List AnyCall → List Call
joined calls = flatten (map joins calls)

-- the claim of collected replies, for such a list
abbrev pub CollectedProofs : List AnyCall → Bytes → Bytes → Bytes → Type 0
CollectedProofs calls header root salt =
    ((c : AnyCall) → Mem c calls → AnyAnswered c) → NoCollision (joined calls) header root salt
    → (L : List ℕ) (k : ℕ) (challenges : List ℕ) (answers : List (List ℕ)) → Covered (joined calls) header root salt L k challenges answers
    → Extracted (joined calls) header root salt L
