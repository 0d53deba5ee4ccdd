-- Collected replies for the four entries of the check, those of proofs among them: a list of calls of any, each as its contract describes it. A proof is taken as
-- the question so drawn and the reply after its counter.
use mathlib.Core.List.{List, Memᴰ as Mem}
use Prim.Native.Nat.{ℕ}
use contract.Lifetimes.{Lfts}
use denote.Triple.Clauses.{AtExit}
use borrow.Fn.Kinds.{Dens, res_t, ended_of}
use Rattle.lists.specs.Bytes.{Bytes}
use Rattle.scheme.specs.Collect.{for_rust, for_c, Call, Answered, NoCollision, Covered, Extracted}
use Rattle.scheme.proofs.Work.{uncounted}
use Rattle.fiat_shamir.specs.CollectProofs.{ProofCall, ProofAnswered, AnyCall, conversation, alone, AnyAnswered, joined}
use Rattle.fiat_shamir.proofs.Joined.{collected_proofs}
use Rattle.refusal.specs.Numbers.{number_of}
use Rattle.checker.proofs.check.Kinds as check-kinds
use Rattle.checker.proofs.check.Reads as check
use Rattle.proof_checker.proofs.check_proof.Kinds as check-proof-kinds
use Rattle.proof_checker.proofs.check_proof.Reads as check-proof
use Rattle.smallwood.proofs.smallwood_check_proof.Kinds as smallwood-check-proof-kinds
use Rattle.smallwood.proofs.smallwood_check_proof.Reads as smallwood-check-proof
use Rattle.smallwood.proofs.smallwood_check.Kinds as smallwood-check-kinds
use Rattle.smallwood.proofs.smallwood_check.Reads as smallwood-check

-- ---- a call: what is lent at its entry, the verdict and what is left of the value buffer

module _ (κs : Lfts 3) (a : Dens κs check-kinds.ps) (r : (res_t check-kinds.r κs).Denot) (e : AtExit (ended_of 3 check-kinds.ps check-kinds.r) κs) where
  abbrev pub call_rust : Call
  call_rust = record { entry = for_rust; question = a.0.now; reply = a.1.0.now; before = a.1.1.0.now; verdict = number_of r.outcome; after = e.1.1.0.now }

  -- the contract of `check`, but for the count, is what the theorem asks of a call
  answered_rust : check.Learnt κs a r e → Answered call_rust
  answered_rust h = record { outcome = uncounted a.0.now a.1.0.now a.1.1.0.now (number_of r.outcome) r.permutations e.1.1.0.now h }

module _ (κs : Lfts 3) (a : Dens κs smallwood-check-kinds.ps) (r : (res_t smallwood-check-kinds.r κs).Denot) (e : AtExit (ended_of 3 smallwood-check-kinds.ps smallwood-check-kinds.r) κs) where
  abbrev pub call_c : Call
  call_c = record { entry = for_c; question = a.0.now; reply = a.1.0.now; before = a.1.1.0.now; verdict = r; after = e.1.1.0.now }

  -- and so is that of `smallwood_check`
  answered_c : smallwood-check.Learnt κs a r e → Answered call_c
  answered_c h = record { outcome = h }

module _ (κs : Lfts 3) (a : Dens κs check-proof-kinds.ps) (r : (res_t check-proof-kinds.r κs).Denot) (e : AtExit (ended_of 3 check-proof-kinds.ps check-proof-kinds.r) κs) where
  abbrev pub proof_rust : ProofCall
  proof_rust = record { entry = for_rust; question = a.0.now; κ = a.1.0; proof = a.1.1.0.now; before = a.1.1.1.0.now; verdict = number_of r; after = e.1.1.1.0.now }

  -- the contract of `check_proof`
  answered_proof : check-proof.Learnt κs a r e → ProofAnswered proof_rust
  answered_proof h = record { outcome = h }

module _ (κs : Lfts 3) (a : Dens κs smallwood-check-proof-kinds.ps) (r : (res_t smallwood-check-proof-kinds.r κs).Denot) (e : AtExit (ended_of 3 smallwood-check-proof-kinds.ps smallwood-check-proof-kinds.r) κs) where
  abbrev pub proof_c : ProofCall
  proof_c = record { entry = for_c; question = a.0.now; κ = a.1.0; proof = a.1.1.0.now; before = a.1.1.1.0.now; verdict = r; after = e.1.1.1.0.now }

  -- and that of `smallwood_check_proof`
  answered_proof_c : smallwood-check-proof.Learnt κs a r e → ProofAnswered proof_c
  answered_proof_c h = record { outcome = h }

-- ---- a list of calls

-- a call of one of the four entries, which its contract describes
pub data Made : AnyCall → Type 0 where
  rust : (κs : Lfts 3) (a : Dens κs check-kinds.ps) (r : (res_t check-kinds.r κs).Denot) (e : AtExit (ended_of 3 check-kinds.ps check-kinds.r) κs)
      → check.Learnt κs a r e → Made (conversation (call_rust κs a r e))
  c : (κs : Lfts 3) (a : Dens κs smallwood-check-kinds.ps) (r : (res_t smallwood-check-kinds.r κs).Denot) (e : AtExit (ended_of 3 smallwood-check-kinds.ps smallwood-check-kinds.r) κs)
      → smallwood-check.Learnt κs a r e → Made (conversation (call_c κs a r e))
  of_proof_rust : (κs : Lfts 3) (a : Dens κs check-proof-kinds.ps) (r : (res_t check-proof-kinds.r κs).Denot) (e : AtExit (ended_of 3 check-proof-kinds.ps check-proof-kinds.r) κs)
      → check-proof.Learnt κs a r e → Made (alone (proof_rust κs a r e))
  of_proof_c : (κs : Lfts 3) (a : Dens κs smallwood-check-proof-kinds.ps) (r : (res_t smallwood-check-proof-kinds.r κs).Denot)
      (e : AtExit (ended_of 3 smallwood-check-proof-kinds.ps smallwood-check-proof-kinds.r) κs) → smallwood-check-proof.Learnt κs a r e → Made (alone (proof_c κs a r e))

answered : (x : AnyCall) → Made x → AnyAnswered x
answered x (rust κs a r e h) = answered_rust κs a r e h
answered x (c κs a r e h) = answered_c κs a r e h
answered x (of_proof_rust κs a r e h) = answered_proof κs a r e h
answered x (of_proof_c κs a r e h) = answered_proof_c κs a r e h

pub collected : (calls : List AnyCall) (header root salt : Bytes) → ((x : AnyCall) → Mem x calls → Made x) → NoCollision (joined calls) header root salt
    → (L : List ℕ) (k : ℕ) (challenges : List ℕ) (answers : List (List ℕ)) → Covered (joined calls) header root salt L k challenges answers → Extracted (joined calls) header root salt L
collected calls header root salt made = collected_proofs calls header root salt (λ x m. answered x (made x m))
