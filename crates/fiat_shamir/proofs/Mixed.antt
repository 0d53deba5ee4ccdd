-- Honest proofs among honest replies: the rows that are found are the committed ones.
use mathlib.Core.Path.{◌≡◌, sym, ap, ◌∙◌, subst}
use mathlib.Core.List.{List, Memᴰ as Mem}
use Prim.Native.Nat.{ℕ}
use Rattle.lists.specs.Bytes.{Bytes}
use Rattle.scheme.specs.Sizes.{Sizes}
use Rattle.scheme.specs.Layers.{Lent, row_polynomials}
use Rattle.scheme.specs.Question.{Question, header_sizes}
use Rattle.scheme.specs.Commit.{table_of, tree_of}
use Rattle.scheme.specs.Open.{reply_of}
use Rattle.scheme.specs.Collect.{Call, asked, NoCollision, Covered}
use Rattle.scheme.specs.Honest.{WellLent}
use Rattle.scheme.proofs.HonestRows.{Honest, extracted_committed}
use Rattle.fiat_shamir.specs.Draw.{drawn_indices, drawn}
use Rattle.fiat_shamir.specs.Prove.{counter_question, proof_of}
use Rattle.fiat_shamir.specs.CheckProof.{proof_reply, proof_asks}
use Rattle.fiat_shamir.specs.CollectProofs.{ProofCall, taken, AnyCall, conversation, alone, AnyAnswered, joins, joined}
use Rattle.fiat_shamir.specs.HonestProofs.{NamesOffline}
use Rattle.fiat_shamir.proofs.Accepted.{proof_question_back, proof_question_right}
use Rattle.fiat_shamir.proofs.Proved.{draw_of, reply_of_lem}
use Rattle.fiat_shamir.proofs.Joined.{joined_of, joins_conversation, joins-accepted, joined-answered, collected_proofs}

-- a proof whose question names the commitment and that the prover makes, with some counter
pub record HonestProof (s : Sizes) (l : Lent) (p : ProofCall) : Type 0 where
  pub names : NamesOffline s l p.question p.κ
  pub counter : ℕ
  pub proof_made : p.proof ≡ proof_of p.question l (table_of s l) (tree_of s l) counter

-- it is taken as a call with the opener's reply
proof_honest : (s : Sizes) (l : Lent) (p : ProofCall) → HonestProof s l p → Honest s l (taken p)
proof_honest s l p h =
    let b : Bytes = p.question in
    let c : ℕ = h.counter in
    let wf = h.names.well_formed in
    let back : asked (taken p) ≡ proof_asks b p.proof = proof_question_back b p.κ p.proof wf in
    let asks : proof_asks b p.proof ≡ counter_question b l c =
    ap (proof_asks b) h.proof_made ∙ ap (λ (x : Bytes). drawn b (drawn_indices (header_sizes b) x)) (draw_of b l (table_of s l) (tree_of s l) c) in
    record {
      names = record {
        well_formed = proof_question_right b p.κ p.proof wf;
        sizes = ap (λ (u : Question). u.sizes) back ∙ h.names.sizes;
        root = ap (λ (u : Question). u.root) back ∙ h.names.root;
        salt = ap (λ (u : Question). u.salt) back ∙ h.names.salt;
      };
      reply_made =
          ap proof_reply h.proof_made ∙ reply_of_lem b l (table_of s l) (tree_of s l) c
          ∙ ap (λ (u : Question). reply_of u l (table_of s l) (tree_of s l)) (sym (back ∙ asks));
    }

abbrev pub AnyHonest : Sizes → Lent → AnyCall → Type 0
AnyHonest s l (conversation c) = Honest s l c
AnyHonest s l (alone p) = HonestProof s l p

pub mixed_committed : (calls : List AnyCall) (header root salt : Bytes) (l : Lent) → WellLent (header_sizes header) l
    → ((a : AnyCall) → Mem a calls → AnyHonest (header_sizes header) l a)
    → (h : (a : AnyCall) → Mem a calls → AnyAnswered a) (nc : NoCollision (joined calls) header root salt)
    → (L : List ℕ) (k : ℕ) (challenges : List ℕ) (answers : List (List ℕ)) (cov : Covered (joined calls) header root salt L k challenges answers)
    → row_polynomials (header_sizes header) l ≡ (collected_proofs calls header root salt h nc L k challenges answers cov).extracted
unfolding collected_proofs
mixed_committed calls header root salt l right honest h nc L k challenges answers cov =
    extracted_committed (joined calls) header root salt l right
    (λ c m. let r = joined_of calls c m.listed in each r.0 (honest r.0 r.1) c r.2)
    (joined-answered calls h) nc L k challenges answers cov
  where
    each : (a : AnyCall) → AnyHonest (header_sizes header) l a → (c : Call) → Mem c (joins a) → Honest (header_sizes header) l c
    each (conversation d) o c k = subst (Honest (header_sizes header) l) (sym (joins_conversation d c k)) o
    each (alone p) o c k = subst (Honest (header_sizes header) l) (sym (joins-accepted p c k).1) (proof_honest (header_sizes header) l p o)
