-- Proofs among collected replies: the same claim holds, and proofs alone never meet its hypotheses.
use mathlib.Core.Path.{◌≡◌, refl, sym, ap, ap₂, ◌∙◌, subst}
use mathlib.Core.Bool.{Bool, true, false}
use mathlib.Core.Logic.{⊎_elim}
use mathlib.Core.List.Memᴰ.{append_cases as in-cases, append_left as in_left, append_right as in_right, cases_cons as in-cons, head as here, not-nil, tail as there}
use mathlib.Core.List.{List, [], ◌∷◌, ◌++◌, map, flatten, Memᴰ as Mem}
use Prim.Native.Nat.{ℕ, ◌<◌}
use native.Mathlib.Omega.{arith}
use lib.Dec.{eqb}
use lib.ListN.{length, get_or, take}
use lib.Seq.{take-add}
use borrow.Author.Tests.{eqb-true, eq-eqb}
use Rattle.lists.specs.Choice.{pick, tested}
use Rattle.lists.specs.All.{distinct_at}
use Rattle.lists.specs.Maps.{map_of, get_or_in}
use Rattle.lists.specs.Bytes.{Bytes}
use Rattle.tree.specs.Leaf.{salt_length}
use Rattle.scheme.specs.Sizes.{SizesInOrder}
use Rattle.scheme.specs.Question.{Question, header_length, header_sizes, salt_at}
use Rattle.scheme.specs.Collect.{Call, Answered, asked, Collected, Covered}
use Rattle.scheme.proofs.Accepted.{sizes_in_order}
use Rattle.scheme.proofs.Replies.{header_sizes_lem, collected_replies}
use Rattle.fiat_shamir.specs.Offline.{header_root_salt, offline_root, offline_salt, offline_verdict}
use Rattle.fiat_shamir.specs.Draw.{drawn_challenges}
use Rattle.fiat_shamir.specs.CheckProof.{proof_indices, proof_asks, does_proof}
use Rattle.fiat_shamir.specs.CollectProofs.{ProofCall, ProofAnswered, taken, AnyCall, conversation, alone, AnyAnswered, joins, joined, CollectedProofs}
use Rattle.fiat_shamir.proofs.Drawn.{AskedOffline, asked_offline_lem, drawn_header}
use Rattle.fiat_shamir.proofs.Accepted.{as_conversation, proof_question_back}

-- ---- an accepted proof is an accepted call of the conversation's check

module _ (p : ProofCall) (o : ProofAnswered p) (z : p.verdict ≡ 0) where
  accepted : (does_proof p.entry p.question p.κ p.proof p.before).0 ≡ 0
  accepted = sym (ap (λ (x : ℕ × List ℕ). x.0) o.outcome) ∙ z

  proof_answered : Answered (taken p)
  proof_answered = record { outcome = o.outcome ∙ ((as_conversation p.entry p.question p.κ p.proof p.before).accepted accepted).2 }

  proof_well_formed : offline_verdict p.question p.κ ≡ 0
  proof_well_formed = ((as_conversation p.entry p.question p.κ p.proof p.before).accepted accepted).0

  a : AskedOffline p.question p.κ
  a = asked_offline_lem p.question p.κ proof_well_formed

  in_order : SizesInOrder (header_sizes p.question)
  in_order = sizes_in_order (header_sizes p.question) a.sizes_right

  -- it asks what is drawn, under its own header, root and salt
  proof_asks_lem : asked (taken p) ≡ proof_asks p.question p.proof
  proof_asks_lem = proof_question_back p.question p.κ p.proof proof_well_formed

  proof_header : take header_length (taken p).question ≡ take header_length p.question
  proof_header = drawn_header p.question p.κ a (proof_indices p.question p.proof)

  proof_root : (asked (taken p)).root ≡ offline_root p.question
  proof_root = ap (λ (u : Question). u.root) proof_asks_lem

  proof_salt : (asked (taken p)).salt ≡ offline_salt p.question
  proof_salt = ap (λ (u : Question). u.salt) proof_asks_lem

-- ---- the calls that a list stands for

pub joined_of : (calls : List AnyCall) (c : Call) → Mem c (joined calls) → (a : AnyCall) × Mem a calls × Mem c (joins a)
unfolding joined flatten
joined_of [] c m = absurd (not-nil m)
joined_of (a ∷ calls) c m = ⊎_elim
    (λ k. (a, here refl, k))
    (λ k. let r = joined_of calls c k in (r.0, there r.1, r.2))
    (in-cases (joins a) m)

joined_in : (a : AnyCall) (calls : List AnyCall) (c : Call) → Mem a calls → Mem c (joins a) → Mem c (joined calls)
unfolding joined flatten
joined_in a (b ∷ calls) c (here e) k = in_left (flatten (map joins calls)) (subst (λ (x : AnyCall). Mem c (joins x)) e k)
joined_in a (b ∷ calls) c (there m) k = in_right (joins b) (joined_in a calls c m k)
joined_in a [] c m k = absurd (not-nil m)

only_of : (c d : Call) → Mem c (d ∷ []) → c ≡ d
only_of c d m = ⊎_elim (λ (e : c ≡ d). e) (λ n. absurd (not-nil n)) (in-cons m)

pub joins_conversation : (d c : Call) → Mem c (joins (conversation d)) → c ≡ d
joins_conversation d c m = only_of c d m

-- a proof that joins is accepted
pub joins-accepted : (p : ProofCall) (c : Call) → Mem c (joins (alone p)) → (p.verdict ≡ 0) × (c ≡ taken p)
joins-accepted p c m = ⊎_elim
    (λ (e : eqb p.verdict 0 ≡ true). (eqb-true p.verdict 0 e, only_of c (taken p) (subst (λ (b : Bool). Mem c (pick b (taken p ∷ []) [])) e m)))
    (λ (e : eqb p.verdict 0 ≡ false). absurd (not-nil (subst (λ (b : Bool). Mem c (pick b (taken p ∷ []) [])) e m)))
    (tested (eqb p.verdict 0))

-- every accepted one of the list joins, under its header, root and salt
pub proof_joins : (calls : List AnyCall) (p : ProofCall) → Mem (alone p) calls → ProofAnswered p → p.verdict ≡ 0
    → Collected (joined calls) (take header_length p.question) (offline_root p.question) (offline_salt p.question) (taken p)
proof_joins calls p m o z = record {
  listed = joined_in (alone p) calls (taken p) m (subst (λ (b : Bool). Mem (taken p) (pick b (taken p ∷ []) [])) (sym (eq-eqb p.verdict 0 z)) (here refl));
  accepted = z;
  under_header = proof_header p o z;
  under_root = proof_root p o z;
  under_salt = proof_salt p o z;
}

pub joined-answered : (calls : List AnyCall) → ((a : AnyCall) → Mem a calls → AnyAnswered a) → (c : Call) → Mem c (joined calls) → Answered c
joined-answered calls h c m = let r = joined_of calls c m in step r.0 (h r.0 r.1) r.2
  where
    step : (a : AnyCall) → AnyAnswered a → Mem c (joins a) → Answered c
    step (conversation d) o k = subst Answered (sym (joins_conversation d c k)) o
    step (alone p) o k = let j = joins-accepted p c k in subst Answered (sym j.1) (proof_answered p o j.0)

-- ---- collected replies, with proofs among them

unfoldable pub collected_proofs : (calls : List AnyCall) (header root salt : Bytes) → CollectedProofs calls header root salt
collected_proofs calls header root salt h = collected_replies (joined calls) header root salt (joined-answered calls h)

-- ---- alone they cannot fill a collection

module _ (calls : List Call) (header root salt : Bytes) where
  module _ (p : ProofCall) (o : ProofAnswered p) (k : Collected calls header root salt (taken p)) where
    header_same : take header_length p.question ≡ header
    header_same = sym (proof_header p o k.accepted) ∙ k.under_header

    -- its γ are drawn from header, root and salt alone
    proof_challenges : (asked (taken p)).challenges ≡ drawn_challenges ((header ++ root) ++ salt)
    proof_challenges =
        let root-same : offline_root p.question ≡ root = sym (proof_root p o k.accepted) ∙ k.under_root in
        let salt-same : offline_salt p.question ≡ salt = sym (proof_salt p o k.accepted) ∙ k.under_salt in
        let under : header_root_salt p.question ≡ (header ++ root) ++ salt =
        take-add salt_at salt_length p.question ∙ ap₂ ◌++◌ (take-add header_length 32 p.question ∙ ap₂ ◌++◌ header_same root-same) salt-same in
        ap (λ (u : Question). u.challenges) (proof_asks_lem p o k.accepted) ∙ ap drawn_challenges under

    header_in_order : SizesInOrder (header_sizes header)
    header_in_order = subst SizesInOrder (sym (header_sizes_lem p.question) ∙ ap header_sizes header_same) (in_order p o k.accepted)

  -- under one header, root and salt all proofs hold the same γ
  pub same_challenges : (p p' : ProofCall) → ProofAnswered p → ProofAnswered p' → Collected calls header root salt (taken p) → Collected calls header root salt (taken p')
      → (asked (taken p)).challenges ≡ (asked (taken p')).challenges
  same_challenges p p' o o' k k' = proof_challenges p o k ∙ sym (proof_challenges p' o' k')

-- while a covered collection has μ + β + 1 different ones in one repetition
module _ (ps : List ProofCall) (header root salt : Bytes) (h : (p : ProofCall) → Mem p ps → ProofAnswered p) where
  abbrev calls : List Call
  calls = joined (map alone ps)

  behind : (c : Call) → Collected calls header root salt c → (p : ProofCall) × ProofAnswered p × (c ≡ taken p)
  behind c k =
      let r = joined_of (map alone ps) c k.listed in
      let p = map_of ps r.1 in
      let j = joins-accepted p.0 c (subst (λ (a : AnyCall). Mem c (joins a)) p.2 r.2) in
      (p.0, h p.0 p.1, j.1)

  call_challenges : (c : Call) → Collected calls header root salt c → (asked c).challenges ≡ drawn_challenges ((header ++ root) ++ salt)
  call_challenges c k =
      let p = behind c k in
      ap (λ (d : Call). (asked d).challenges) p.2 ∙ proof_challenges calls header root salt p.0 p.1 (subst (Collected calls header root salt) p.2 k)

  call_in_order : (c : Call) → Collected calls header root salt c → SizesInOrder (header_sizes header)
  call_in_order c k = let p = behind c k in header_in_order calls header root salt p.0 p.1 (subst (Collected calls header root salt) p.2 k)

  module _ (L : List ℕ) (k : ℕ) (challenges : List ℕ) (answers : List (List ℕ)) (cov : Covered calls header root salt L k challenges answers) where
    first_in : Mem (get_or L 0 0) L
    first_in = get_or_in L 0 (omega (arith, cov.enough-leaves))

    challenge_is : (g : ℕ) → g < length challenges → get_or challenges g 0 ≡ get_or (drawn_challenges ((header ++ root) ++ salt)) k 0
    challenge_is g l = let w = cov.opened_under (get_or L 0 0) first_in g l in sym w.4 ∙ ap (λ (γ : List ℕ). get_or γ k 0) (call_challenges w.0 w.2)

    two_challenges : 1 < length challenges
    two_challenges = let w = cov.opened_under (get_or L 0 0) first_in 0 (omega (arith, cov.enough_challenges)) in omega (arith, cov.enough_challenges, (call_in_order w.0 w.2).μ_low)

pub proofs_alone : (ps : List ProofCall) (header root salt : Bytes) → ((p : ProofCall) → Mem p ps → ProofAnswered p)
    → (L : List ℕ) (k : ℕ) (challenges : List ℕ) (answers : List (List ℕ)) → Covered (joined (map alone ps)) header root salt L k challenges answers → ⊥
proofs_alone ps header root salt h L k challenges answers cov =
    let two : 1 < length challenges = two_challenges ps header root salt h L k challenges answers cov in
    distinct_at 0 challenges cov.challenges_differ 0 1 (omega arith) two
    (challenge_is ps header root salt h L k challenges answers cov 1 two ∙ sym (challenge_is ps header root salt h L k challenges answers cov 0 (omega arith)))
