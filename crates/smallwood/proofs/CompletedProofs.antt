-- Demand 2 of proofs, from committing to proving and checking, each call as its contract describes it: what was committed is proved unless no counter below the
-- limit qualifies, and the proof is accepted with the true values, by the entries of Rattle and by those for C.
use mathlib.Core.Path.{◌≡◌, sym, ap, ap₂, ◌∙◌}
use mathlib.Core.Bool.{true, false}
use mathlib.Core.Logic.{◌⊎◌, inl, inr, ⊎_elim, ⊎_map}
use mathlib.Core.List.{List, ◌++◌}
use Prim.Native.Nat.{ℕ, ◌*◌, ◌<◌}
use contract.Lifetimes.{Lfts}
use denote.Triple.Clauses.{AtExit}
use borrow.Fn.Kinds.{Dens, res_t, ended_of}
use lib.Dec.{eqb}
use lib.ListN.{length, take, drop}
use lib.Seq.{take_at}
use Rattle.lists.specs.Bytes.{Bytes, bytes_of}
use Rattle.lists.specs.Choice.{pick}
use Rattle.scheme.specs.Sizes.{Sizes, sizes_of}
use Rattle.scheme.specs.Layers.{Lent, lent_of}
use Rattle.scheme.specs.Question.{header_points}
use Rattle.scheme.specs.Commit.{filled_ok, table_of, tree_of}
use Rattle.scheme.specs.Honest.{WellLent, true_values}
use Rattle.fiat_shamir.specs.Offline.{offline_points}
use Rattle.fiat_shamir.specs.Prove.{counter_ok, proof_bound, proving, proving_c}
use Rattle.fiat_shamir.specs.CheckProof.{checking_proof, checking_proof_c}
use Rattle.fiat_shamir.specs.HonestProofs.{NamesOffline, Proved, Unproved}
use Rattle.fiat_shamir.proofs.Proved.{proof_completeness}
use Rattle.refusal.specs.Numbers.{number_of, given}
use Rattle.commitment.specs.Shape.{sizes_in}
use Rattle.lent.specs.Witnessed.{witnessed}
use Rattle.committer.proofs.commit.Kinds as commit-kinds
use Rattle.committer.proofs.commit.Reads as commit
use Rattle.prover.proofs.prove.Kinds as prove-kinds
use Rattle.prover.proofs.prove.Reads as prove
use Rattle.proof_checker.proofs.check_proof.Kinds as check-kinds
use Rattle.proof_checker.proofs.check_proof.Reads as check
use Rattle.smallwood.proofs.smallwood_commit.Kinds as c-commit-kinds
use Rattle.smallwood.proofs.smallwood_commit.Reads as c-commit
use Rattle.smallwood.proofs.smallwood_prove.Kinds as c-prove-kinds
use Rattle.smallwood.proofs.smallwood_prove.Reads as c-prove
use Rattle.smallwood.proofs.smallwood_check_proof.Kinds as c-check-kinds
use Rattle.smallwood.proofs.smallwood_check_proof.Reads as c-check
use Rattle.smallwood.proofs.Completed.{first, rest, committed}

-- ---- outcomes that are equal to the definitions

-- no counter below the limit qualifies
abbrev NoCounter : Lent → Bytes → ℕ → ℕ → Type 0
NoCounter l question κ limit = (c : ℕ) → c < limit → counter_ok question κ l c ≡ false

-- both checks accept a proof with the true values
abbrev Accepted : Sizes → Lent → Bytes → ℕ → Bytes → Type 0
Accepted s l question κ proof =
    ((values : List ℕ) → length values ≡ s.w * header_points question → checking_proof question κ proof values ≡ (0, true_values s l (offline_points question)))
    × ((values : Bytes) → length values ≡ 4 * (s.w * header_points question) → checking_proof_c question κ proof values ≡ (0, bytes_of (true_values s l (offline_points question))))

-- a question that names the commitment, the table and the tree that committing left, a buffer of the right length
module _
    (s : Sizes) (l : Lent) (right : WellLent s l) (question : Bytes) (κ limit : ℕ) (names : NamesOffline s l question κ)
    (t : List ℕ) (n : Bytes) (et : t ≡ table_of s l) (en : n ≡ tree_of s l) (buffer : Bytes) (fits : length buffer ≡ proof_bound question) where
  proving_is : (r : ℕ × ℕ × Bytes) → proving question κ limit l (table_of s l) (tree_of s l) buffer ≡ r → proving question κ limit l t n buffer ≡ r
  proving_is r e = ap₂ (λ (x : List ℕ) (y : Bytes). proving question κ limit l x y buffer) et en ∙ e

  -- a proof is as many bytes of the buffer as proving said
  accepted : (p : Proved s l question κ limit buffer) (v k : ℕ) (x : Bytes) → ◌≡◌ {A = ℕ × ℕ × Bytes} (v, k, x) (0, length p.proof, p.proof ++ drop (length p.proof) buffer)
      → (proof : Bytes) → proof ≡ take k x → (v ≡ 0) × Accepted s l question κ proof
  accepted p v k x h proof front =
      let whole : length p.proof ≡ k = sym (ap (λ (z : ℕ × ℕ × Bytes). z.1) h) in
      let e : proof ≡ p.proof = front ∙ ap (λ (z : ℕ × ℕ × Bytes). take k z.2) h ∙ take_at p.proof (drop (length p.proof) buffer) k whole in (
        ap (λ (z : ℕ × ℕ × Bytes). z.0) h,
        (
          λ values fit. ap (λ (y : Bytes). checking_proof question κ y values) e ∙ p.checked values fit,
          λ values fit. ap (λ (y : Bytes). checking_proof_c question κ y values) e ∙ p.checked_c values fit,
        ),
      )

  proved : (v k : ℕ) (x : Bytes) → (v, k, x) ≡ proving question κ limit l t n buffer → (proof : Bytes) → proof ≡ take k x
      → ((v ≡ 11) × NoCounter l question κ limit) ⊎ ((v ≡ 0) × Accepted s l question κ proof)
  proved v k x h proof front = ⊎_elim
      (λ (p : Proved s l question κ limit buffer). inr (accepted p v k x (h ∙ proving_is _ p.proved) proof front))
      (λ (u : Unproved s l question κ limit buffer). inl (ap (λ (z : ℕ × ℕ × Bytes). z.0) (h ∙ proving_is _ u.refused), u.none))
      (proof_completeness s l right question κ limit buffer names fits)

  proved_c : (before v k : ℕ) (x : Bytes) → (v, k, x) ≡ proving_c question κ limit l t n buffer before → (proof : Bytes) → proof ≡ take k x
      → ((v ≡ 11) × NoCounter l question κ limit) ⊎ ((v ≡ 0) × Accepted s l question κ proof)
  unfolding proving_c
  proved_c before v k x h proof front =
      let lent : ℕ × ℕ × Bytes → ℕ × ℕ × Bytes = λ r. (r.0, pick (eqb r.0 0) r.1 before, r.2) in
      ⊎_elim
      (λ (p : Proved s l question κ limit buffer). inr (accepted p v k x (h ∙ ap lent (proving_is _ p.proved)) proof front))
      (λ (u : Unproved s l question κ limit buffer). inl (ap (λ (z : ℕ × ℕ × Bytes). z.0) (h ∙ ap lent (proving_is _ u.refused)), u.none))
      (proof_completeness s l right question κ limit buffer names fits)

-- ---- the entries of Rattle

-- a call of each: committing, proving, checking
module _
    (κ₁ : Lfts 4) (a₁ : Dens κ₁ commit-kinds.ps) (r₁ : (res_t commit-kinds.r κ₁).Denot) (e₁ : AtExit (ended_of 4 commit-kinds.ps commit-kinds.r) κ₁) (h₁ : commit.Learnt κ₁ a₁ r₁ e₁)
    (κ₂ : Lfts 6) (a₂ : Dens κ₂ prove-kinds.ps) (r₂ : (res_t prove-kinds.r κ₂).Denot) (e₂ : AtExit (ended_of 6 prove-kinds.ps prove-kinds.r) κ₂) (h₂ : prove.Learnt κ₂ a₂ r₂ e₂)
    (κ₃ : Lfts 3) (a₃ : Dens κ₃ check-kinds.ps) (r₃ : (res_t check-kinds.r κ₃).Denot) (e₃ : AtExit (ended_of 3 check-kinds.ps check-kinds.r) κ₃) (h₃ : check.Learnt κ₃ a₃ r₃ e₃) where
  -- what committing was lent
  abbrev sizes_given : Sizes
  sizes_given = sizes_in a₁.0

  abbrev lent_given : Lent
  lent_given = witnessed a₁.1.0.now

  -- the question, κ and limit that proving was given, and the length that it gave
  abbrev asked : Bytes
  asked = a₂.0.now

  abbrev bits : ℕ
  bits = a₂.1.0

  abbrev tried : ℕ
  tried = a₂.1.1.0

  abbrev proved_length : ℕ
  proved_length = given r₂

  -- the calls belong together: each is lent what those before it left
  pub record ProofChained : Type 0 where
    pub right : WellLent sizes_given lent_given
    pub room : filled_ok sizes_given a₁.1.1.0.now a₁.1.1.1.0.now ≡ true
    pub names : NamesOffline sizes_given lent_given asked bits
    -- proving: the same secrets and salt, the table and the tree as committing left them, a buffer for the longest proof
    pub proved_lent : witnessed a₂.1.1.1.0.now ≡ lent_given
    pub proved_table : a₂.1.1.1.1.0.now ≡ e₁.1.1.0.now
    pub proved_tree : a₂.1.1.1.1.1.0.now ≡ e₁.1.1.1.0.now
    pub buffer : length a₂.1.1.1.1.1.1.0.now ≡ proof_bound asked
    -- checking: the same question and κ, of what proving left as many bytes as it said, a value buffer of the right length
    pub checked_question : a₃.0.now ≡ asked
    pub checked-bits : a₃.1.0 ≡ bits
    pub checked_proof : a₃.1.1.0.now ≡ take proved_length e₂.1.1.1.1.1.1.0.now
    pub values : length a₃.1.1.1.0.now ≡ sizes_given.w * header_points asked

  -- then proving refuses with 11 only where no counter below the limit qualifies; else neither refuses, and the values are the true ones
  pub completed_proof : ProofChained → (number_of r₁ ≡ 0)
      × (((number_of r₂ ≡ 11) × NoCounter lent_given asked bits tried) ⊎ ((number_of r₂ ≡ 0) × (number_of r₃ ≡ 0) × (e₃.1.1.1.0.now ≡ true_values sizes_given lent_given (offline_points asked))))
  completed_proof c =
      let one = committed sizes_given lent_given c.right a₁.1.1.0.now a₁.1.1.1.0.now c.room (number_of r₁)
      e₁.1.1.0.now e₁.1.1.1.0.now h₁ in
      let table : List ℕ = a₂.1.1.1.1.0.now in
      let tree : Bytes = a₂.1.1.1.1.1.0.now in
      let buffer : Bytes = a₂.1.1.1.1.1.1.0.now in
      let proof : Bytes = a₃.1.1.0.now in
      let values : List ℕ = a₃.1.1.1.0.now in
      let two = proved sizes_given lent_given c.right asked bits tried c.names table tree (c.proved_table ∙ one.1) (c.proved_tree ∙ one.2) buffer c.buffer
      (number_of r₂) proved_length e₂.1.1.1.1.1.1.0.now
      (h₂ ∙ ap (λ (x : Lent). proving asked bits tried x table tree buffer) c.proved_lent) proof c.checked_proof in
      let three : (number_of r₃, e₃.1.1.1.0.now) ≡ checking_proof asked bits proof values =
      h₃ ∙ ap₂ (λ (x : Bytes) (k : ℕ). checking_proof x k proof values) c.checked_question c.checked-bits in
      (one.0, ⊎_map (λ u. u) (λ y. let e = three ∙ y.1.0 values c.values in (y.0, first e, rest e)) two)

-- ---- the entries for C

-- a call of each: committing, proving, checking
module _
    (κ₁ : Lfts 8) (a₁ : Dens κ₁ c-commit-kinds.ps) (r₁ : (res_t c-commit-kinds.r κ₁).Denot) (e₁ : AtExit (ended_of 8 c-commit-kinds.ps c-commit-kinds.r) κ₁) (h₁ : c-commit.Learnt κ₁ a₁ r₁ e₁)
    (κ₂ : Lfts 11) (a₂ : Dens κ₂ c-prove-kinds.ps) (r₂ : (res_t c-prove-kinds.r κ₂).Denot) (e₂ : AtExit (ended_of 11 c-prove-kinds.ps c-prove-kinds.r) κ₂) (h₂ : c-prove.Learnt κ₂ a₂ r₂ e₂)
    (κ₃ : Lfts 3) (a₃ : Dens κ₃ c-check-kinds.ps) (r₃ : (res_t c-check-kinds.r κ₃).Denot) (e₃ : AtExit (ended_of 3 c-check-kinds.ps c-check-kinds.r) κ₃) (h₃ : c-check.Learnt κ₃ a₃ r₃ e₃) where
  -- what committing was lent
  abbrev sizes_given_c : Sizes
  sizes_given_c = sizes_of a₁.0 a₁.1.0 a₁.1.1.0 a₁.1.1.1.0 a₁.1.1.1.1.0 a₁.1.1.1.1.1.0 a₁.1.1.1.1.1.1.0

  abbrev lent_given_c : Lent
  lent_given_c = lent_of a₁.1.1.1.1.1.1.1.0.now a₁.1.1.1.1.1.1.1.1.0.now a₁.1.1.1.1.1.1.1.1.1.0.now a₁.1.1.1.1.1.1.1.1.1.1.0.now a₁.1.1.1.1.1.1.1.1.1.1.1.0.now a₁.1.1.1.1.1.1.1.1.1.1.1.1.0.now

  -- the question, κ and limit that proving was given, and the length that it gave
  abbrev asked_c : Bytes
  asked_c = a₂.0.now

  abbrev bits_c : ℕ
  bits_c = a₂.1.0

  abbrev tried_c : ℕ
  tried_c = a₂.1.1.0

  abbrev proved_length_c : ℕ
  proved_length_c = e₂.1.1.1.1.1.1.1.1.1.1.1.1.0.now

  -- the calls belong together: each is lent what those before it left
  pub record ProofChainedC : Type 0 where
    pub right : WellLent sizes_given_c lent_given_c
    pub room : filled_ok sizes_given_c a₁.1.1.1.1.1.1.1.1.1.1.1.1.1.0.now a₁.1.1.1.1.1.1.1.1.1.1.1.1.1.1.0.now ≡ true
    pub names : NamesOffline sizes_given_c lent_given_c asked_c bits_c
    -- proving: the same secrets and salt, the table and the tree as committing left them, a buffer for the longest proof
    pub proved_lent : lent_of a₂.1.1.1.0.now a₂.1.1.1.1.0.now a₂.1.1.1.1.1.0.now a₂.1.1.1.1.1.1.0.now a₂.1.1.1.1.1.1.1.1.0.now a₂.1.1.1.1.1.1.1.1.1.0.now ≡ lent_given_c
    pub proved_table : a₂.1.1.1.1.1.1.1.0.now ≡ e₁.1.1.1.1.1.1.1.1.1.1.1.1.1.0.now
    pub proved_tree : a₂.1.1.1.1.1.1.1.1.1.1.0.now ≡ e₁.1.1.1.1.1.1.1.1.1.1.1.1.1.1.0.now
    pub buffer : length a₂.1.1.1.1.1.1.1.1.1.1.1.0.now ≡ proof_bound asked_c
    -- checking: the same question and κ, of what proving left as many bytes as it said, a value buffer of the right length
    pub checked_question : a₃.0.now ≡ asked_c
    pub checked-bits : a₃.1.0 ≡ bits_c
    pub checked_proof : a₃.1.1.0.now ≡ take proved_length_c e₂.1.1.1.1.1.1.1.1.1.1.1.0.now
    pub values : length a₃.1.1.1.0.now ≡ 4 * (sizes_given_c.w * header_points asked_c)

  -- then proving refuses with 11 only where no counter below the limit qualifies; else neither refuses, and the values are the true ones
  pub completed_proof_c : ProofChainedC → (r₁ ≡ 0)
      × (((r₂ ≡ 11) × NoCounter lent_given_c asked_c bits_c tried_c) ⊎ ((r₂ ≡ 0) × (r₃ ≡ 0) × (e₃.1.1.1.0.now ≡ bytes_of (true_values sizes_given_c lent_given_c (offline_points asked_c)))))
  completed_proof_c c =
      let one = committed sizes_given_c lent_given_c c.right a₁.1.1.1.1.1.1.1.1.1.1.1.1.1.0.now a₁.1.1.1.1.1.1.1.1.1.1.1.1.1.1.0.now c.room r₁
      e₁.1.1.1.1.1.1.1.1.1.1.1.1.1.0.now e₁.1.1.1.1.1.1.1.1.1.1.1.1.1.1.0.now h₁ in
      let table : List ℕ = a₂.1.1.1.1.1.1.1.0.now in
      let tree : Bytes = a₂.1.1.1.1.1.1.1.1.1.1.0.now in
      let buffer : Bytes = a₂.1.1.1.1.1.1.1.1.1.1.1.0.now in
      let proof : Bytes = a₃.1.1.0.now in
      let values : Bytes = a₃.1.1.1.0.now in
      let two = proved_c sizes_given_c lent_given_c c.right asked_c bits_c tried_c c.names table tree (c.proved_table ∙ one.1) (c.proved_tree ∙ one.2) buffer c.buffer
      a₂.1.1.1.1.1.1.1.1.1.1.1.1.0.now r₂ proved_length_c e₂.1.1.1.1.1.1.1.1.1.1.1.0.now
      (h₂ ∙ ap (λ (x : Lent). proving_c asked_c bits_c tried_c x table tree buffer a₂.1.1.1.1.1.1.1.1.1.1.1.1.0.now) c.proved_lent) proof c.checked_proof in
      let three : (r₃, e₃.1.1.1.0.now) ≡ checking_proof_c asked_c bits_c proof values =
      h₃ ∙ ap₂ (λ (x : Bytes) (k : ℕ). checking_proof_c x k proof values) c.checked_question c.checked-bits in
      (one.0, ⊎_map (λ u. u) (λ y. let e = three ∙ y.1.1 values c.values in (y.0, first e, rest e)) two)
