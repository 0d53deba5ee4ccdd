-- Demand 2 from committing to sizing, opening and checking, each call as its contract describes it: what was committed is opened and accepted with the true values,
-- by the entries of Rattle and by those for C.
use mathlib.Core.Path.{◌≡◌, sym, ap, ap₂, ◌∙◌}
use mathlib.Core.Bool.{true}
use mathlib.Core.List.{List}
use Prim.Native.Nat.{ℕ, ◌*◌}
use contract.Lifetimes.{Lfts}
use denote.Triple.Clauses.{AtExit}
use borrow.Fn.Kinds.{Dens, res_t, ended_of}
use lib.Dec.{eqb}
use lib.ListN.{length}
use Rattle.lists.specs.Bytes.{Bytes, bytes_of}
use Rattle.lists.specs.Choice.{pick}
use Rattle.scheme.specs.Sizes.{Sizes, sizes_of}
use Rattle.scheme.specs.Layers.{Lent, lent_of}
use Rattle.scheme.specs.Question.{read_question}
use Rattle.scheme.specs.Reply.{reply_length}
use Rattle.scheme.specs.Commit.{filled_ok, table_of, tree_of, committing}
use Rattle.scheme.specs.Sizing.{planning_c, sizing, sizing_c}
use Rattle.scheme.specs.Open.{opening, opening_c}
use Rattle.scheme.specs.Check.{checking_c}
use Rattle.scheme.specs.Work.{checking_counted, question_work}
use Rattle.scheme.specs.Honest.{WellLent, Names, Replied, true_values}
use Rattle.scheme.proofs.Opening.{planning_is}
use Rattle.scheme.proofs.Complete.{completeness}
use Rattle.refusal.specs.Numbers.{number_of, given}
use Rattle.commitment.specs.Shape.{sizes_in}
use Rattle.lent.specs.Witnessed.{witnessed}
use Rattle.committer.proofs.commit.Kinds as commit-kinds
use Rattle.committer.proofs.commit.Reads as commit
use Rattle.planner.proofs.reply_length.Kinds as size-kinds
use Rattle.planner.proofs.reply_length.Reads as size
use Rattle.opener.proofs.open.Kinds as open-kinds
use Rattle.opener.proofs.open.Reads as open-reads
use Rattle.checker.proofs.check.Kinds as check-kinds
use Rattle.checker.proofs.check.Reads as check
use Rattle.smallwood.proofs.smallwood_commit.Kinds as c-commit-kinds
use Rattle.smallwood.proofs.smallwood_commit.Reads as c-commit
use Rattle.smallwood.proofs.smallwood_reply_length.Kinds as c-size-kinds
use Rattle.smallwood.proofs.smallwood_reply_length.Reads as c-size
use Rattle.smallwood.proofs.smallwood_open.Kinds as c-open-kinds
use Rattle.smallwood.proofs.smallwood_open.Reads as c-open
use Rattle.smallwood.proofs.smallwood_check.Kinds as c-check-kinds
use Rattle.smallwood.proofs.smallwood_check.Reads as c-check

-- ---- outcomes that are equal to the definitions

pub first : {A : Type 0} {a b : ℕ} {x y : A} → ◌≡◌ {A = ℕ × A} (a, x) (b, y) → a ≡ b
first {A} e = ap (λ (z : ℕ × A). z.0) e

pub rest : {A : Type 0} {a b : ℕ} {x y : A} → ◌≡◌ {A = ℕ × A} (a, x) (b, y) → x ≡ y
rest {A} e = ap (λ (z : ℕ × A). z.1) e

module _ (s : Sizes) (l : Lent) (right : WellLent s l) where
  -- a table and a tree of the right lengths
  pub committed : (table : List ℕ) (nodes : Bytes) → filled_ok s table nodes ≡ true → (v : ℕ) (t : List ℕ) (n : Bytes) → (v, t, n) ≡ committing s l table nodes
      → (v ≡ 0) × (t ≡ table_of s l) × (n ≡ tree_of s l)
  committed table nodes f v t n h =
      let e : ◌≡◌ {A = ℕ × List ℕ × Bytes} (v, t, n) (0, table_of s l, tree_of s l) = h ∙ (completeness s l right).0 table nodes f in
      (ap (λ (z : ℕ × List ℕ × Bytes). z.0) e, ap (λ (z : ℕ × List ℕ × Bytes). z.1) e, ap (λ (z : ℕ × List ℕ × Bytes). z.2) e)

  -- a question that names the commitment
  module _ (question : Bytes) (names : Names s l question) where
    sized : (v n : ℕ) → (v, n) ≡ sizing question → (v ≡ 0) × (n ≡ reply_length (read_question question))
    sized v n h = let e = h ∙ planning_is reply_length question names.well_formed in (first e, rest e)

    sized_c : (before v n : ℕ) → (v, n) ≡ sizing_c question before → (v ≡ 0) × (n ≡ reply_length (read_question question))
    unfolding planning_c
    sized_c before v n h =
        let e = h ∙ ap (λ (r : ℕ × ℕ). (r.0, pick (eqb r.0 0) r.1 before)) (planning_is reply_length question names.well_formed) in
        (first e, rest e)

    -- a buffer of the length that sizing gave, with the table and the tree that committing left
    module _ (t : List ℕ) (n : Bytes) (et : t ≡ table_of s l) (en : n ≡ tree_of s l) (buffer : Bytes) (fits : length buffer ≡ reply_length (read_question question)) where
      made : Replied s l question buffer
      made = (completeness s l right).1 question buffer names fits

      opened_is : opening question l t n buffer ≡ (0, length made.reply, made.reply)
      opened_is = ap₂ (λ (x : List ℕ) (y : Bytes). opening question l x y buffer) et en ∙ made.opened

      opened : (v k : ℕ) (x : Bytes) → (v, k, x) ≡ opening question l t n buffer → (v ≡ 0) × (k ≡ length x) × (x ≡ made.reply)
      opened v k x h =
          let e : ◌≡◌ {A = ℕ × ℕ × Bytes} (v, k, x) (0, length made.reply, made.reply) = h ∙ opened_is in
          let r : x ≡ made.reply = ap (λ (z : ℕ × ℕ × Bytes). z.2) e in
          (ap (λ (z : ℕ × ℕ × Bytes). z.0) e, ap (λ (z : ℕ × ℕ × Bytes). z.1) e ∙ ap length (sym r), r)

      opened_c : (before v k : ℕ) (x : Bytes) → (v, k, x) ≡ opening_c question l t n buffer before → (v ≡ 0) × (k ≡ length x) × (x ≡ made.reply)
      unfolding opening_c
      opened_c before v k x h =
          let e : ◌≡◌ {A = ℕ × ℕ × Bytes} (v, k, x) (0, length made.reply, made.reply) = h ∙ ap (λ (r : ℕ × ℕ × Bytes). (r.0, pick (eqb r.0 0) r.1 before, r.2)) opened_is in
          let r : x ≡ made.reply = ap (λ (z : ℕ × ℕ × Bytes). z.2) e in
          (ap (λ (z : ℕ × ℕ × Bytes). z.0) e, ap (λ (z : ℕ × ℕ × Bytes). z.1) e ∙ ap length (sym r), r)

      -- the reply that opening left, and a value buffer of the right length
      checked : (reply : Bytes) → reply ≡ made.reply → (values : List ℕ) → length values ≡ s.w * (read_question question).m → (v n : ℕ) (out : List ℕ) → (v, n, out) ≡ checking_counted question reply values
          → (v ≡ 0) × (n ≡ question_work (read_question question)) × (out ≡ true_values s l (read_question question).evaluation_points)
      checked reply er values fit v n out h =
          let e : ◌≡◌ {A = ℕ × ℕ × List ℕ} (v, n, out) (0, question_work (read_question question), true_values s l (read_question question).evaluation_points) =
          h ∙ ap (λ (x : Bytes). checking_counted question x values) er ∙ made.checked values fit in
          (ap (λ (z : ℕ × ℕ × List ℕ). z.0) e, ap (λ (z : ℕ × ℕ × List ℕ). z.1) e, ap (λ (z : ℕ × ℕ × List ℕ). z.2) e)

      checked_c : (reply : Bytes) → reply ≡ made.reply → (values : Bytes) → length values ≡ 4 * (s.w * (read_question question).m) → (v : ℕ) (out : Bytes) → (v, out) ≡ checking_c question reply values
          → (v ≡ 0) × (out ≡ bytes_of (true_values s l (read_question question).evaluation_points))
      checked_c reply er values fit v out h = let e = h ∙ ap (λ (x : Bytes). checking_c question x values) er ∙ made.checked_c values fit in (first e, rest e)

-- ---- the entries of Rattle

-- a call of each: committing, sizing, opening, checking
module _
    (κ₁ : Lfts 4) (a₁ : Dens κ₁ commit-kinds.ps) (r₁ : (res_t commit-kinds.r κ₁).Denot) (e₁ : AtExit (ended_of 4 commit-kinds.ps commit-kinds.r) κ₁) (h₁ : commit.Learnt κ₁ a₁ r₁ e₁)
    (κ₂ : Lfts 1) (a₂ : Dens κ₂ size-kinds.ps) (r₂ : (res_t size-kinds.r κ₂).Denot) (e₂ : AtExit (ended_of 1 size-kinds.ps size-kinds.r) κ₂) (h₂ : size.Learnt κ₂ a₂ r₂ e₂)
    (κ₃ : Lfts 6) (a₃ : Dens κ₃ open-kinds.ps) (r₃ : (res_t open-kinds.r κ₃).Denot) (e₃ : AtExit (ended_of 6 open-kinds.ps open-kinds.r) κ₃) (h₃ : open-reads.Learnt κ₃ a₃ r₃ e₃)
    (κ₄ : Lfts 3) (a₄ : Dens κ₄ check-kinds.ps) (r₄ : (res_t check-kinds.r κ₄).Denot) (e₄ : AtExit (ended_of 3 check-kinds.ps check-kinds.r) κ₄) (h₄ : check.Learnt κ₄ a₄ r₄ e₄) where
  -- what committing was lent
  abbrev sizes_given : Sizes
  sizes_given = sizes_in a₁.0

  abbrev lent_given : Lent
  lent_given = witnessed a₁.1.0.now

  -- the question that sizing was lent, and the length that it gave
  abbrev asked : Bytes
  asked = a₂.0.now

  abbrev planned : ℕ
  planned = given r₂

  -- the calls belong together: each is lent what those before it left
  pub record Chained : Type 0 where
    pub right : WellLent sizes_given lent_given
    pub room : filled_ok sizes_given a₁.1.1.0.now a₁.1.1.1.0.now ≡ true
    pub names : Names sizes_given lent_given asked
    -- opening: the same question, the same secrets and salt, the table and the tree as committing left them, a buffer of the length that sizing gave
    pub opened_question : a₃.0.now ≡ asked
    pub opened_lent : witnessed a₃.1.0.now ≡ lent_given
    pub opened-table : a₃.1.1.0.now ≡ e₁.1.1.0.now
    pub opened_tree : a₃.1.1.1.0.now ≡ e₁.1.1.1.0.now
    pub buffer : length a₃.1.1.1.1.0.now ≡ planned
    -- checking: the same question, the reply as opening left it, a value buffer of its length
    pub checked_question : a₄.0.now ≡ asked
    pub checked_reply : a₄.1.0.now ≡ e₃.1.1.1.1.0.now
    pub values : length a₄.1.1.0.now ≡ sizes_given.w * (read_question asked).m

  -- then none of them refuses, the work is the question's, and the values are the true ones
  pub completed : Chained → (number_of r₁ ≡ 0) × (number_of r₂ ≡ 0) × (number_of r₃ ≡ 0) × (number_of r₄.outcome ≡ 0) × (r₄.permutations ≡ question_work (read_question asked))
      × (e₄.1.1.0.now ≡ true_values sizes_given lent_given (read_question asked).evaluation_points)
  completed c =
      let one = committed sizes_given lent_given c.right a₁.1.1.0.now a₁.1.1.1.0.now c.room (number_of r₁) e₁.1.1.0.now
      e₁.1.1.1.0.now h₁ in
      let two = sized sizes_given lent_given c.right asked c.names (number_of r₂) planned h₂ in
      let table : List ℕ = a₃.1.1.0.now in
      let tree : Bytes = a₃.1.1.1.0.now in
      let buffer : Bytes = a₃.1.1.1.1.0.now in
      let et : table ≡ table_of sizes_given lent_given = c.opened-table ∙ one.1 in
      let en : tree ≡ tree_of sizes_given lent_given = c.opened_tree ∙ one.2 in
      let fits : length buffer ≡ reply_length (read_question asked) = c.buffer ∙ two.1 in
      let three = opened sizes_given lent_given c.right asked c.names table tree et en buffer fits (number_of r₃) (given r₃) e₃.1.1.1.1.0.now
      (h₃ ∙ ap₂ (λ (q : Bytes) (x : Lent). opening q x table tree buffer) c.opened_question c.opened_lent) in
      let four = checked sizes_given lent_given c.right asked c.names table tree et en buffer fits a₄.1.0.now (c.checked_reply ∙ three.2) a₄.1.1.0.now c.values (number_of r₄.outcome) r₄.permutations e₄.1.1.0.now
      (h₄ ∙ ap (λ (q : Bytes). checking_counted q a₄.1.0.now a₄.1.1.0.now) c.checked_question) in
      (one.0, two.0, three.0, four.0, four.1, four.2)

-- ---- the entries for C

-- a call of each: committing, sizing, opening, checking
module _
    (κ₁ : Lfts 8) (a₁ : Dens κ₁ c-commit-kinds.ps) (r₁ : (res_t c-commit-kinds.r κ₁).Denot) (e₁ : AtExit (ended_of 8 c-commit-kinds.ps c-commit-kinds.r) κ₁) (h₁ : c-commit.Learnt κ₁ a₁ r₁ e₁)
    (κ₂ : Lfts 2) (a₂ : Dens κ₂ c-size-kinds.ps) (r₂ : (res_t c-size-kinds.r κ₂).Denot) (e₂ : AtExit (ended_of 2 c-size-kinds.ps c-size-kinds.r) κ₂) (h₂ : c-size.Learnt κ₂ a₂ r₂ e₂)
    (κ₃ : Lfts 11) (a₃ : Dens κ₃ c-open-kinds.ps) (r₃ : (res_t c-open-kinds.r κ₃).Denot) (e₃ : AtExit (ended_of 11 c-open-kinds.ps c-open-kinds.r) κ₃) (h₃ : c-open.Learnt κ₃ a₃ r₃ e₃)
    (κ₄ : Lfts 3) (a₄ : Dens κ₄ c-check-kinds.ps) (r₄ : (res_t c-check-kinds.r κ₄).Denot) (e₄ : AtExit (ended_of 3 c-check-kinds.ps c-check-kinds.r) κ₄) (h₄ : c-check.Learnt κ₄ a₄ r₄ e₄) where
  -- what committing was lent
  abbrev sizes_given_c : Sizes
  sizes_given_c = sizes_of a₁.0 a₁.1.0 a₁.1.1.0 a₁.1.1.1.0 a₁.1.1.1.1.0 a₁.1.1.1.1.1.0 a₁.1.1.1.1.1.1.0

  abbrev lent_given_c : Lent
  lent_given_c = lent_of a₁.1.1.1.1.1.1.1.0.now a₁.1.1.1.1.1.1.1.1.0.now a₁.1.1.1.1.1.1.1.1.1.0.now a₁.1.1.1.1.1.1.1.1.1.1.0.now a₁.1.1.1.1.1.1.1.1.1.1.1.0.now a₁.1.1.1.1.1.1.1.1.1.1.1.1.0.now

  -- the question that sizing was lent, and the length that it gave
  abbrev asked_c : Bytes
  asked_c = a₂.0.now

  abbrev planned_c : ℕ
  planned_c = e₂.1.0.now

  -- the calls belong together: each is lent what those before it left
  pub record ChainedC : Type 0 where
    pub right : WellLent sizes_given_c lent_given_c
    pub room : filled_ok sizes_given_c a₁.1.1.1.1.1.1.1.1.1.1.1.1.1.0.now a₁.1.1.1.1.1.1.1.1.1.1.1.1.1.1.0.now ≡ true
    pub names : Names sizes_given_c lent_given_c asked_c
    -- opening: the same question, the same secrets and salt, the table and the tree as committing left them, a buffer of the length that sizing gave
    pub opened_question : a₃.0.now ≡ asked_c
    pub opened_lent : lent_of a₃.1.0.now a₃.1.1.0.now a₃.1.1.1.0.now a₃.1.1.1.1.0.now a₃.1.1.1.1.1.1.0.now a₃.1.1.1.1.1.1.1.0.now ≡ lent_given_c
    pub opened-table : a₃.1.1.1.1.1.0.now ≡ e₁.1.1.1.1.1.1.1.1.1.1.1.1.1.0.now
    pub opened_tree : a₃.1.1.1.1.1.1.1.1.0.now ≡ e₁.1.1.1.1.1.1.1.1.1.1.1.1.1.1.0.now
    pub buffer : length a₃.1.1.1.1.1.1.1.1.1.0.now ≡ planned_c
    -- checking: the same question, the reply as opening left it, a value buffer of its length
    pub checked_question : a₄.0.now ≡ asked_c
    pub checked_reply : a₄.1.0.now ≡ e₃.1.1.1.1.1.1.1.1.1.0.now
    pub values : length a₄.1.1.0.now ≡ 4 * (sizes_given_c.w * (read_question asked_c).m)

  -- then none of them refuses, and the values are the true ones
  pub completed_c : ChainedC → (r₁ ≡ 0) × (r₂ ≡ 0) × (r₃ ≡ 0) × (r₄ ≡ 0)
      × (e₄.1.1.0.now ≡ bytes_of (true_values sizes_given_c lent_given_c (read_question asked_c).evaluation_points))
  completed_c c =
      let one = committed sizes_given_c lent_given_c c.right a₁.1.1.1.1.1.1.1.1.1.1.1.1.1.0.now a₁.1.1.1.1.1.1.1.1.1.1.1.1.1.1.0.now c.room r₁ e₁.1.1.1.1.1.1.1.1.1.1.1.1.1.0.now
      e₁.1.1.1.1.1.1.1.1.1.1.1.1.1.1.0.now h₁ in
      let two = sized_c sizes_given_c lent_given_c c.right asked_c c.names a₂.1.0.now r₂ planned_c h₂ in
      let table : List ℕ = a₃.1.1.1.1.1.0.now in
      let tree : Bytes = a₃.1.1.1.1.1.1.1.1.0.now in
      let buffer : Bytes = a₃.1.1.1.1.1.1.1.1.1.0.now in
      let et : table ≡ table_of sizes_given_c lent_given_c = c.opened-table ∙ one.1 in
      let en : tree ≡ tree_of sizes_given_c lent_given_c = c.opened_tree ∙ one.2 in
      let fits : length buffer ≡ reply_length (read_question asked_c) = c.buffer ∙ two.1 in
      let three = opened_c sizes_given_c lent_given_c c.right asked_c c.names table tree et en buffer fits a₃.1.1.1.1.1.1.1.1.1.1.0.now r₃ e₃.1.1.1.1.1.1.1.1.1.1.0.now e₃.1.1.1.1.1.1.1.1.1.0.now
      (h₃ ∙ ap₂ (λ (q : Bytes) (x : Lent). opening_c q x table tree buffer a₃.1.1.1.1.1.1.1.1.1.1.0.now) c.opened_question c.opened_lent) in
      let four = checked_c sizes_given_c lent_given_c c.right asked_c c.names table tree et en buffer fits a₄.1.0.now (c.checked_reply ∙ three.2) a₄.1.1.0.now c.values r₄ e₄.1.1.0.now
      (h₄ ∙ ap (λ (q : Bytes). checking_c q a₄.1.0.now a₄.1.1.0.now) c.checked_question) in
      (one.0, two.0, three.0, four.0, four.1)
