-- One length for the entries for C, each call as its contract describes it: what `smallwood_reply_length` leaves is what `smallwood_open` then leaves and
-- fills, and what `smallwood_check` takes without a 7.
use mathlib.Core.Path.{◌≡◌, sym, ap, ◌∙◌}
use mathlib.Core.Logic.{◌≢◌}
use mathlib.Core.List.{List}
use Prim.Native.Nat.{ℕ}
use contract.Lifetimes.{Lfts}
use denote.Triple.Clauses.{AtExit}
use borrow.Fn.Kinds.{Dens, res_t, ended_of}
use lib.ListN.{length}
use Rattle.lists.specs.Bytes.{Bytes}
use Rattle.scheme.specs.Reply.{reply_length}
use Rattle.scheme.specs.Layers.{Lent, lent_of}
use Rattle.scheme.specs.Sizing.{sizing_c}
use Rattle.scheme.specs.Open.{opening, opening_c}
use Rattle.scheme.specs.Check.{checking_c}
use Rattle.scheme.specs.Collect.{for_c}
use Rattle.scheme.specs.Lengths.{values_length, Agreed}
use Rattle.scheme.proofs.Opening.{planning_c_lem, opening_c_lem}
use Rattle.scheme.proofs.Lengths.{one_length}
use Rattle.smallwood.proofs.smallwood_reply_length.Kinds as size-kinds
use Rattle.smallwood.proofs.smallwood_reply_length.Reads as size
use Rattle.smallwood.proofs.smallwood_open.Kinds as open-kinds
use Rattle.smallwood.proofs.smallwood_open.Reads as open-reads
use Rattle.smallwood.proofs.smallwood_check.Kinds as check-kinds
use Rattle.smallwood.proofs.smallwood_check.Reads as check

-- the definitions for C
sized : (question : Bytes) (before v n : ℕ) → (v, n) ≡ sizing_c question before → v ≡ 0 → Agreed question n
sized question before v n h z = (one_length question).0 n (planning_c_lem reply_length question before n (sym h ∙ ap (λ (k : ℕ). (k, n)) z))

-- a call of `smallwood_reply_length` that returned 0
module _ (κs : Lfts 2) (a : Dens κs size-kinds.ps) (r : (res_t size-kinds.r κs).Denot) (e : AtExit (ended_of 2 size-kinds.ps size-kinds.r) κs)
    (learnt : size.Learnt κs a r e) (done : r ≡ 0) where
  -- the question, and the length that it left
  abbrev question : Bytes
  question = a.0.now

  abbrev n : ℕ
  n = e.1.0.now

  agreed : Agreed question n
  agreed = sized question a.1.0.now r n learnt done

  -- and one of `smallwood_open` with the same question
  module _ (κs' : Lfts 11) (a' : Dens κs' open-kinds.ps) (r' : (res_t open-kinds.r κs').Denot) (e' : AtExit (ended_of 11 open-kinds.ps open-kinds.r) κs')
      (learnt' : open-reads.Learnt κs' a' r' e') (same : a'.0.now ≡ question) where
    abbrev l : Lent
    l = lent_of a'.1.0.now a'.1.1.0.now a'.1.1.1.0.now a'.1.1.1.1.0.now a'.1.1.1.1.1.1.0.now a'.1.1.1.1.1.1.1.0.now

    abbrev table : List ℕ
    table = a'.1.1.1.1.1.0.now

    abbrev nodes : Bytes
    nodes = a'.1.1.1.1.1.1.1.1.0.now

    -- the buffer and the length that it is lent
    abbrev buffer : Bytes
    buffer = a'.1.1.1.1.1.1.1.1.1.0.now

    abbrev before : ℕ
    before = a'.1.1.1.1.1.1.1.1.1.1.0.now

    outcome : (r', e'.1.1.1.1.1.1.1.1.1.1.0.now, e'.1.1.1.1.1.1.1.1.1.0.now) ≡ opening_c question l table nodes buffer before
    outcome = learnt' ∙ ap (λ (b : Bytes). opening_c b l table nodes buffer before) same

    -- where it returned 0, it left the same length and filled as many bytes
    pub length-opened : r' ≡ 0 → (e'.1.1.1.1.1.1.1.1.1.1.0.now ≡ n) × (length e'.1.1.1.1.1.1.1.1.1.0.now ≡ n)
    length-opened z =
        let o : opening_c question l table nodes buffer before ≡ opening question l table nodes buffer =
        opening_c_lem question l table nodes buffer before (sym (ap (λ (x : ℕ × ℕ × Bytes). x.0) outcome) ∙ z) in
        let f = agreed.filled l table nodes buffer (sym (ap (λ (x : ℕ × ℕ × Bytes). x.0) (outcome ∙ o)) ∙ z) in (
          ap (λ (x : ℕ × ℕ × Bytes). x.1) (outcome ∙ o) ∙ f.0,
          ap (λ (x : ℕ × ℕ × Bytes). length x.2) (outcome ∙ o) ∙ f.1,
        )

    -- a buffer of another length was refused with 2
    pub other_buffer_refused : length buffer ≢ n → r' ≡ 2
    unfolding opening_c
    other_buffer_refused d = ap (λ (x : ℕ × ℕ × Bytes). x.0) outcome ∙ ap (λ (x : ℕ × ℕ × Bytes). x.0) (agreed.other_buffer l table nodes buffer d)

  -- and one of `smallwood_check` with the same question
  module _ (κs' : Lfts 3) (a' : Dens κs' check-kinds.ps) (r' : (res_t check-kinds.r κs').Denot) (e' : AtExit (ended_of 3 check-kinds.ps check-kinds.r) κs')
      (learnt' : check.Learnt κs' a' r' e') (same : a'.0.now ≡ question) where
    abbrev reply : Bytes
    reply = a'.1.0.now

    abbrev values : Bytes
    values = a'.1.1.0.now

    checked : (r', e'.1.1.0.now) ≡ checking_c question reply values
    checked = learnt' ∙ ap (λ (b : Bytes). checking_c b reply values) same

    -- it said 7 where the reply was of another length and the value buffer of its own, and of no reply of this length
    pub other_reply_refused : length values ≡ values_length for_c question → length reply ≢ n → r' ≡ 7
    other_reply_refused f d = ap (λ (x : ℕ × Bytes). x.0) (checked ∙ agreed.other_reply for_c reply values f d)

    pub this_reply_taken : length reply ≡ n → r' ≢ 7
    this_reply_taken f = λ z. agreed.this_reply for_c reply values f (sym (ap (λ (x : ℕ × Bytes). x.0) checked) ∙ z)
