-- What the search and the whole leave.
use Rattle.scheme.proofs.Lent.{lent_facts}
use Rattle.prover.proofs.Answers.{string_fits}
use Rattle.offline_question.proofs.Answer.{offline_facts}
use Rattle.tree.specs.Tree.{all_parts, opened}
use Rattle.fiat_shamir.proofs.Drawn.{offline_numbers}
use mathlib.Core.Path.{◌≡◌, refl, sym, ap, ap₂, ◌∙◌, subst}
use mathlib.Core.Bool.{Bool, true, false, not}
use mathlib.Core.List.{List, [], ◌∷◌, ◌++◌, append_assoc, flatten, map}
use Prim.Native.Nat.{ℕ, suc, ◌+◌, ◌-◌, ◌*◌, ◌≤◌, ◌<◌}
use native.Mathlib.Omega.{arith}
use lib.Dec.{eqb}
use lib.ListN.{length, take, drop, length-append}
use lib.Seq.{take_at, drop_at}
use borrow.Author.Tests.{eq-eqb, ne_eqb, eqb-true, not-false}
use Rattle.sponge.specs.Draw.{draw}
use Rattle.lists.specs.Bytes.{Bytes, bytes_of}
use Rattle.lists.specs.Choice.{pick}
use Rattle.lists.specs.Least.{least}
use Rattle.lists.specs.Tests.{Test, verdict_of, passed, every_true, true_every, Numbered, each, verdict_go, verdict_stop}
use Rattle.scheme.specs.Sizes.{Sizes, sizes_ok}
use Rattle.scheme.specs.Layers.{Lent}
use Rattle.scheme.specs.Question.{header_sizes, header_points}
use Rattle.scheme.specs.Reply.{records_at}
use Rattle.scheme.specs.Open.{reply_of, opened_answers, opened_batching}
use Rattle.scheme.specs.Commit.{lent_elements, leaf_record}
use Rattle.fiat_shamir.specs.Offline.{most_bits, offline_tests, offline_verdict}
use Rattle.fiat_shamir.specs.Draw.{drawn as drawn_q, draw_string, leaf_draw, ranks_at, drawn_indices, qualifies, most_string}
use Rattle.fiat_shamir.specs.Prove.{proved_answers, counter_bytes, counter_draw, counter_ok, proof_length, proof_of, prove_verdict, proving, prove_tests}
use Rattle.fiat_shamir.proofs.Proving.{prove_asked, proving-refused, proving_done, answers_sized, unqualified}
use Rattle.counter_search.specs.Tried.{tried}
use Rattle.counter_search.proofs.Tried.{tried_is}
use Rattle.offline_question.specs.Offline.{Offline}
use Rattle.prover.specs.Parts.{proof_with, length_with, CanDraw}
use Rattle.prover.specs.Ready.{Ready, lent_tests, searched}

-- ---- the search, over the string of the draw

module _ (b : Bytes) (s : Sizes) (m κ : ℕ) (l : Lent) (table : List ℕ) (nodes buffer : Bytes) (ready : Ready b s m κ l table nodes buffer) where
  -- the string but for the counter
  abbrev pub string : Bytes
  string = 3 ∷ (b ++ proved_answers b l)

  string_is : (c : ℕ) → string ++ counter_bytes c ≡ draw_string b (proved_answers b l) (counter_bytes c)
  unfolding draw_string
  string_is c = ap (λ (t : Bytes). 3 ∷ t) (append_assoc b (proved_answers b l) (counter_bytes c))

  -- as it stands in its room
  answers_long : length (proved_answers b l) ≡ records_at s m
  answers_long = answers_sized b l ∙ ap₂ records_at ready.offline.sizes ready.offline.points

  string_long : length string ≡ suc (length b) + records_at s m
  string_long = ap suc (length-append b (proved_answers b l)) ∙ omega (arith, answers_long)

  module _ (n : ℕ) (S room : Bytes) (en : n ≡ suc (length b) + records_at s m) (e : S ≡ string ++ drop n room) where
    pub string_taken : take n S ≡ string
    string_taken = ap (take n) e ∙ take_at string (drop n room) n (string_long ∙ sym en)

    pub answers_taken : (at : ℕ) → at ≡ length b + 1 → take (n - at) (drop at S) ≡ proved_answers b l
    answers_taken at ea =
        let size : length (3 ∷ b) ≡ at = omega (arith, ea) in
        let rest : length (proved_answers b l) ≡ n - at = omega (arith, answers_long, en, ea) in
        ap (λ (t : Bytes). take (n - at) (drop at t)) (e ∙ append_assoc (3 ∷ b) (proved_answers b l) (drop n room))
        ∙ ap (take (n - at)) (drop_at (3 ∷ b) (proved_answers b l ++ drop n room) at size)
        ∙ take_at (proved_answers b l) (drop n room) (n - at) rest

  pub string_room : suc (length b) + records_at s m ≤ most_string
  string_room = string_fits b s m l (record { offline = ready.offline; lent = ready.lent })

  -- what the proof's parts ask
  pub draw_ask : (answers drawn : Bytes) → answers ≡ proved_answers b l → length drawn ≡ ranks_at + 8 * s.ℓ → CanDraw s m answers drawn table l.nonces nodes buffer
  draw_ask answers drawn ea ed = record {
    sizes = (offline_facts b s m ready.offline).in_order;
    points = (offline_facts b s m ready.offline).few_points;
    answered = ap length ea ∙ answers_long;
    long = ed;
    nonce = (lent_facts s l ready.lent).n_length;
    filled = ready.filled;
    room = ready.room;
  }

  -- the draw that the search leaves
  pub drawn_is : (c n : ℕ) → n ≡ ranks_at + 8 * s.ℓ → draw (string ++ counter_bytes c) n ≡ counter_draw b l c
  unfolding leaf_draw
  drawn_is c n e = ap₂ draw (string_is c) (e ∙ ap (λ (t : Sizes). ranks_at + 8 * t.ℓ) (sym ready.offline.sizes))

  found : (limit : ℕ) → least limit (tried κ string) ≡ least limit (counter_ok b κ l)
  found limit = λ i. least limit (λ c. one c i)
    where
      one : (c : ℕ) → tried κ string c ≡ counter_ok b κ l c
      one c = sym (tried_is κ string c (ranks_at + 8 * s.ℓ) ready.few_bits (omega arith)) ∙ ap (qualifies κ) (drawn_is c (ranks_at + 8 * s.ℓ) refl)

  module _ (limit c : ℕ) (e : c ≡ least limit (tried κ string)) where
    least_found : c ≡ least limit (counter_ok b κ l)
    least_found = e ∙ found limit

    pub search_failed : c ≡ limit → (11, 0, buffer) ≡ searched b κ limit l table nodes buffer
    unfolding searched
    search_failed z =
        let k : ℕ = least limit (counter_ok b κ l) in
        ap (λ (t : Bool). pick t (11, 0, buffer) (0, proof_length b l k, proof_of b l table nodes k ++ drop (proof_length b l k) buffer)) (sym (eq-eqb k limit (sym least_found ∙ z)))

    -- with this counter: the draw's leaves, and the answers from the string
    pub search_done : (c ≡ limit → ⊥) → (drawn answers : Bytes) (n : ℕ) (out : Bytes) → drawn ≡ counter_draw b l c → answers ≡ proved_answers b l
        → n ≡ length_with s m (drawn_indices s drawn) → out ≡ proof_with s table l.nonces nodes c answers (drawn_indices s drawn) ++ drop n buffer
        → (0, n, out) ≡ searched b κ limit l table nodes buffer
    unfolding searched proof_of reply_of proved_answers
    search_done other drawn answers n out ed ea en eo =
        let k : ℕ = least limit (counter_ok b κ l) in
        let t : Sizes = header_sizes b in
        let B : Bytes = bytes_of (flatten (opened_batching (drawn_q b []) l)) in
        let C : Bytes = bytes_of (flatten (opened_answers (drawn_q b []) l)) in
        let X : Bytes = flatten (map (leaf_record t table l.nonces) (drawn_indices t (counter_draw b l c))) ++ flatten (opened 2 t.h (all_parts nodes) (drawn_indices t (counter_draw b l c))) in
        let long : n ≡ proof_length b l c =
        en ∙ ap₂ (λ (t : Sizes) (j : ℕ). length_with t j (drawn_indices t drawn)) (sym ready.offline.sizes) (sym ready.offline.points)
        ∙ ap (λ (x : Bytes). length_with t (header_points b) (drawn_indices t x)) ed in
        let whole : proof_with s table l.nonces nodes c answers (drawn_indices s drawn) ≡ proof_of b l table nodes c =
        ap₂ (λ (t : Sizes) (a : Bytes). proof_with t table l.nonces nodes c a (drawn_indices t drawn)) (sym ready.offline.sizes) ea
        ∙ ap (λ (x : Bytes). proof_with t table l.nonces nodes c (B ++ C) (drawn_indices t x)) ed
        ∙ ap (λ (x : Bytes). counter_bytes c ++ x) (append_assoc B C X) in
        ap₂ (λ (j : ℕ) (x : Bytes). (0, j, x)) long (eo ∙ ap₂ (λ (x : Bytes) (j : ℕ). x ++ drop j buffer) whole long)
        ∙ ap (λ (j : ℕ). (0, proof_length b l j, proof_of b l table nodes j ++ drop (proof_length b l j) buffer)) least_found
        ∙ ap (λ (t : Bool). pick t (11, 0, buffer) (0, proof_length b l k, proof_of b l table nodes k ++ drop (proof_length b l k) buffer)) (sym (ne_eqb k limit (λ z. other (least_found ∙ z))))

-- ---- the whole

module _ (b : Bytes) (κ limit : ℕ) (l : Lent) (table : List ℕ) (nodes buffer : Bytes) where
  pub question_refused : (v : ℕ) → 0 < v → offline_verdict b κ ≡ v → (v, 0, buffer) ≡ proving b κ limit l table nodes buffer
  question_refused v p e = sym (proving-refused b κ limit l table nodes buffer v p (prove_asked b κ limit l table nodes buffer v p e))

  module _ (s : Sizes) (m : ℕ) (asked : offline_verdict b κ ≡ 0) (offline : Offline b s m) where
    abbrev lent : List Test
    lent = lent_tests b s m l table nodes buffer

    abbrev last : List Test
    last = (11, each limit (λ c. not (counter_ok b κ l c))) ∷ []

    tests_are : prove_verdict b κ limit l table nodes buffer ≡ verdict_of (lent ++ last)
    unfolding prove_verdict prove_tests
    tests_are =
        verdict_go (offline_tests b κ) (lent_tests b (header_sizes b) (header_points b) l table nodes buffer ++ last) (offline_numbers b κ) asked
        ∙ ap₂ (λ (t : Sizes) (n : ℕ). verdict_of (lent_tests b t n l table nodes buffer ++ last)) offline.sizes offline.points

    pub lent_refused : (v : ℕ) → 0 < v → v ≡ verdict_of lent → (v, 0, buffer) ≡ proving b κ limit l table nodes buffer
    lent_refused v p e = sym (proving-refused b κ limit l table nodes buffer v p (tests_are ∙ verdict_stop lent last v p (sym e)))

    module _ (z : verdict_of lent ≡ 0) where
      lent_numbers : Numbered lent
      lent_numbers = omega arith

      pub lent_ready : κ ≤ most_bits → Ready b s m κ l table nodes buffer
      lent_ready few =
          let ok : sizes_ok s ≡ true = subst (λ (t : Sizes). sizes_ok t ≡ true) offline.sizes (offline_facts b s m offline).asked.sizes_right in
          let t = passed lent lent_numbers z in
          let lengths = every_true _ (not-false _ t.0) in
          record {
            offline = offline;
            few_bits = few;
            lent = record { sizes = ok; lengths = lengths.0; elements = true_every (lent_elements l) (every_true _ (not-false _ t.1.0)).1 };
            filled = lengths.1.0;
            room = eqb-true _ _ lengths.1.1.0;
          }

      abbrev k : ℕ
      k = least limit (counter_ok b κ l)

      verdict_is : prove_verdict b κ limit l table nodes buffer ≡ pick (eqb k limit) 11 0
      unfolding verdict_of
      verdict_is = tests_are ∙ verdict_go lent last lent_numbers z ∙ ap (λ (t : Bool). pick t 11 0) (unqualified limit (counter_ok b κ l))

      pub all_done : searched b κ limit l table nodes buffer ≡ proving b κ limit l table nodes buffer
      unfolding searched
      all_done = go (eqb k limit) refl
        where
          go : (t : Bool) → eqb k limit ≡ t
              → pick t (11, 0, buffer) (0, proof_length b l k, proof_of b l table nodes k ++ drop (proof_length b l k) buffer) ≡ proving b κ limit l table nodes buffer
          go true e = sym (proving-refused b κ limit l table nodes buffer 11 (omega arith) (verdict_is ∙ ap (λ (t : Bool). pick t 11 0) e))
          go false e = sym (proving_done b κ limit l table nodes buffer (verdict_is ∙ ap (λ (t : Bool). pick t 11 0) e))
