-- Completeness of proofs: the proof made with the least counter that qualifies is accepted with the true values; 11 exactly when there is none.
use mathlib.Core.Path.{◌≡◌, refl, sym, ap, ap₂, ◌∙◌, subst}
use mathlib.Core.Bool.{Bool, true, false}
use mathlib.Core.Logic.{◌⊎◌, inl, inr, ⊎_elim}
use mathlib.Core.List.{List, [], ◌∷◌, ◌++◌, flatten, append_assoc}
use Prim.Native.Nat.{ℕ, ◌*◌, ◌<◌}
use native.Mathlib.Nat.{ne_of_lt}
use native.Mathlib.Omega.{arith}
use lib.Dec.{eqb}
use lib.ListN.{length, take, drop, replicate, length-replicate}
use lib.Seq.{take_at, drop_at}
use borrow.Author.Tests.{eq-eqb, ne_eqb}
use Rattle.lists.specs.Choice.{pick}
use Rattle.lists.specs.Least.{least, least_cases, least_first, least_none}
use Rattle.lists.specs.Bytes.{Bytes, bytes_of}
use Rattle.lists.specs.Tests.{every_true, true_every}
use Rattle.scheme.specs.Sizes.{Sizes, elements}
use Rattle.scheme.specs.Layers.{Lent}
use Rattle.scheme.specs.Question.{Question, read_question, header_sizes, header_points}
use Rattle.scheme.specs.Reply.{reply_length}
use Rattle.scheme.specs.Commit.{lent_ok, filled_ok, lent_elements, table_of, tree_of, last_digest}
use Rattle.scheme.specs.Open.{opened_batching, opened_answers, opened_records, opened_nodes, reply_of, open_verdict}
use Rattle.scheme.specs.Collect.{Entry, for_rust, for_c, does}
use Rattle.scheme.specs.Honest.{true_values, WellLent, Replied}
use Rattle.scheme.proofs.Lent.{below_elements, LentFacts, lent_facts}
use Rattle.scheme.proofs.Committed.{filled, table_below}
use Rattle.scheme.proofs.Complete.{completeness}
use Rattle.scheme.proofs.Work.{uncounted}
use Rattle.scheme.proofs.Opening.{names_true, opening-number, opening_done}
use Rattle.fiat_shamir.specs.Offline.{offline_root, offline_salt, offline_points, offline_verdict}
use Rattle.fiat_shamir.specs.Draw.{leaf_draw, qualifies, drawn_indices, drawn_bytes}
use Rattle.fiat_shamir.specs.Prove.{proved_answers, counter_length, counter_bytes, counter_draw, counter_ok, counter_question, proof_length, proof_of, proof_bound, prove_verdict}
use Rattle.fiat_shamir.specs.CheckProof.{proof_counter, proof_reply, answers_length, proof_draw, does_proof}
use Rattle.fiat_shamir.specs.HonestProofs.{Proved, Unproved, ProofCompleteness}
use Rattle.fiat_shamir.proofs.Accepted.{as_conversation}
use Rattle.fiat_shamir.proofs.Proving.{answers_sized, counter_sized, drawn_for, counter_back, counter_right, proof_bounded, proof_sized, prove_last, proving-refused, proving_done}

-- accepted with these values
abbrev outcome : List ℕ → ℕ × List ℕ
outcome values = (0, values)

-- what stands in a proof: the draw that it gives is the prover's
module _ (question : Bytes) (l : Lent) (table : List ℕ) (nodes : Bytes) (c : ℕ) where
  abbrev made : Bytes
  made = proof_of question l table nodes c

  abbrev made_reply : Bytes
  made_reply = reply_of (counter_question question l c) l table nodes

  counter_of : proof_counter made ≡ counter_bytes c
  unfolding proof_of
  counter_of = take_at (counter_bytes c) made_reply counter_length (counter_sized c)

  pub reply_of_lem : proof_reply made ≡ made_reply
  unfolding proof_of
  reply_of_lem = drop_at (counter_bytes c) made_reply counter_length (counter_sized c)

  answers_of : take (answers_length question) made_reply ≡ proved_answers question l
  unfolding reply_of proved_answers
  answers_of =
      let u : Question = counter_question question l c in
      let bs : Bytes = bytes_of (flatten (opened_batching u l)) in
      let ans : Bytes = bytes_of (flatten (opened_answers u l)) in
      let rest : Bytes = flatten (opened_records u l table) ++ flatten (opened_nodes u nodes) in
      ap (take (answers_length question)) (sym (append_assoc bs ans rest)) ∙ take_at (bs ++ ans) rest (answers_length question) (answers_sized question l)

  pub draw_of : proof_draw question made ≡ counter_draw question l c
  unfolding proof_draw
  draw_of = ap₂ (leaf_draw question) (ap (take (answers_length question)) reply_of_lem ∙ answers_of) counter_of

module _ (question : Bytes) (κ : ℕ) (l : Lent) (wf : offline_verdict question κ ≡ 0) (right : WellLent (header_sizes question) l)
    (named : offline_root question ≡ last_digest (tree_of (header_sizes question) l)) (salted : offline_salt question ≡ l.salt) where
  abbrev s : Sizes
  s = header_sizes question

  abbrev m : ℕ
  m = header_points question

  abbrev table : List ℕ
  table = table_of s l

  abbrev nodes : Bytes
  nodes = tree_of s l

  facts : LentFacts s l
  facts = lent_facts s l right

  -- ---- the proof made with counter c is accepted, where c qualifies
  module _ (c : ℕ) where
    abbrev u : Question
    u = counter_question question l c

    abbrev D : Bytes
    D = drawn_for question l c

    back : read_question D ≡ u
    back = counter_back question κ l wf c

    -- the conversation's completeness, for the question so drawn
    honest : Replied s l D (replicate (reply_length (read_question D)) 0)
    honest =
        (completeness s l right).1 D (replicate (reply_length (read_question D)) 0)
        record { well_formed = counter_right question κ l wf c; sizes = ap (λ (v : Question). v.sizes) back; root = ap (λ (v : Question). v.root) back ∙ named; salt = ap (λ (v : Question). v.salt) back ∙ salted }
        (length-replicate (reply_length (read_question D)) 0)

    reply_made : honest.reply ≡ made_reply question l table nodes c
    reply_made =
        let opens : open_verdict D l table nodes (replicate (reply_length (read_question D)) 0) ≡ 0 =
        sym (opening-number D l table nodes _) ∙ ap (λ (x : ℕ × ℕ × Bytes). x.0) honest.opened in
        ap (λ (x : ℕ × ℕ × Bytes). x.2) (sym honest.opened ∙ opening_done D l table nodes _ opens)
        ∙ ap (λ (v : Question). reply_of v l table nodes) back

    abbrev proof : Bytes
    proof = proof_of question l table nodes c

    -- for either entry
    replied : counter_ok question κ l c ≡ true → (e : Entry) (values : List ℕ) → does_proof e question κ proof values ≡ does e D honest.reply values
    replied ok e values =
        let drawn-same : proof_draw question proof ≡ counter_draw question l c = draw_of question l table nodes c in
        (as_conversation e question κ proof values).accepts wf (ap (qualifies κ) drawn-same ∙ ok)
        ∙ ap₂ (λ (x y : Bytes). does e x y values) (ap (λ (x : Bytes). drawn_bytes question (drawn_indices s x)) drawn-same) (reply_of_lem question l table nodes c ∙ sym reply_made)

    points_same : (read_question D).evaluation_points ≡ offline_points question
    points_same = ap (λ (v : Question). v.evaluation_points) back

    m_same : (read_question D).m ≡ m
    m_same = ap (λ (v : Question). v.m) back

    checked : counter_ok question κ l c ≡ true → (values : List ℕ) → length values ≡ s.w * m → does_proof for_rust question κ proof values ≡ (0, true_values s l (offline_points question))
    checked ok values e =
        replied ok for_rust values ∙ sym (uncounted D _ values _ _ _ (sym (honest.checked values (e ∙ ap (λ (n : ℕ). s.w * n) (sym m_same)))))
        ∙ ap (λ (zs : List ℕ). outcome (true_values s l zs)) points_same

    checked_c : counter_ok question κ l c ≡ true → (values : Bytes) → length values ≡ 4 * (s.w * m) → does_proof for_c question κ proof values ≡ (0, bytes_of (true_values s l (offline_points question)))
    checked_c ok values e =
        replied ok for_c values ∙ honest.checked_c values (e ∙ ap (λ (n : ℕ). 4 * (s.w * n)) (sym m_same))
        ∙ ap (λ (zs : List ℕ). outcome (bytes_of (true_values s l zs))) points_same

  -- ---- the prover
  module _ (limit : ℕ) (buffer : Bytes) (room : length buffer ≡ proof_bound question) where
    abbrev verdict : ℕ
    verdict = prove_verdict question κ limit l table nodes buffer

    abbrev least_counter : ℕ
    least_counter = least limit (counter_ok question κ l)

    verdict_is : verdict ≡ pick (eqb least_counter limit) 11 0
    verdict_is =
        prove_last question κ limit l table nodes buffer wf
        (true_every (lent_ok s l ∷ filled_ok s table nodes ∷ eqb (length buffer) (proof_bound question) ∷ []) (right.lengths, (filled s l facts, (eq-eqb _ _ room, tt))))
        (true_every (elements table ∷ lent_elements l) (below_elements table (table_below s l facts), every_true (lent_elements l) right.elements))
        (names_true (offline_root question) (offline_salt question) l nodes named salted)

    found : least_counter < limit → counter_ok question κ l least_counter ≡ true → Proved s l question κ limit buffer
    found below ok =
        let p : Bytes = proof least_counter in
        let sized : length p ≡ proof_length question l least_counter = proof_sized question κ l wf least_counter table nodes right.lengths (filled s l facts) in
        let zero : verdict ≡ 0 = verdict_is ∙ ap (λ (t : Bool). pick t 11 0) (ne_eqb least_counter limit (ne_of_lt below)) in
        record {
          counter = least_counter;
          below = below;
          qualified = ok;
          first = least_first limit (counter_ok question κ l);
          proof = p;
          made = refl;
          length_right = sized;
          length_fits = omega (arith, sized, room, proof_bounded question κ l wf least_counter);
          proved = proving_done question κ limit l table nodes buffer zero ∙ ap (λ (n : ℕ). left p n) (sym sized);
          checked = checked least_counter ok;
          checked_c = checked_c least_counter ok;
        }
      where
        left : Bytes → ℕ → ℕ × ℕ × Bytes
        left p n = (0, n, p ++ drop n buffer)

    none_found : ((c : ℕ) → c < limit → counter_ok question κ l c ≡ false) → Unproved s l question κ limit buffer
    none_found none =
        let eleven : verdict ≡ 11 = verdict_is ∙ ap (λ (t : Bool). pick t 11 0) (eq-eqb least_counter limit (least_none limit (counter_ok question κ l) none)) in
        record { none = none; refused = proving-refused question κ limit l table nodes buffer 11 (omega arith) eleven }

    proved : Proved s l question κ limit buffer ⊎ Unproved s l question κ limit buffer
    proved = ⊎_elim (λ h. inl (found h.0 h.1)) (λ h. inr (none_found h)) (least_cases limit (counter_ok question κ l))

pub proof_completeness : (s : Sizes) (l : Lent) → ProofCompleteness s l
proof_completeness s l right question κ limit buffer names room =
    subst (λ (t : Sizes). WellLent t l → offline_root question ≡ last_digest (tree_of t l) → Proved t l question κ limit buffer ⊎ Unproved t l question κ limit buffer)
    names.sizes (λ rt nm. proved question κ l names.well_formed rt nm names.salt limit buffer room) right names.root
