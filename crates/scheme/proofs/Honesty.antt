-- Honest calls meet the hypotheses of demand 3, but for collisions, and it finds the committed rows from them.
use mathlib.Core.Path.{◌≡◌, refl, sym, ap, ◌∙◌, subst}
use mathlib.Core.Bool.{true}
use mathlib.Core.Logic.{⊎_elim}
use mathlib.Core.List.Memᴰ.{append_cases as in-cases, append_left as in_left, append_right as in_right, head as here, not-nil, tail as there}
use mathlib.Core.List.{List, [], ◌∷◌, map, flatten, append-nil, Memᴰ as Mem}
use Prim.Native.Nat.{ℕ, zero, suc, ◌+◌, ◌-◌, ◌*◌, ◌≤◌, ◌<◌}
use native.Mathlib.Nat.{zero-add, le_refl, mul-le-mul_left, mul-le-mul_right}
use native.Mathlib.Omega.{arith}
use lib.Dec.{ltb}
use lib.ListN.{length, get_or, take, replicate, length-replicate, length-drop, length-map}
use lib.Seq.{take_at}
use borrow.Author.Tests.{lt-ltb}
use Rattle.lists.specs.Choice.{both_true}
use Rattle.lists.specs.All.{all_imp}
use Rattle.lists.specs.Rising.{rising}
use Rattle.lists.specs.Range.{up_from, length-up_from, up_from_at, at_run, up_from_in, up_from_of, up_from_below, up_from_distinct}
use Rattle.lists.specs.Maps.{map_in, map_of}
use Rattle.lists.specs.Bytes.{Bytes}
use Rattle.lists.specs.Tests.{true_all}
use Rattle.algebra.specs.Prime.{q}
use Rattle.algebra.specs.Numbers.{Elements}
use Rattle.scheme.specs.Sizes.{Sizes, leaves, rows, degree}
use Rattle.scheme.specs.Layers.{Lent, row_polynomials, batching_answer}
use Rattle.scheme.specs.Question.{Question, read_question, header_length, header_sizes}
use Rattle.scheme.specs.Commit.{table_of, tree_of, last_digest}
use Rattle.scheme.specs.Open.{reply_of}
use Rattle.scheme.specs.Check.{checking, batching_of, challenge_of, leaf_at}
use Rattle.scheme.specs.Collect.{Call, for_rust, Answered, asked, given, Collected, Opens, Covered}
use Rattle.scheme.specs.Honest.{WellLent, Names, true_values}
use Rattle.scheme.specs.HonestCalls.{header_bytes, question_bytes, committed_root, honest_question, honest_call, honest_challenges, honest_answers, honest_runs, honest_calls, HonestCollection}
use Rattle.scheme.proofs.Accepted.{degree-suc}
use Rattle.scheme.proofs.Lent.{LentFacts, lent_facts, below_elements}
use Rattle.scheme.proofs.Committed.{tree_bytes}
use Rattle.scheme.proofs.Complete.{checks, batching_is, reply_is}
use Rattle.scheme.proofs.Replies.{collected_replies}
use Rattle.scheme.proofs.HonestRows.{Honest, extracted_committed}
use Rattle.scheme.proofs.Encoded.{Fit, header_length_lem, header_sizes_back, question_back, question_right}
use Rattle.lists.specs.Number.{order}

-- ---- lists

flatten_in : {A : Type 0} {x : A} {xs : List A} {yss : List (List A)} → Mem x xs → Mem xs yss → Mem x (flatten yss)
unfolding flatten
flatten_in {A} {x} {xs} m (here {x = ys} {xs = yss} e) = in_left (flatten yss) (subst (λ (zs : List A). Mem x zs) e m)
flatten_in m (there {x = ys} k) = in_right ys (flatten_in m k)

flatten_of : {A : Type 0} {x : A} (yss : List (List A)) → Mem x (flatten yss) → (xs : List A) × Mem xs yss × Mem x xs
unfolding flatten
flatten_of [] m = absurd (not-nil m)
flatten_of (ys ∷ yss) m = ⊎_elim
    (λ k. (ys, here refl, k))
    (λ k. let r = flatten_of yss k in (r.0, there r.1, r.2))
    (in-cases ys m)

rising-run : (a n : ℕ) → rising (up_from a n) ≡ true
unfolding rising up_from
rising-run a zero = refl
rising-run a (suc zero) = refl
rising-run a (suc (suc n)) = both_true (ltb a (suc a)) (rising (suc a ∷ up_from (suc (suc a)) n)) (lt-ltb a (suc a) (le_refl (suc a))) (rising-run (suc a) (suc n))

elements_copies : (n x : ℕ) → x < q → Elements (replicate n x)
elements_copies zero x l = tt
elements_copies (suc n) x l = (l, elements_copies n x l)

-- ---- one honest call

-- the check's answer to an opener's reply
honest_answered : (s : Sizes) (l : Lent) (question : Bytes) → WellLent s l → Names s l question → Answered (honest_call s l question)
honest_answered s l question right names = record { outcome = sym outcome }
  where
    outcome : checking question (reply_of (read_question question) l (table_of s l) (tree_of s l)) (replicate (s.w * (read_question question).m) 0) ≡ (0, true_values s l (read_question question).evaluation_points)
    outcome =
        subst (λ (t : Sizes). WellLent t l → (read_question question).root ≡ last_digest (tree_of t l)
        → checking question (reply_of (read_question question) l (table_of t l) (tree_of t l)) (replicate (t.w * (read_question question).m) 0) ≡ (0, true_values t l (read_question question).evaluation_points))
        names.sizes
        (λ rt nm.
        let n : ℕ = (read_question question).sizes.w * (read_question question).m in
        ap (λ (x : Bytes). checking question x (replicate n 0)) (sym (reply_is question l names.well_formed rt nm names.salt))
        ∙ checks question l names.well_formed rt nm names.salt (replicate n 0) (length-replicate n 0))
        right names.root

-- its batching answers
honest_batching : (s : Sizes) (l : Lent) (question : Bytes) → WellLent s l → Names s l question → (k : ℕ) → k < s.η
    → batching_of (given (honest_call s l question)) k ≡ batching_answer s l k (challenge_of (read_question question) k)
honest_batching s l question right names =
    subst (λ (t : Sizes). WellLent t l → (read_question question).root ≡ last_digest (tree_of t l) → (k : ℕ) → k < t.η
    → batching_of (given (honest_call t l question)) k ≡ batching_answer t l k (challenge_of (read_question question) k))
    names.sizes
    (λ rt nm k m.
    ap (λ (x : Bytes). batching_of (given (record {
      entry = for_rust;
      question = question;
      reply = x;
      before = [];
      verdict = 0;
      after = [];
    })) k) (sym (reply_is question l names.well_formed rt nm names.salt))
    ∙ batching_is question l names.well_formed rt nm names.salt k m)
    right names.root

-- ---- the honest questions

module _ (s : Sizes) (l : Lent) (right : WellLent s l) where
  r : LentFacts s l
  r = lent_facts s l right

  abbrev pub root : Bytes
  root = committed_root s l

  root_long : length root ≡ 32
  root_long =
      let low : 2 ≤ 2 * leaves s = omega (arith, r.sizes.fits, r.sizes.ℓ-low) in
      length-drop (length (tree_of s l) - 32) (tree_of s l) ∙ omega (arith, tree_bytes s l r, low)

  fit : (γ j : ℕ) → γ ≤ rows s → j + s.ℓ ≤ leaves s → Fit s 1 root l.salt (replicate s.η γ) (0 ∷ []) (up_from j s.ℓ)
  fit γ j a b = record {
    sizes_right = right.sizes;
    m_right = refl;
    root_length = root_long;
    salt_length_lem = r.s_length;
    challenges_count = length-replicate s.η γ;
    points_count = refl;
    indices_count = length-up_from j s.ℓ;
    challenges_right = below_elements (replicate s.η γ) (elements_copies s.η γ (omega (arith, r.sizes.rows-high)));
    points_right = below_elements (0 ∷ []) (omega arith, tt);
    indices_rise = rising-run j s.ℓ;
    indices_right = true_all (λ i. ltb i (leaves s)) (up_from j s.ℓ) (all_imp (λ (i : ℕ) (m : i < leaves s). lt-ltb i (leaves s) m) (up_from j s.ℓ) (up_from_below j s.ℓ (leaves s) b));
  }

  abbrev read : ℕ → ℕ → Question
  read γ j = record { sizes = s; m = 1; root = root; salt = l.salt; challenges = replicate s.η γ; evaluation_points = 0 ∷ []; indices = up_from j s.ℓ }

  read_is : (γ j : ℕ) → γ ≤ rows s → j + s.ℓ ≤ leaves s → read_question (honest_question s l γ j) ≡ read γ j
  read_is γ j a b = question_back s 1 root l.salt (replicate s.η γ) (0 ∷ []) (up_from j s.ℓ) (fit γ j a b)

  names : (γ j : ℕ) → γ ≤ rows s → j + s.ℓ ≤ leaves s → Names s l (honest_question s l γ j)
  names γ j a b = record {
    well_formed = question_right s 1 root l.salt (replicate s.η γ) (0 ∷ []) (up_from j s.ℓ) (fit γ j a b);
    sizes = ap (λ (u : Question). u.sizes) (read_is γ j a b);
    root = ap (λ (u : Question). u.root) (read_is γ j a b);
    salt = ap (λ (u : Question). u.salt) (read_is γ j a b);
  }

  abbrev pub header : Bytes
  header = header_bytes s 1

  header_is : header_sizes header ≡ s
  header_is =
      ap header_sizes (sym (append-nil header))
      ∙ header_sizes_back s 1 [] (omega (arith, r.sizes.columns-high, mul-le-mul_right s.ν r.sizes.w_low)) (omega (arith, r.sizes.columns-high, mul-le-mul_left s.w r.sizes.ν-low))

  starts_with : (γ j : ℕ) → take header_length (honest_question s l γ j) ≡ header
  unfolding question_bytes
  starts_with γ j = take_at header _ header_length (header_length_lem s 1)

  -- ---- the list

  calls_in : (γ j : ℕ) → γ ≤ rows s → j + s.ℓ ≤ leaves s → Mem (honest_call s l (honest_question s l γ j)) (honest_calls s l)
  unfolding honest_calls honest_runs
  calls_in γ j a b =
      flatten_in (map_in (λ j. honest_call s l (honest_question s l γ j)) (up_from_in 0 (suc (leaves s - s.ℓ)) j (omega arith) (omega (arith, r.sizes.fits))))
      (map_in (honest_runs s l) (up_from_in 0 (suc (rows s)) γ (omega arith) (omega arith)))

  calls_of : (c : Call) → Mem c (honest_calls s l) → (γ : ℕ) × (j : ℕ) × (γ ≤ rows s) × (j + s.ℓ ≤ leaves s) × (c ≡ honest_call s l (honest_question s l γ j))
  unfolding honest_calls honest_runs
  calls_of c m =
      let o = flatten_of (map (honest_runs s l) (honest_challenges s)) m in
      let g = map_of (honest_challenges s) o.1 in
      let p = map_of (up_from 0 (suc (leaves s - s.ℓ))) (subst (λ (cs : List Call). Mem c cs) g.2 o.2) in (
        g.0,
        p.0,
        omega (arith, up_from_of 0 (suc (rows s)) g.0 g.1),
        omega (arith, up_from_of 0 (suc (leaves s - s.ℓ)) p.0 p.1, r.sizes.fits),
        p.2,
      )

  answered : (c : Call) → Mem c (honest_calls s l) → Answered c
  answered c m =
      let o = calls_of c m in
      subst Answered (sym o.4) (honest_answered s l (honest_question s l o.0 o.1) right (names o.0 o.1 o.2 o.3))

  collected : (γ j : ℕ) → γ ≤ rows s → j + s.ℓ ≤ leaves s → Collected (honest_calls s l) header root l.salt (honest_call s l (honest_question s l γ j))
  collected γ j a b = record { listed = calls_in γ j a b; accepted = refl; under_header = starts_with γ j; under_root = (names γ j a b).root; under_salt = (names γ j a b).salt }

  honest : (c : Call) → Collected (honest_calls s l) header root l.salt c → Honest (header_sizes header) l c
  honest c k =
      let o = calls_of c k.listed in
      subst (λ (t : Sizes). Honest t l c) (sym header_is)
      (subst (Honest s l) (sym o.4) (record { names = names o.0 o.1 o.2 o.3; reply_made = refl }))

  -- ---- every leaf under every challenge

  opened_by : (γ j a i : ℕ) (low : γ ≤ rows s) (fits : j + s.ℓ ≤ leaves s) → a < s.ℓ → j + a ≡ i → Opens (honest_call s l (honest_question s l γ j)) i a
  opened_by γ j a i low fits m e = record {
    place = subst (λ (u : Question). a < u.sizes.ℓ) (sym (read_is γ j low fits)) m;
    leaf = ap (λ (u : Question). leaf_at u a) (read_is γ j low fits) ∙ up_from_at j s.ℓ a m ∙ e;
  }

  first_copy : (n x : ℕ) → 0 < n → get_or (replicate n x) 0 0 ≡ x
  first_copy zero x m = absurd (omega arith)
  first_copy (suc n) x m = refl

  Under : ℕ → ℕ → Type 0
  Under i g =
      (c : Call) × (a : ℕ) × Collected (honest_calls s l) header root l.salt c × Opens c i a
      × (challenge_of (asked c) 0 ≡ get_or (honest_challenges s) g 0) × (batching_of (given c) 0 ≡ get_or (honest_answers s l) g [])

  under : (i g j a : ℕ) → g < suc (rows s) → j + s.ℓ ≤ leaves s → a < s.ℓ → j + a ≡ i → Under i g
  unfolding Under
  under i g j a low fits m e =
      let few : g ≤ rows s = omega arith in
      let question : Bytes = honest_question s l g j in
      let asks : challenge_of (read_question question) 0 ≡ g = ap (λ (u : Question). challenge_of u 0) (read_is g j few fits) ∙ first_copy s.η g (omega (arith, r.sizes.η-low)) in (
        honest_call s l question,
        a,
        collected g j few fits,
        opened_by g j a i few fits m e,
        asks ∙ sym (up_from_at 0 (suc (rows s)) g low ∙ zero-add g),
        honest_batching s l question right (names g j few fits) 0 (omega (arith, r.sizes.η-low))
            ∙ ap (batching_answer s l 0) asks
            ∙ sym (at_run (batching_answer s l 0) 0 (suc (rows s)) g [] low ∙ ap (batching_answer s l 0) (zero-add g)),
      )

  every_leaf : (i : ℕ) → i < leaves s → (g : ℕ) → g < suc (rows s) → Under i g
  every_leaf i m g low = ⊎_elim
      (λ (k : i + s.ℓ ≤ leaves s). under i g i 0 low k (omega (arith, r.sizes.ℓ-low)) (omega arith))
      (λ (k : leaves s < i + s.ℓ). under i g (leaves s - s.ℓ) (i - (leaves s - s.ℓ)) low (omega (arith, r.sizes.fits)) (omega (arith, r.sizes.fits)) (omega (arith, r.sizes.fits)))
      (order (i + s.ℓ) (leaves s))

  covers : Covered (honest_calls s l) header root l.salt (up_from 0 (leaves s)) 0 (honest_challenges s) (honest_answers s l)
  unfolding Under
  covers = record {
    leaves-differ = up_from_distinct 0 (leaves s);
    enough-leaves = subst (λ (t : Sizes). suc (degree t) ≤ length (up_from 0 (leaves s))) (sym header_is) (omega (arith, degree-suc s r.sizes, length-up_from 0 (leaves s), r.sizes.fits));
    repetition = subst (λ (t : Sizes). 0 < t.η) (sym header_is) (omega (arith, r.sizes.η-low));
    challenges_differ = up_from_distinct 0 (suc (rows s));
    enough_challenges = length-up_from 0 (suc (rows s)) ∙ ap (λ (t : Sizes). suc (rows t)) (sym header_is);
    one_answer_each = length-map (honest_challenges s) (batching_answer s l 0);
    opened_under = λ i m g low. every_leaf i (omega (arith, up_from_of 0 (leaves s) i m)) g (subst (λ (n : ℕ). g < n) (length-up_from 0 (suc (rows s))) low);
  }

-- for every commitment
pub honest_collection : (s : Sizes) (l : Lent) → WellLent s l → HonestCollection s l
honest_collection s l right =
    let cov = covers s l right in
    let same = header_is s l right in
    record {
      answered = answered s l right;
      covered = cov;
      found = λ nc.
          let e = collected_replies (honest_calls s l) (header_bytes s 1) (committed_root s l) l.salt (answered s l right) nc (up_from 0 (leaves s)) 0 (honest_challenges s) (honest_answers s l) cov in (
            e,
            sym (ap (λ (t : Sizes). row_polynomials t l) (sym same)
                ∙ extracted_committed (honest_calls s l) (header_bytes s 1) (committed_root s l) l.salt l (subst (λ (t : Sizes). WellLent t l) (sym same) right) (honest s l right)
                (answered s l right) nc (up_from 0 (leaves s)) 0 (honest_challenges s) (honest_answers s l) cov),
          );
    }
