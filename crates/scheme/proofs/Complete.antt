-- Completeness: to each well-formed question that names a commitment's root, salt and sizes the opener makes a reply, and it is accepted with the true values.
use mathlib.Core.Path.{◌≡◌, refl, sym, ap, ap₂, ◌∙◌, subst}
use mathlib.Core.Bool.{true, false, not}
use mathlib.Core.List.{List, [], ◌∷◌, ◌++◌, map, flatten, append-nil, map-map, Memᴰ as Mem}
use Prim.Native.Nat.{ℕ, zero, suc, ◌*◌, ◌<◌}
use native.Mathlib.Nat.{zero-add}
use native.Mathlib.Omega.{arith}
use lib.Dec.{eqb}
use lib.ListN.{length, get_or}
use borrow.Author.Tests.{eq-eqb}
use Rattle.sponge.specs.Digest.{digest}
use Rattle.lists.specs.Range.{up_from, at_run, up_from_of}
use Rattle.lists.specs.Bytes.{Bytes, bytes_of}
use Rattle.tree.specs.Sets.{mem}
use Rattle.tree.specs.Tree.{at, opened, root_from}
use Rattle.lists.specs.Maps.{get_or_in, map_cong, get_or-map_in}
use Rattle.lists.specs.All.{below_mem, All, all_imp, all_append}
use Rattle.tree.proofs.Complete.{complete}
use Rattle.algebra.specs.Numbers.{eval_n, interp_n, values_at_n}
use Rattle.lists.specs.Pieces.{pieces}
use Rattle.lists.specs.Tests.{Test, all, each, same, passed, pass, every_true, true_every, true_all, true_each, same_refl}
use Rattle.scheme.specs.Sizes.{elements, Sizes, arity, levels, node_prefix, leaves, coefficient_count, points}
use Rattle.scheme.specs.Layers.{Lent, row_polynomials, polynomial_values, evaluation_answer, batching_answer}
use Rattle.scheme.specs.Question.{Question, read_question, question_tests, question_verdict}
use Rattle.scheme.specs.Reply.{Reply, read_reply, reply_length, record_words, row_values, mask_value}
use Rattle.tree.specs.Leaf.{leaf_string}
use Rattle.scheme.specs.Commit.{lent_ok, filled_ok, lent_elements, table_of, tree_of, leaf_record, last_digest}
use Rattle.scheme.specs.Open.{opened_batching, opened_answers, opened_records, opened_nodes, reply_of, open_tests, open_verdict, opening}
use Rattle.scheme.specs.Check.{leaf_at, record_at, challenge_of, batching_of, point_of, answer_of, reply_elements, leaf_strings, reply_root, batching_at, evaluation_at, reply_tests, check_verdict, check_values, checking, checking_c}
use Rattle.scheme.specs.Work.{after_hashing, check_work, checking_counted, question_work}
use Rattle.scheme.specs.Honest.{true_values, WellLent, Replied, Completeness}
use Rattle.scheme.proofs.Accepted.{Asked, well_formed, question_numbers}
use Rattle.scheme.proofs.Bound.{some_children, leaves_are, indices_length, points-length}
use Rattle.scheme.proofs.HonestAnswers.{evaluation_honest, batching_honest, values_honest}
use Rattle.scheme.proofs.ReplyReadBack.{FourParts, whole_length, back_batching, back_answers, back_records, back_nodes}
use Rattle.scheme.proofs.Lent.{below_elements, LentFacts, lent_facts}
use Rattle.scheme.proofs.Parts.{all_in, in_tree, batching_below, answers_below, four_parts}
use Rattle.scheme.proofs.Opening.{planning_is, names_true}
use Rattle.scheme.proofs.Work.{work-asked}
use Rattle.scheme.proofs.Committed.{committing_is, rec, record_below, record_rows, record_mask, level, level_length, level_at, digests, tree_parts, last_is, filled, table_below}

-- ---- lists

shift : {A : Type 0} (f : ℕ → A) (x : ℕ) (ys : List ℕ) (a n : ℕ) → map (λ b. f (get_or (x ∷ ys) b 0)) (up_from (suc a) n) ≡ map (λ b. f (get_or ys b 0)) (up_from a n)
unfolding up_from
shift f x ys a zero = refl
shift f x ys a (suc n) = ap (λ (t : List _). f (get_or ys a 0) ∷ t) (shift f x ys (suc a) n)

all_places : {A : Type 0} (f : ℕ → A) (ys : List ℕ) → map (λ a. f (get_or ys a 0)) (up_from 0 (length ys)) ≡ map f ys
unfolding up_from
all_places f [] = refl
all_places f (y ∷ ys) = ap (λ (t : List _). f y ∷ t) (shift f y ys 0 (length ys) ∙ all_places f ys)

map_places : {A : Type 0} (f : ℕ → A) (xs : List ℕ) (n : ℕ) → length xs ≡ n → map (λ a. f (get_or xs a 0)) (up_from 0 n) ≡ map f xs
map_places f xs n e = ap (λ (k : ℕ). map (λ a. f (get_or xs a 0)) (up_from 0 k)) (sym e) ∙ all_places f xs

in_run : (n p : ℕ) → Mem p (up_from 0 n) → p < n
in_run n p m = subst (λ (k : ℕ). p < k) (zero-add n) (up_from_of 0 n p m).1

module _ (question : Bytes) (l : Lent) (wf : question_verdict question ≡ 0) (right : WellLent (read_question question).sizes l)
    (named : (read_question question).root ≡ last_digest (tree_of (read_question question).sizes l)) (salted : (read_question question).salt ≡ l.salt) where
  abbrev pub u : Question
  u = read_question question

  abbrev pub s : Sizes
  s = u.sizes

  r : LentFacts s l
  r = lent_facts s l right

  a : Asked u
  a = well_formed question wf

  abbrev pub P : List (List ℕ)
  P = row_polynomials s l

  ci : length u.indices ≡ s.ℓ
  ci = indices_length question

  leaf_in : (b : ℕ) → b < s.ℓ → leaf_at u b < leaves s
  leaf_in b m = below_mem (leaves s) u.indices a.indices_below (leaf_at u b) (get_or_in u.indices b (subst (λ (n : ℕ). b < n) (sym ci) m))

  -- ---- the four parts of the reply
  abbrev pub bs : List (List ℕ)
  bs = opened_batching u l

  abbrev pub ans : List (List ℕ)
  ans = opened_answers u l

  abbrev pub xs : List Bytes
  xs = opened_records u l (table_of s l)

  abbrev pub ns : List Bytes
  ns = opened_nodes u (tree_of s l)

  abbrev pub reply : Bytes
  reply = bytes_of (flatten bs) ++ (bytes_of (flatten ans) ++ (flatten xs ++ flatten ns))

  abbrev pub R : Reply
  R = read_reply u reply

  parts : FourParts u bs ans xs ns
  parts = four_parts question l (table_of s l) (tree_of s l) a right.lengths (filled s l r)

  reply_length_lem : length reply ≡ reply_length u
  reply_length_lem = whole_length u bs ans xs ns parts

  ns_are : ns ≡ opened (arity s) (levels s) (digests s l r) u.indices
  ns_are = ap (λ (t : List Bytes). opened (arity s) (levels s) t u.indices) (tree_parts s l r)

  -- ---- what stands in it
  pub batching_is : (k : ℕ) → k < s.η → batching_of R k ≡ batching_answer s l k (challenge_of u k)
  batching_is k m =
      ap (λ (x : List (List ℕ)). get_or x k []) (back_batching u bs ans xs ns parts)
      ∙ at_run (λ k. batching_answer s l k (challenge_of u k)) 0 s.η k [] m
      ∙ ap (λ (k : ℕ). batching_answer s l k (challenge_of u k)) (zero-add k)

  answer_is : (p : ℕ) → p < u.m → answer_of R p ≡ evaluation_answer s l (point_of u p)
  answer_is p m =
      ap (λ (x : List (List ℕ)). get_or x p []) (back_answers u bs ans xs ns parts)
      ∙ get_or-map_in (evaluation_answer s l) u.evaluation_points p 0 [] (subst (λ (n : ℕ). p < n) (sym (points-length question)) m)

  record_is : (b : ℕ) → b < s.ℓ → record_at R b ≡ rec s l r (leaf_at u b)
  record_is b m =
      ap (λ (x : List Bytes). get_or x b []) (back_records u bs ans xs ns parts)
      ∙ get_or-map_in (leaf_record s (table_of s l) l.nonces) u.indices b 0 [] (subst (λ (n : ℕ). b < n) (sym ci) m)

  -- ---- its tests
  elements_ok : reply_elements u R ≡ true
  unfolding reply_elements
  elements_ok =
      true_every _ (
        ap (all elements) (back_batching u bs ans xs ns parts) ∙ true_all elements bs (all_imp below_elements bs (batching_below question l (table_of s l) (tree_of s l) a right.lengths (filled s l r))),
        (
          ap (all elements) (back_answers u bs ans xs ns parts) ∙ true_all elements ans (all_imp below_elements ans (answers_below question l (table_of s l) (tree_of s l) a right.lengths (filled s l r))),
          (
            ap (all (λ x. elements (record_words s x))) (back_records u bs ans xs ns parts)
                ∙ true_all (λ x. elements (record_words s x)) xs
                (all_in (λ (x : Bytes). elements (record_words s x) ≡ true) _ u.indices (λ i m. below_elements (record_words s (rec s l r i)) (record_below s l r i (below_mem (leaves s) u.indices a.indices_below i m)))),
            tt,
          ),
        ),
      )

  strings_are : leaf_strings u R ≡ map (λ i. leaf_string l.salt i (rec s l r i)) u.indices
  unfolding leaf_strings
  strings_are =
      map_cong (up_from 0 s.ℓ) (λ b m. ap₂ (λ (z x : Bytes). leaf_string z (leaf_at u b) x) salted (record_is b (in_run s.ℓ b m)))
      ∙ map_places (λ i. leaf_string l.salt i (rec s l r i)) u.indices s.ℓ ci

  digests_are : map digest (leaf_strings u R) ≡ map (at (level s l r)) u.indices
  digests_are =
      ap (map digest) strings_are
      ∙ map-map digest (λ i. leaf_string l.salt i (rec s l r i)) u.indices
      ∙ map_cong u.indices (λ i m. sym (level_at s l r i (below_mem (leaves s) u.indices a.indices_below i m)))

  root_ok : reply_root u R ≡ u.root
  unfolding reply_root
  root_ok =
      ap₂ (λ (ds : List Bytes) (x : List Bytes). root_from digest (arity s) (node_prefix s u.salt) (levels s) u.indices ds x) digests_are
      (back_nodes u bs ans xs ns parts ∙ ns_are ∙ sym (append-nil (opened (arity s) (levels s) (digests s l r) u.indices)))
      ∙ ap (λ (z : Bytes). root_from digest (arity s) (node_prefix s z) (levels s) u.indices (map (at (level s l r)) u.indices) (opened (arity s) (levels s) (digests s l r) u.indices ++ [])) salted
      ∙ complete digest (arity s) (node_prefix s l.salt) (some_children s) (levels s) (level s l r) u.indices [] (level_length s l r ∙ sym (leaves_are s))
      (in_tree question l (table_of s l) (tree_of s l) a right.lengths (filled s l r)) (leaf_at u 0)
      (get_or_in u.indices 0 (subst (λ (n : ℕ). 0 < n) (sym ci) a.in_order.ℓ-low))
      ∙ sym (last_is s l r)
      ∙ sym named

  batching_ok_lem : each s.η (λ k. each s.ℓ (batching_at u R k)) ≡ true
  unfolding batching_at
  batching_ok_lem =
      true_each s.η _ (λ k m. true_each s.ℓ _ (λ b n.
      let i : ℕ = leaf_at u b in
      eq-eqb _ _
      (ap (λ (x : List ℕ). eval_n x i) (batching_is k m)
      ∙ batching_honest s l r k (challenge_of u k) i m
      ∙ ap₂ (λ (x : ℕ) (y : List ℕ). eval_n (x ∷ y) (challenge_of u k)) (sym (record_mask s l r i k (leaf_in b n) m)) (sym (record_rows s l r i (leaf_in b n)))
      ∙ ap (λ (x : Bytes). eval_n (mask_value s x k ∷ row_values s x) (challenge_of u k)) (sym (record_is b n)))))

  evaluation_ok_lem : each u.m (λ p. each s.ℓ (evaluation_at u R p)) ≡ true
  unfolding evaluation_at
  evaluation_ok_lem =
      true_each u.m _ (λ p m. true_each s.ℓ _ (λ b n.
      let i : ℕ = leaf_at u b in
      eq-eqb _ _
      (ap (λ (x : List ℕ). eval_n (interp_n (points s) x) i) (answer_is p m)
      ∙ evaluation_honest s l r (point_of u p) i
      ∙ ap (λ (y : List ℕ). eval_n y (point_of u p)) (sym (record_rows s l r i (leaf_in b n)) ∙ ap (row_values s) (sym (record_is b n))))))

  values_are : check_values u R ≡ true_values s l u.evaluation_points
  unfolding check_values true_values
  values_are =
      ap flatten
      (map_cong (up_from 0 u.m) (λ p m.
      ap (polynomial_values s (point_of u p)) (answer_is p (in_run u.m p m))
      ∙ values_honest s l r (point_of u p))
      ∙ map_places (λ z. map (λ p. eval_n p z) (pieces (coefficient_count s) s.w l.coefficients)) u.evaluation_points u.m (points-length question))

  question_passed : All (λ (t : Test). t.1 ≡ false) (question_tests question)
  question_passed = passed (question_tests question) (question_numbers question) wf

  check_passes : (unit n : ℕ) → n ≡ unit * (s.w * u.m) → check_verdict unit question reply n ≡ 0
  unfolding check_verdict reply_tests
  check_passes unit n e =
      pass _
      (all_append (λ (t : Test). t.1 ≡ false) (question_tests question) _ question_passed (
        ap not (eq-eqb n (unit * (s.w * u.m)) e),
        (
          ap not (eq-eqb (length reply) (reply_length u) reply_length_lem),
          (
            ap not elements_ok,
            (
              ap not (ap (λ (x : Bytes). same x u.root) root_ok ∙ same_refl u.root),
              (ap not batching_ok_lem, (ap not evaluation_ok_lem, tt)),
            ),
          ),
        ),
      ))

  pub checks : (values : List ℕ) → length values ≡ s.w * u.m → checking question reply values ≡ (0, true_values s l u.evaluation_points)
  unfolding checking
  checks values e = rw (check_passes 1 (length values) (e ∙ omega arith), values_are)

  counts : (values : List ℕ) → length values ≡ s.w * u.m → checking_counted question reply values ≡ (0, question_work u, true_values s l u.evaluation_points)
  unfolding checking_counted check_work after_hashing mem
  counts values e =
      ap (λ (z : ℕ × List ℕ). (z.0, check_work u R z.0, z.1)) (checks values e)
      ∙ ap (λ (n : ℕ). (0, n, true_values s l u.evaluation_points)) (work-asked u reply (well_formed question wf) (indices_length question) reply_length_lem)

  checks_c : (values : Bytes) → length values ≡ 4 * (s.w * u.m) → checking_c question reply values ≡ (0, bytes_of (true_values s l u.evaluation_points))
  unfolding checking_c
  checks_c values e = rw (check_passes 4 (length values) e, values_are)

  open_passes : (buffer : Bytes) → length buffer ≡ reply_length u → open_verdict question l (table_of s l) (tree_of s l) buffer ≡ 0
  unfolding open_verdict open_tests
  open_passes buffer e =
      pass _
      (all_append (λ (t : Test). t.1 ≡ false) (question_tests question) _ question_passed (
        ap not (true_every (lent_ok s l ∷ filled_ok s (table_of s l) (tree_of s l) ∷ eqb (length buffer) (reply_length u) ∷ []) (right.lengths, (filled s l r, (eq-eqb _ _ e, tt)))),
        (
          ap not (true_every (elements (table_of s l) ∷ lent_elements l) (below_elements (table_of s l) (table_below s l r), every_true (lent_elements l) right.elements)),
          (ap not (names_true u.root u.salt l (tree_of s l) named salted), tt),
        ),
      ))

  pub reply_is : reply ≡ reply_of u l (table_of s l) (tree_of s l)
  unfolding reply_of
  reply_is = refl

  -- the opened rows are the committed ones
  pub rows_are : (b : ℕ) → b < s.ℓ → row_values s (record_at R b) ≡ values_at_n P (leaf_at u b)
  rows_are b m = ap (row_values s) (record_is b m) ∙ record_rows s l r (leaf_at u b) (leaf_in b m)

  replied : (buffer : Bytes) → length buffer ≡ reply_length u → Replied s l question buffer
  unfolding opening reply_of
  replied buffer e = record {
    reply = reply;
    sized = planning_is reply_length question wf ∙ ap (λ (n : ℕ). (0, n)) (sym reply_length_lem);
    opened = rw (open_passes buffer e, ← reply_length_lem);
    counted = planning_is question_work question wf;
    checked = counts;
    checked_c = checks_c;
  }

pub completeness : (s : Sizes) (l : Lent) → Completeness s l
completeness s l right = (
  committing_is s l right,
  λ question buffer names e.
      subst (λ (t : Sizes). WellLent t l → (read_question question).root ≡ last_digest (tree_of t l) → Replied t l question buffer)
      names.sizes (λ rt nm. replied question l names.well_formed rt nm names.salt buffer e) right names.root,
)
