-- The work of a check: the strings that it hashes have two lengths, so the question alone says how many permutations they take; and never over ℓ (3 + h).
use mathlib.Core.Path.{◌≡◌, refl, sym, ap, ap₂, ◌∙◌, subst}
use mathlib.Core.Bool.{Bool, true, false, not}
use mathlib.Core.Logic.{⊎_elim}
use mathlib.Core.List.{List, [], ◌∷◌, ◌++◌, map, Memᴰ as Mem}
use Prim.Native.Nat.{ℕ, ◌+◌, ◌*◌, ◌≤◌, ◌<◌, zero-le}
use native.Mathlib.Nat.{ne_of_gt, mul-le-mul, mul-le-mul_left, mul-add}
use native.Mathlib.Omega.{arith}
use lib.Dec.{eqb}
use lib.ListN.{length, drop, length-append, length-drop, length-map}
use borrow.Author.Tests.{eqb-true, not-false}
use Rattle.sponge.specs.Digest.{digest, digest-length}
use Rattle.lists.specs.All.{All, Sized, below_mem, all_at, all_imp, all_left, all_right, mem-sized}
use Rattle.lists.specs.Bytes.{Bytes, length-little_endian}
use Rattle.lists.specs.Choice.{pick, tested}
use Rattle.lists.specs.Maps.{map_of}
use Rattle.lists.specs.Pieces.{length-pieces, pieces-sized}
use Rattle.lists.specs.Range.{up_from, up_from_below, length-up_from}
use Rattle.lists.specs.Tests.{Test, pass, passed_by}
use Rattle.lists.specs.Total.{total-append, total_same}
use Rattle.tree.specs.Ancestors.{nodes_above}
use Rattle.tree.specs.Leaf.{leaf_string}
use Rattle.tree.specs.Sets.{Node, mem}
use Rattle.tree.specs.Tree.{hashed, node_string}
use Rattle.tree.specs.Work.{permutations_for, work}
use Rattle.tree.proofs.Above.{above_of, above_in, above_order, above_bound, hashed_above, hashed_count, hashed_sized}
use Rattle.tree.proofs.Binding.{fits}
use Rattle.tree.proofs.Missing.{Above, InOrder}
use Rattle.scheme.specs.Sizes.{Sizes, SizesInOrder, arity, levels, node_prefix}
use Rattle.scheme.specs.Question.{Question, read_question, question_tests, question_verdict}
use Rattle.scheme.specs.Reply.{Reply, read_reply, record_length, records_at, reply_length}
use Rattle.scheme.specs.Check.{leaf_at, record_at, leaf_strings, hashed_strings, buffer_test, reply_tests, check_verdict, checking}
use Rattle.scheme.specs.Work.{after_hashing, check_work, checking_counted, leaf_length, node_length, nodes_hashed, question_work, work_by, work_bound, AllCounted}
use Rattle.scheme.proofs.Accepted.{Asked, well_formed}
use Rattle.scheme.proofs.Bound.{some_children, indices_length, leaf_strings-length, opening_of}
use Rattle.scheme.proofs.Opening.{planning_is}

-- verdict and values are as without a count
pub uncounted : (question reply : Bytes) (values : List ℕ) (v n : ℕ) (out : List ℕ) → (v, n, out) ≡ checking_counted question reply values → (v, out) ≡ checking question reply values
unfolding checking_counted
uncounted question reply values v n out e = ap (λ (z : ℕ × ℕ × List ℕ). (z.0, z.2)) e

-- ---- the strings that are hashed

-- one for each opened leaf, and one for each node above one: each of these is listed once, and no other
pub record EachOnce (u : Question) (r : Reply) : Type 0 where
  pub below : ℕ → ℕ → Bytes
  pub strings : hashed_strings u r ≡ leaf_strings u r ++ map (λ n. node_string (arity u.sizes) (node_prefix u.sizes u.salt) (below n.0) n.1) (nodes_hashed u)
  pub opened : length (leaf_strings u r) ≡ u.sizes.ℓ
  pub in_order : InOrder (nodes_hashed u)
  pub all_nodes : (k p : ℕ) → 0 < k → k ≤ levels u.sizes → Above (arity u.sizes) u.indices (k, p) → Mem (k, p) (nodes_hashed u)
  pub no_other : (n : Node) → Mem n (nodes_hashed u) → (0 < n.0) × (n.0 ≤ levels u.sizes) × Above (arity u.sizes) u.indices n

pub each_once : (u : Question) (r : Reply) → Asked u → EachOnce u r
unfolding hashed_strings leaf_strings
each_once u r a =
    let s : Sizes = u.sizes in
    let v = hashed_above digest (arity s) (node_prefix s u.salt) (levels s) u.indices (map digest (leaf_strings u r)) r.nodes in
    record {
      below = v.0;
      strings = ap (λ (x : List Bytes). leaf_strings u r ++ x) v.1;
      opened = length-map (up_from 0 s.ℓ) _ ∙ length-up_from 0 s.ℓ;
      in_order = above_order (arity s) (levels s) u.indices (some_children s) a.indices_rising;
      all_nodes = above_in (arity s) (levels s) u.indices;
      no_other = above_of (arity s) (levels s) u.indices;
    }

module _ (u : Question) (reply : Bytes) (a : Asked u) (e : length u.indices ≡ u.sizes.ℓ) (l : length reply ≡ reply_length u) where
  abbrev s : Sizes
  s = u.sizes

  abbrev r : Reply
  r = read_reply u reply

  records_sized : Sized (record_length s) r.records
  unfolding read_reply
  records_sized = pieces-sized (record_length s) s.ℓ (drop (records_at s u.m) reply) (omega (arith, l, length-drop (records_at s u.m) reply))

  records_count : length r.records ≡ s.ℓ
  unfolding read_reply
  records_count = length-pieces (record_length s) s.ℓ (drop (records_at s u.m) reply)

  leaf_sized : (i : ℕ) (x : Bytes) → length x ≡ record_length s → length (leaf_string u.salt i x) ≡ leaf_length s
  unfolding leaf_string
  leaf_sized i x f = simp length-append (omega (arith, a.salted, f, length-little_endian 2 i))

  leaves-sized : Sized (leaf_length s) (leaf_strings u r)
  unfolding leaf_strings
  leaves-sized = mem-sized (leaf_length s) (leaf_strings u r) (λ x m.
      let o = map_of (up_from 0 s.ℓ) m in
      let inside : o.0 < length r.records = omega (arith, records_count, below_mem s.ℓ (up_from 0 s.ℓ) (up_from_below 0 s.ℓ s.ℓ (omega arith)) o.0 o.1) in
      ap length o.2 ∙ leaf_sized (leaf_at u o.0) (record_at r o.0) (all_at (λ (y : Bytes). length y ≡ record_length s) [] r.records records_sized o.0 inside))

  nodes_sized : Sized (node_length s) (hashed digest (arity s) (node_prefix s u.salt) (levels s) u.indices (map digest (leaf_strings u r)) r.nodes)
  nodes_sized =
      let pre : length (node_prefix s u.salt) + 32 * arity s ≡ node_length s = omega (arith, a.salted) in
      subst (λ (n : ℕ). Sized n (hashed digest (arity s) (node_prefix s u.salt) (levels s) u.indices (map digest (leaf_strings u r)) r.nodes)) pre
      (hashed_sized digest (arity s) (node_prefix s u.salt) 32 digest-length (some_children s) (levels s) u.indices (map digest (leaf_strings u r)) r.nodes
      (fits digest 32 digest-length (arity s) (some_children s) (node_prefix s u.salt) (levels s) u.indices (leaf_strings u r) r.nodes (opening_of u reply e a.indices_below l)))

  -- what they take is the question's
  pub work-asked : work (hashed_strings u r) ≡ question_work u
  unfolding work hashed_strings question_work
  work-asked =
      let nodes : List Bytes = hashed digest (arity s) (node_prefix s u.salt) (levels s) u.indices (map digest (leaf_strings u r)) r.nodes in
      let f : Bytes → ℕ = λ x. permutations_for (length x) in
      total-append f (leaf_strings u r) nodes
      ∙ ap₂ ◌+◌
      (total_same f (permutations_for (leaf_length s)) (leaf_strings u r) (all_imp (λ (x : Bytes) (k : length x ≡ leaf_length s). ap permutations_for k) (leaf_strings u r) leaves-sized)
      ∙ ap (λ (n : ℕ). n * permutations_for (leaf_length s)) (leaf_strings-length u r))
      (total_same f (permutations_for (node_length s)) nodes (all_imp (λ (x : Bytes) (k : length x ≡ node_length s). ap permutations_for k) nodes nodes_sized)
      ∙ ap (λ (n : ℕ). n * permutations_for (node_length s)) (hashed_count digest (arity s) (node_prefix s u.salt) (levels s) u.indices (map digest (leaf_strings u r)) r.nodes))

-- ---- by the verdict

-- 0, 8, 9, 10, and all others below
pub after_hashing_lem : All (λ (v : ℕ). after_hashing v ≡ true) (0 ∷ 8 ∷ 9 ∷ 10 ∷ [])
unfolding after_hashing mem
after_hashing_lem = (refl, (refl, (refl, (refl, tt))))

pub before_hashing : All (λ (v : ℕ). after_hashing v ≡ false) (1 ∷ 2 ∷ 3 ∷ 4 ∷ 5 ∷ 6 ∷ 7 ∷ [])
unfolding after_hashing mem
before_hashing = (refl, (refl, (refl, (refl, (refl, (refl, (refl, tt)))))))

-- a refused question comes to no hashing
pub refused_none : (question : Bytes) (v : ℕ) → 0 < v → question_verdict question ≡ v → after_hashing v ≡ false
unfolding question_tests after_hashing mem
refused_none question v p e = ⊎_elim
    (λ (h : after_hashing v ≡ true).
    let t = passed_by after_hashing (question_tests question) [] (refl, (refl, (refl, (refl, (refl, (refl, tt)))))) (ap after_hashing e ∙ h) in
    absurd (ne_of_gt p (sym e ∙ pass (question_tests question) t)))
    (λ (h : after_hashing v ≡ false). h)
    (tested (after_hashing v))

-- a verdict given after hashing: the question is well formed, and the reply has its length
came_to_hashing : (unit : ℕ) (question reply : Bytes) (n : ℕ) → after_hashing (check_verdict unit question reply n) ≡ true
    → (question_verdict question ≡ 0) × (length reply ≡ reply_length (read_question question))
unfolding check_verdict question_tests reply_tests after_hashing mem
came_to_hashing unit question reply n h =
    let u : Question = read_question question in
    let first : List Test = buffer_test unit u n ∷ (7, not (eqb (length reply) (reply_length u))) ∷ [] in
    let t = passed_by after_hashing (question_tests question ++ first) (drop 1 (reply_tests u reply)) (refl, (refl, (refl, (refl, (refl, (refl, (refl, (refl, tt)))))))) h in (
      pass (question_tests question) (all_left (λ (t : Test). t.1 ≡ false) (question_tests question) first t),
      eqb-true _ _ (not-false _ (all_right (λ (t : Test). t.1 ≡ false) (question_tests question) first t).1.0),
    )

work_after : (u : Question) (r : Reply) (v : ℕ) → after_hashing v ≡ true → check_work u r v ≡ work (hashed_strings u r)
unfolding check_work
work_after u r v h = ap (λ (b : Bool). pick b (work (hashed_strings u r)) 0) h

work_before : (u : Question) (r : Reply) (v : ℕ) → after_hashing v ≡ false → check_work u r v ≡ 0
unfolding check_work
work_before u r v h = ap (λ (b : Bool). pick b (work (hashed_strings u r)) 0) h

count_asked : (unit : ℕ) (question reply : Bytes) (n v : ℕ) → v ≡ check_verdict unit question reply n
    → check_work (read_question question) (read_reply (read_question question) reply) v ≡ work_by (read_question question) v
count_asked unit question reply n v e =
    let u : Question = read_question question in
    let r : Reply = read_reply u reply in
    ⊎_elim
    (λ (h : after_hashing v ≡ true).
    let k = came_to_hashing unit question reply n (ap after_hashing (sym e) ∙ h) in
    work_after u r v h ∙ work-asked u reply (well_formed question k.0) (indices_length question) k.1 ∙ sym (ap (λ (b : Bool). pick b (question_work u) 0) h))
    (λ (h : after_hashing v ≡ false). work_before u r v h ∙ sym (ap (λ (b : Bool). pick b (question_work u) 0) h))
    (tested (after_hashing v))

-- the outcome of a check, from its verdict and values and from the question's work
pub counted_is : (question reply : Bytes) (values : List ℕ) (v n : ℕ) (out : List ℕ) → (v, out) ≡ checking question reply values → n ≡ work_by (read_question question) v
    → (v, n, out) ≡ checking_counted question reply values
unfolding checking_counted checking
counted_is question reply values v n out e f =
    let u : Question = read_question question in
    let c : check_work u (read_reply u reply) v ≡ work_by u v = count_asked 1 question reply (length values) v (ap (λ (z : ℕ × List ℕ). z.0) e) in
    ap (λ (k : ℕ). (v, k, out)) (f ∙ sym c) ∙ ap (λ (z : ℕ × List ℕ). (z.0, check_work u (read_reply u reply) z.0, z.1)) e

-- ---- what is claimed

-- sizes and indices alone decide it
pub same_work : (u v : Question) → u.sizes ≡ v.sizes → u.indices ≡ v.indices → question_work u ≡ question_work v
unfolding question_work
same_work u v e f = ap₂ (λ (s : Sizes) (i : List ℕ). s.ℓ * permutations_for (leaf_length s) + length (nodes_above (arity s) (levels s) i) * permutations_for (node_length s)) e f

-- three permutations at most for a leaf's string, one for a node's
pub leaf_high : (s : Sizes) → SizesInOrder s → permutations_for (leaf_length s) ≤ 3
leaf_high s g = omega (arith, g.rows-high, g.η-high)

work_bounded : (question : Bytes) → question_verdict question ≡ 0 → question_work (read_question question) ≤ work_bound (read_question question).sizes
unfolding question_work
work_bounded question wf =
    let u : Question = read_question question in
    let s : Sizes = u.sizes in
    let leaf : s.ℓ * permutations_for (leaf_length s) ≤ s.ℓ * 3 = mul-le-mul_left s.ℓ (leaf_high s (well_formed question wf).in_order) in
    let above : length (nodes_hashed u) ≤ length u.indices * levels s = above_bound (arity s) (levels s) u.indices in
    omega (arith, leaf, above, ap (λ (n : ℕ). n * levels s) (indices_length question), mul-add s.ℓ 3 s.h)

pub some_work : (question : Bytes) → question_verdict question ≡ 0 → 0 < question_work (read_question question)
unfolding question_work
some_work question wf =
    let s : Sizes = (read_question question).sizes in
    let one : 1 ≤ permutations_for (leaf_length s) = omega arith in
    let some : 1 * 1 ≤ s.ℓ * permutations_for (leaf_length s) = mul-le-mul (well_formed question wf).in_order.ℓ-low one in
    omega arith

pub all_counted : AllCounted
unfolding checking_counted checking
all_counted question reply values =
    let u : Question = read_question question in
    let v : ℕ = check_verdict 1 question reply (length values) in
    let c : check_work u (read_reply u reply) v ≡ work_by u v = count_asked 1 question reply (length values) v refl in
    record {
      planned = λ h.
          let k = came_to_hashing 1 question reply (length values) h in
          planning_is question_work question k.0 ∙ ap (λ (n : ℕ). (0, n)) (sym (c ∙ ap (λ (b : Bool). pick b (question_work u) 0) h));
      none = λ h. c ∙ ap (λ (b : Bool). pick b (question_work u) 0) h;
      bounded = ⊎_elim
          (λ (h : after_hashing v ≡ true).
          subst (λ (n : ℕ). n ≤ work_bound u.sizes) (sym (c ∙ ap (λ (b : Bool). pick b (question_work u) 0) h)) (work_bounded question (came_to_hashing 1 question reply (length values) h).0))
          (λ (h : after_hashing v ≡ false). subst (λ (n : ℕ). n ≤ work_bound u.sizes) (sym (c ∙ ap (λ (b : Bool). pick b (question_work u) 0) h)) zero-le)
          (tested (after_hashing v));
    }
