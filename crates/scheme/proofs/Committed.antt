-- What the committer leaves: the table, the records, the tree.
use mathlib.Core.Path.{◌≡◌, sym, ap, ap₂, ◌∙◌, subst}
use mathlib.Core.Bool.{true, not}
use mathlib.Core.List.{List, [], ◌∷◌, ◌++◌, map}
use Prim.Native.Nat.{ℕ, ◌+◌, ◌-◌, ◌*◌, ◌/◌, ◌<◌}
use native.Mathlib.Nat.{zero-add, pow-suc}
use native.Mathlib.Omega.{arith}
use lib.ListN.{length, get_or, take, drop, length-map, length-append, length-drop}
use lib.Seq.{take_at, get_or-append-add, take_all}
use borrow.Author.Tests.{eq-eqb}
use Rattle.sponge.specs.Digest.{digest, digest-length}
use Rattle.lists.specs.Range.{up_from, at_run, length-up_from}
use Rattle.tree.specs.Sets.{tree_size, start}
use Rattle.lists.specs.Bytes.{Bytes, words, bytes_of}
use Rattle.tree.specs.Tree.{at, tree, root, all_parts}
use Rattle.lists.specs.All.{Sized, All, all_flatten, all_each}
use Rattle.tree.proofs.Rows.{tree_size_lem, tree_length, tree_sized, tree_root, root_place}
use Rattle.lists.specs.Pieces.{length-flatten, pieces_at, piece}
use Rattle.tree.proofs.OpenedDigests.{parts-flatten as parts_all}
use Rattle.algebra.specs.Prime.{q}
use Rattle.algebra.specs.Numbers.{eval_n, values_at_n, Elements}
use Rattle.lists.specs.Tests.{pass, true_every}
use Rattle.scheme.specs.Sizes.{Sizes, arity, levels, node_prefix, leaves, rows, record_values}
use Rattle.scheme.specs.Layers.{Lent, row_polynomials, mask_polynomial}
use Rattle.tree.specs.Leaf.{leaf_string}
use Rattle.scheme.specs.Reply.{record_words, row_values, mask_value}
use Rattle.scheme.specs.Commit.{lent_ok, filled_ok, commit_tests, leaf_values, table_of, leaf_record, leaf_digests, tree_of, last_digest, commit_verdict, committing}
use Rattle.scheme.specs.Honest.{WellLent}
use Rattle.scheme.proofs.Bound.{some_children, leaves_are}
use Rattle.scheme.proofs.Lent.{small, LentFacts}
use Rattle.algebra.specs.Values.{length_values, values_append, values_at_lem, values_below}
use Rattle.scheme.proofs.HonestAnswers.{P_count}
use Rattle.scheme.proofs.ReplyReadBack.{words_one, piece-flatten}

-- committing takes what is right
commits : (s : Sizes) (l : Lent) → WellLent s l → (table : List ℕ) (nodes : Bytes) → filled_ok s table nodes ≡ true → commit_verdict s l table nodes ≡ 0
unfolding commit_verdict commit_tests
commits s l r table nodes f =
    pass _ (ap not r.sizes, (ap not (true_every (lent_ok s l ∷ filled_ok s table nodes ∷ []) (r.lengths, (f, tt))), (ap not r.elements, tt)))

pub committing_is : (s : Sizes) (l : Lent) → WellLent s l → (table : List ℕ) (nodes : Bytes) → filled_ok s table nodes ≡ true → committing s l table nodes ≡ (0, table_of s l, tree_of s l)
unfolding committing
committing_is s l r table nodes f = rw (commits s l r table nodes f)

module _ (s : Sizes) (l : Lent) (r : LentFacts s l) where
  abbrev pub table : List ℕ
  table = table_of s l

  abbrev pub P : List (List ℕ)
  P = row_polynomials s l

  abbrev M : List (List ℕ)
  M = map (mask_polynomial s l) (up_from 0 s.η)

  rows_count : length P ≡ rows s
  rows_count = P_count s l r

  masks_count : length M ≡ s.η
  masks_count = length-map (up_from 0 s.η) _ ∙ length-up_from 0 s.η

  leaf_values_are : (i : ℕ) → leaf_values s l i ≡ values_at_n P i ++ values_at_n M i
  unfolding leaf_values
  leaf_values_are i = values_append P M i

  leaf_values-length : (i : ℕ) → length (leaf_values s l i) ≡ record_values s
  leaf_values-length i =
      ap length (leaf_values_are i) ∙ length-append (values_at_n P i) (values_at_n M i)
      ∙ ap₂ ◌+◌ (length_values P i ∙ rows_count) (length_values M i ∙ masks_count)

  leaf_values_below : (i : ℕ) → Elements (leaf_values s l i)
  unfolding leaf_values
  leaf_values_below i = values_below (P ++ M) i

  table_long : Sized (record_values s) (map (leaf_values s l) (up_from 0 (leaves s)))
  table_long = all_each (λ (x : List ℕ). length x ≡ record_values s) (leaf_values s l) (up_from 0 (leaves s)) leaf_values-length

  table_count : length (map (leaf_values s l) (up_from 0 (leaves s))) ≡ leaves s
  table_count = length-map (up_from 0 (leaves s)) _ ∙ length-up_from 0 (leaves s)

  pub table-length : length table ≡ leaves s * record_values s
  unfolding table_of
  table-length =
      length-flatten (record_values s) (map (leaf_values s l) (up_from 0 (leaves s))) table_long
      ∙ ap (λ (n : ℕ). record_values s * n) table_count ∙ omega arith

  pub table_below : Elements table
  unfolding table_of
  table_below =
      all_flatten (λ (x : ℕ). x < q) (map (leaf_values s l) (up_from 0 (leaves s))) (all_each (All (λ (x : ℕ). x < q)) (leaf_values s l) (up_from 0 (leaves s)) leaf_values_below)

  table_at : (i : ℕ) → i < leaves s → piece (record_values s) i table ≡ leaf_values s l i
  unfolding table_of
  table_at i m =
      piece-flatten (record_values s) (map (leaf_values s l) (up_from 0 (leaves s))) i table_long (subst (λ (n : ℕ). i < n) (sym table_count) m)
      ∙ at_run (leaf_values s l) 0 (leaves s) i [] m ∙ ap (leaf_values s l) (zero-add i)

  -- ---- the record of a leaf

  abbrev pub rec : ℕ → Bytes
  rec i = leaf_record s table l.nonces i

  record_words_lem : (i : ℕ) → i < leaves s → record_words s (rec i) ≡ leaf_values s l i
  unfolding leaf_record
  record_words_lem i m =
      ap (λ (x : List ℕ). words (record_values s) (bytes_of x ++ piece 32 i l.nonces)) (table_at i m)
      ∙ words_one (record_values s) (leaf_values s l i) (piece 32 i l.nonces) (leaf_values-length i) (small (leaf_values s l i) (leaf_values_below i))

  pub record_below : (i : ℕ) → i < leaves s → Elements (record_words s (rec i))
  record_below i m = subst Elements (sym (record_words_lem i m)) (leaf_values_below i)

  pub record_rows : (i : ℕ) → i < leaves s → row_values s (rec i) ≡ values_at_n P i
  record_rows i m = ap (take (rows s)) (record_words_lem i m ∙ leaf_values_are i) ∙ take_at (values_at_n P i) (values_at_n M i) (rows s) (length_values P i ∙ rows_count)

  pub record_mask : (i k : ℕ) → i < leaves s → k < s.η → mask_value s (rec i) k ≡ eval_n (mask_polynomial s l k) i
  record_mask i k m n =
      ap (λ (x : List ℕ). get_or x (rows s + k) 0) (record_words_lem i m ∙ leaf_values_are i)
      ∙ ap (λ (j : ℕ). get_or (values_at_n P i ++ values_at_n M i) (j + k) 0) (sym (length_values P i ∙ rows_count))
      ∙ get_or-append-add (values_at_n P i) (values_at_n M i) k 0
      ∙ values_at_lem M i k (subst (λ (j : ℕ). k < j) (sym masks_count) n)
      ∙ ap (λ (p : List ℕ). eval_n p i) (at_run (mask_polynomial s l) 0 s.η k [] n ∙ ap (mask_polynomial s l) (zero-add k))

  -- ---- the tree

  abbrev pub level : List Bytes
  level = leaf_digests s table l.nonces l.salt

  pub level_length : length level ≡ leaves s
  unfolding leaf_digests
  level_length = length-map (up_from 0 (leaves s)) _ ∙ length-up_from 0 (leaves s)

  pub level_at : (i : ℕ) → i < leaves s → at level i ≡ digest (leaf_string l.salt i (rec i))
  unfolding leaf_digests
  level_at i m = at_run (λ i. digest (leaf_string l.salt i (rec i))) 0 (leaves s) i [] m ∙ ap (λ (i : ℕ). digest (leaf_string l.salt i (rec i))) (zero-add i)

  pub level_sized : Sized 32 level
  unfolding leaf_digests
  level_sized = all_each (λ (d : Bytes). length d ≡ 32) (λ i. digest (leaf_string l.salt i (rec i))) (up_from 0 (leaves s)) (λ i. digest-length (leaf_string l.salt i (rec i)))

  abbrev pub digests : List Bytes
  digests = tree digest (arity s) (node_prefix s l.salt) (levels s) level

  digests_sized : Sized 32 digests
  digests_sized = tree_sized digest (arity s) (node_prefix s l.salt) (some_children s) (levels s) level digest-length level_sized

  digests_length : length digests ≡ tree_size (arity s) (levels s)
  digests_length = tree_length digest (arity s) (node_prefix s l.salt) (some_children s) (levels s) level (level_length ∙ sym (leaves_are s))

  pub tree_parts : all_parts (tree_of s l) ≡ digests
  unfolding tree_of
  tree_parts = parts_all digests digests_sized

  size_is : tree_size (arity s) (levels s) ≡ 2 * leaves s - 1
  size_is = omega (arith, tree_size_lem 1 s.h, pow-suc 2 s.h)

  flat_length : length (tree_of s l) ≡ 32 * tree_size (arity s) (levels s)
  unfolding tree_of
  flat_length = length-flatten 32 digests digests_sized ∙ ap (λ (n : ℕ). 32 * n) digests_length

  pub tree_bytes : length (tree_of s l) ≡ 32 * (2 * leaves s - 1)
  tree_bytes = flat_length ∙ ap (λ (n : ℕ). 32 * n) size_is

  -- its last 32 bytes are the root
  pub last_is : last_digest (tree_of s l) ≡ root digest (arity s) (node_prefix s l.salt) (levels s) level
  unfolding all_parts
  last_is =
      let x : Bytes = tree_of s l in
      let b : ℕ = start (arity s) (levels s) (levels s) in
      let e : length x - 32 ≡ 32 * b = omega (arith, flat_length, root_place (arity s) (levels s)) in
      ap (λ (k : ℕ). drop k x) e
      ∙ sym (take_all 32 (drop (32 * b) x) (omega (arith, length-drop (32 * b) x, flat_length, root_place (arity s) (levels s))))
      ∙ sym (pieces_at 32 (length x / 32) b x (omega (arith, flat_length, root_place (arity s) (levels s))))
      ∙ ap (λ (ds : List Bytes). at ds b) tree_parts
      ∙ tree_root digest (arity s) (node_prefix s l.salt) (some_children s) (levels s) level (level_length ∙ sym (leaves_are s))

  pub filled : filled_ok s table (tree_of s l) ≡ true
  unfolding filled_ok
  filled = true_every _ (eq-eqb _ _ table-length, (eq-eqb _ _ tree_bytes, tt))
