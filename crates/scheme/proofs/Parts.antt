-- The four parts of a reply that an opener makes, whatever table and tree are lent in their lengths: how many, how long; and so its length.
use mathlib.Core.Path.{◌≡◌, refl, sym, ap, ap₂, ◌∙◌, subst}
use mathlib.Core.Bool.{true}
use mathlib.Core.List.Memᴰ.{head as here, tail as there}
use mathlib.Core.List.{List, [], ◌∷◌, map, Memᴰ as Mem}
use Prim.Native.Nat.{ℕ, ◌+◌, ◌-◌, ◌*◌, ◌/◌, ◌^◌, ◌≤◌, ◌<◌}
use native.Mathlib.Nat.{mul_comm, pow-suc}
use native.Mathlib.Omega.{arith}
use lib.ListN.{length, length-map, length-append}
use borrow.Author.Tests.{eqb-true}
use Rattle.lists.specs.All.{All, Sized, Below, below_mem, all_imp, all_each}
use Rattle.lists.specs.Bytes.{Bytes, bytes_of, length-bytes_of}
use Rattle.lists.specs.Parts.{row_fits, length-piece}
use Rattle.lists.specs.Pieces.{piece, length-pieces, pieces-sized}
use Rattle.lists.specs.Range.{up_from, length-up_from}
use Rattle.lists.specs.Tests.{every_true}
use Rattle.algebra.specs.Numbers.{Elements}
use Rattle.tree.specs.Sets.{missing, tree_size}
use Rattle.tree.specs.Tree.{all_parts, opened}
use Rattle.tree.proofs.Rows.{tree_size_lem}
use Rattle.tree.proofs.OpenedDigests.{opened-sized}
use Rattle.scheme.specs.Sizes.{Sizes, arity, levels, leaves, width, record_values}
use Rattle.scheme.specs.Layers.{Lent}
use Rattle.scheme.specs.Question.{Question, read_question}
use Rattle.scheme.specs.Reply.{record_length, reply_length}
use Rattle.scheme.specs.Commit.{lent_ok, filled_ok, leaf_record}
use Rattle.scheme.specs.Open.{opened_batching, opened_answers, opened_records, opened_nodes, reply_of}
use Rattle.scheme.proofs.Accepted.{Asked}
use Rattle.scheme.proofs.Bound.{some_children, leaves_are, indices_length, points-length}
use Rattle.scheme.proofs.Lent.{small}
use Rattle.scheme.proofs.HonestAnswers.{combination-length, combination_below}
use Rattle.scheme.proofs.ReplyReadBack.{FourParts, whole_length}

pub all_in : {A : Type 0} (P : A → Type 0) (f : ℕ → A) (xs : List ℕ) → ((x : ℕ) → Mem x xs → P (f x)) → All P (map f xs)
all_in P f [] h = tt
all_in P f (x ∷ xs) h = (h x (here refl), all_in P f xs (λ y m. h y (there m)))

opened-length : (b h : ℕ) (t : List Bytes) (s : List ℕ) → length (opened b h t s) ≡ length (missing b h s)
unfolding opened
opened-length b h t s = length-map (missing b h s) _

-- ---- what is lent, in its lengths

pub filled_lengths : (s : Sizes) (table : List ℕ) (nodes : Bytes) → filled_ok s table nodes ≡ true → (length table ≡ leaves s * record_values s) × (length nodes ≡ 32 * (2 * leaves s - 1))
unfolding filled_ok
filled_lengths s table nodes e = let t = every_true _ e in (eqb-true _ _ t.0, eqb-true _ _ t.1.0)

nonces_length : (s : Sizes) (l : Lent) → lent_ok s l ≡ true → length l.nonces ≡ 32 * leaves s
unfolding lent_ok
nonces_length s l e = eqb-true _ _ (every_true _ e).1.1.1.1.0

pub tree_length : (s : Sizes) (table : List ℕ) (nodes : Bytes) → filled_ok s table nodes ≡ true → length nodes ≡ 32 * tree_size (arity s) (levels s)
tree_length s table nodes e = (filled_lengths s table nodes e).1 ∙ ap (λ (k : ℕ). 32 * k) (omega (arith, tree_size_lem 1 s.h, pow-suc 2 s.h))

-- ---- a leaf record

module _ (s : Sizes) (table : List ℕ) (nonces : Bytes) (values : length table ≡ leaves s * record_values s) (nonce : length nonces ≡ 32 * leaves s) (i : ℕ) (l : i < leaves s) where
  pub values_room : record_values s * i + record_values s ≤ length table
  values_room = subst (λ (n : ℕ). record_values s * i + record_values s ≤ n) (mul_comm (record_values s) (leaves s) ∙ sym values) (row_fits (record_values s) i (leaves s) l)

  pub nonce_room : 32 * i + 32 ≤ length nonces
  nonce_room = omega (arith, l, nonce)

  pub record_sized : length (leaf_record s table nonces i) ≡ record_length s
  unfolding leaf_record
  record_sized =
      length-append (bytes_of (piece (record_values s) i table)) (piece 32 i nonces)
      ∙ ap₂ ◌+◌
      (length-bytes_of (piece (record_values s) i table) ∙ ap (λ (j : ℕ). 4 * j) (length-piece (record_values s) i table values_room))
      (length-piece 32 i nonces nonce_room)

-- ---- the parts

module _ (question : Bytes) (l : Lent) (table : List ℕ) (nodes : Bytes) (a : Asked (read_question question))
    (lent : lent_ok (read_question question).sizes l ≡ true) (filled : filled_ok (read_question question).sizes table nodes ≡ true) where
  abbrev u : Question
  u = read_question question

  abbrev s : Sizes
  s = u.sizes

  abbrev bs : List (List ℕ)
  bs = opened_batching u l

  abbrev ans : List (List ℕ)
  ans = opened_answers u l

  abbrev xs : List Bytes
  xs = opened_records u l table

  abbrev ns : List Bytes
  ns = opened_nodes u nodes

  pub in_tree : Below (arity s ^ levels s) u.indices
  in_tree = subst (λ (n : ℕ). Below n u.indices) (sym (leaves_are s)) a.indices_below

  digests_sized : Sized 32 (all_parts nodes)
  unfolding all_parts
  digests_sized = pieces-sized 32 (length nodes / 32) nodes (omega arith)

  digests_count : tree_size (arity s) (levels s) ≤ length (all_parts nodes)
  unfolding all_parts
  digests_count = omega (arith, tree_length s table nodes filled, length-pieces 32 (length nodes / 32) nodes)

  pub batching_below : All Elements bs
  batching_below = all_each Elements _ (up_from 0 s.η) (λ k. combination_below (width s) _ _)

  pub answers_below : All Elements ans
  answers_below = all_each Elements _ u.evaluation_points (λ z. combination_below (width s) z _)

  pub four_parts : FourParts u bs ans xs ns
  four_parts = record {
    batching_count = length-map (up_from 0 s.η) _ ∙ length-up_from 0 s.η;
    answers_count = length-map u.evaluation_points _ ∙ points-length question;
    records_count = length-map u.indices _ ∙ indices_length question;
    nodes_count = opened-length (arity s) (levels s) (all_parts nodes) u.indices;
    batching_sized = all_each (λ (x : List ℕ). length x ≡ width s) _ (up_from 0 s.η) (λ k. combination-length (width s) _ _);
    answers_sized = all_each (λ (x : List ℕ). length x ≡ width s) _ u.evaluation_points (λ z. combination-length (width s) z _);
    records_sized =
        all_in (λ (x : Bytes). length x ≡ record_length s) _ u.indices (λ i m.
        record_sized s table l.nonces (filled_lengths s table nodes filled).0 (nonces_length s l lent) i (below_mem (leaves s) u.indices a.indices_below i m));
    nodes_sized = opened-sized (arity s) (levels s) (all_parts nodes) u.indices (some_children s) digests_sized digests_count in_tree;
    batching_small = all_imp small bs batching_below;
    answers_small = all_imp small ans answers_below;
  }

  -- a reply has the length of its question
  pub reply_sized : length (reply_of u l table nodes) ≡ reply_length u
  unfolding reply_of
  reply_sized = whole_length u bs ans xs ns four_parts
