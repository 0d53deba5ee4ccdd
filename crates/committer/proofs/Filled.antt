-- What is filled in is the table and the tree of the definitions.
use mathlib.Core.Path.{◌≡◌, sym, ap, ap₂, ◌∙◌}
use mathlib.Core.List.{List, ◌∷◌, ◌++◌, flatten}
use Prim.Native.Nat.{ℕ, ◌-◌, ◌*◌}
use native.Mathlib.Nat.{pow-suc}
use native.Mathlib.Omega.{arith}
use lib.ListN.{length, drop, length-append, length-drop}
use borrow.Author.Tests.{eqb-true}
use Rattle.lists.specs.Bytes.{Bytes}
use Rattle.lists.specs.Pieces.{pieces, pieces-flatten, length-flatten}
use Rattle.lists.specs.Tests.{every_true}
use Rattle.sponge.specs.Digest.{digest}
use Rattle.tree.specs.Leaf.{salt_length}
use Rattle.tree.specs.Sets.{tree_size}
use Rattle.tree.specs.Tree.{tree, parts}
use Rattle.tree.proofs.Rows.{tree_size_lem}
use Rattle.scheme.specs.Sizes.{Sizes, SizesInOrder, leaves, record_values}
use Rattle.scheme.specs.Layers.{Lent}
use Rattle.scheme.specs.Commit.{filled_ok, table_of, leaf_digests, tree_of}
use Rattle.scheme.proofs.Lent.{LentFacts, lent_facts}
use Rattle.scheme.proofs.Committed.{table-length, level_length, level_sized}
use Rattle.lent.proofs.Measures.{leaves-low}
use Rattle.evaluations.specs.Clauses.{Evaluable}
use Rattle.committer.specs.Clauses.{Hashable, Committable}

module _ (s : Sizes) (l : Lent) (table nodes : List ℕ) (c : Committable s l table nodes) where
  abbrev r : LentFacts s l
  r = lent_facts s l c.right

  abbrev g : SizesInOrder s
  g = r.sizes

  lengths : (length table ≡ leaves s * record_values s) × (length nodes ≡ 32 * (2 * leaves s - 1))
  unfolding filled_ok
  lengths = let t = every_true _ c.filled in (eqb-true _ _ t.0, eqb-true _ _ t.1.0)

  pub evaluable : Evaluable s l.coefficients l.tails l.blinds l.masks table
  evaluable = record {
    extend = record { laid = record { sizes = g; coefficients_length = r.c_length; blinds_length = r.b_length; blinds_below = r.b_below }; tails-length = r.t_length };
    masks_length = r.m_length;
    table-length = lengths.0;
  }

  -- ---- the tree

  pub salt_right : length l.salt ≡ salt_length
  salt_right = r.s_length

  pub hashable : (t : List ℕ) → t ≡ table_of s l → Hashable s t l.nonces l.salt nodes
  hashable t e = record {
    sizes = g;
    table-length = ap length e ∙ table-length s l r;
    nonces_length = r.n_length;
    salt_length_lem = r.s_length;
    room = omega (arith, lengths.1, leaves-low s g);
  }

  module _ (t first : List ℕ) (ht : t ≡ table_of s l) (hf : first ≡ flatten (leaf_digests s t l.nonces l.salt) ++ drop (32 * leaves s) nodes) where
    first_is : first ≡ flatten (leaf_digests s (table_of s l) l.nonces l.salt) ++ drop (32 * leaves s) nodes
    first_is = hf ∙ ap (λ (x : List ℕ). flatten (leaf_digests s x l.nonces l.salt) ++ drop (32 * leaves s) nodes) ht

    pub first_length : length first ≡ 32 * tree_size 2 s.h
    first_length =
        ap length first_is ∙ length-append (flatten (leaf_digests s (table_of s l) l.nonces l.salt)) (drop (32 * leaves s) nodes)
        ∙ omega (arith, length-flatten 32 (leaf_digests s (table_of s l) l.nonces l.salt) (level_sized s l r), level_length s l r, length-drop (32 * leaves s) nodes, lengths.1, leaves-low s g, tree_size_lem 1 s.h, pow-suc 2 s.h)

    pub tree_is : (n : ℕ) (whole : List ℕ) → n ≡ leaves s → whole ≡ flatten (tree digest 2 (1 ∷ l.salt) s.h (parts n first)) → whole ≡ tree_of s l
    unfolding tree_of
    tree_is n whole e h =
        h ∙ ap (λ (x : List Bytes). flatten (tree digest 2 (1 ∷ l.salt) s.h x))
        (ap₂ (λ (m : ℕ) (x : Bytes). pieces 32 m x) (e ∙ sym (level_length s l r)) first_is
        ∙ pieces-flatten 32 (leaf_digests s (table_of s l) l.nonces l.salt) (drop (32 * leaves s) nodes) (level_sized s l r))
