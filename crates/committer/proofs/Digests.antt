-- The record of a leaf, and the digests of all leaves.
use mathlib.Core.Path.{◌≡◌, sym, ap, ap₂, ◌∙◌, subst}
use mathlib.Core.List.{List, ◌++◌, map, flatten, append_assoc}
use Prim.Native.Nat.{ℕ, ◌+◌, ◌-◌, ◌*◌, ◌≤◌, ◌<◌}
use native.Mathlib.Omega.{arith}
use lib.ListN.{length, take, drop, length-append}
use lib.Seq.{take_at}
use Rattle.lists.specs.Bytes.{Bytes, bytes_of, length-bytes_of}
use Rattle.lists.specs.Pieces.{piece}
use Rattle.lists.specs.Range.{up_from}
use Rattle.sponge.specs.Digest.{digest, digest-length}
use Rattle.tree.specs.Leaf.{leaf_string}
use Rattle.scheme.specs.Sizes.{Sizes, SizesInOrder, leaves, record_values}
use Rattle.scheme.proofs.Accepted.{leaves-high}
use Rattle.lent.proofs.Measures.{table_bound}
use Rattle.lists.specs.Parts.{row_fits, part_is}
use Rattle.scheme.specs.Commit.{leaf_record, leaf_digests}
use Rattle.lists.specs.Rows.{rows_of}
use Rattle.committer.specs.Clauses.{Hashable, digest_of}

-- values and then nonce, written to the front of a longer list
module _ (values : List ℕ) (nonce old one two : Bytes) (at : ℕ) (ha : at ≡ 4 * length values) (hn : length nonce ≡ 32)
    (h₁ : one ≡ take 0 old ++ (bytes_of values ++ drop (0 + 4 * length values) old))
    (h₂ : two ≡ take at one ++ (nonce ++ drop (at + length nonce) one)) where
  values_count : length (bytes_of values) ≡ at
  values_count = length-bytes_of values ∙ sym ha

  two_is : two ≡ (bytes_of values ++ nonce) ++ drop (at + length nonce) one
  two_is =
      h₂ ∙ ap (λ (x : Bytes). x ++ (nonce ++ drop (at + length nonce) one)) (ap (take at) h₁ ∙ take_at (bytes_of values) (drop (0 + 4 * length values) old) at values_count)
      ∙ sym (append_assoc (bytes_of values) nonce (drop (at + length nonce) one))

  record_count : length (bytes_of values ++ nonce) ≡ at + 32
  record_count = length-append (bytes_of values) nonce ∙ ap₂ ◌+◌ values_count hn

  pub record_is : take (at + 32) two ≡ bytes_of values ++ nonce
  record_is = ap (take (at + 32)) two_is ∙ take_at (bytes_of values ++ nonce) (drop (at + length nonce) one) (at + 32) record_count

  pub record_length_lem : length (take (at + 32) two) ≡ at + 32
  record_length_lem = ap length record_is ∙ record_count

pub digest_of-length : (k : ℕ) (table nonces salt : List ℕ) (i : ℕ) → length (digest_of k table nonces salt i) ≡ 32
unfolding digest_of
digest_of-length k table nonces salt i = digest-length (leaf_string salt i (bytes_of (piece k i table) ++ piece 32 i nonces))

-- leaf i is hashed from its parts of the table and of the nonces
pub digest_is : (k i : ℕ) (table nonces salt ys : List ℕ)
    → ys ≡ digest (leaf_string salt i (bytes_of (take (k * i + k - k * i) (drop (k * i) table)) ++ take (32 * i + 32 - 32 * i) (drop (32 * i) nonces))) → ys ≡ digest_of k table nonces salt i
unfolding digest_of
digest_is k i table nonces salt ys h =
    h ∙ ap₂ (λ (x y : List ℕ). digest (leaf_string salt i (bytes_of x ++ y))) (part_is k i table) (part_is 32 i nonces)

-- all leaves hashed
pub digests_done : (s : Sizes) (k i : ℕ) (table nonces salt old : List ℕ) → k ≡ record_values s → i ≡ leaves s
    → rows_of (digest_of k table nonces salt) i ++ drop (32 * i) old ≡ flatten (leaf_digests s table nonces salt) ++ drop (32 * leaves s) old
unfolding rows_of digest_of leaf_digests leaf_record
digests_done s k i table nonces salt old hk hi =
    ap₂ (λ (m n : ℕ). flatten (map (λ j. digest (leaf_string salt j (bytes_of (piece m j table) ++ piece 32 j nonces))) (up_from 0 n)) ++ drop (32 * n) old) hk hi

-- where leaf i of n stands: in the table, with k values a leaf, among the nonces and among the digests
pub record LeafFits (k i : ℕ) (table nonces nodes : List ℕ) : Type 0 where
  pub values : k * i + k ≤ length table
  pub table_small : length table ≤ 278528
  pub nonce : 32 * i + 32 ≤ length nonces
  pub node : 32 * i + 32 ≤ length nodes
  pub index_small : i < 4096
  pub few_values : k ≤ 68

pub leaf_fits : (s : Sizes) (table nonces salt nodes : List ℕ) (k n i : ℕ) → Hashable s table nonces salt nodes → k ≡ record_values s → n ≡ leaves s → i < n → LeafFits k i table nonces nodes
leaf_fits s table nonces salt nodes k n i h hk hn l =
    let g : SizesInOrder s = h.sizes in
    let m : i < leaves s = subst (λ (j : ℕ). i < j) hn l in
    let e : length table ≡ leaves s * k = h.table-length ∙ ap (λ (j : ℕ). leaves s * j) (sym hk) in
    record {
      values = omega (arith, e, row_fits k i (leaves s) m);
      table_small = omega (arith, h.table-length, table_bound s g);
      nonce = omega (arith, h.nonces_length, m);
      node = omega (arith, h.room, m);
      index_small = omega (arith, m, leaves-high s g);
      few_values = omega (arith, hk, g.rows-high, g.η-high);
    }
