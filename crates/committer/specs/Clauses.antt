-- Clauses of the functions that hash the leaves and commit.
use Rattle.std.specs.Prelude.{◌≡◌, true, List, ◌++◌, ℕ, ◌*◌, ◌≤◌, length}
use Rattle.lists.specs.Bytes.{bytes_of}
use Rattle.lists.specs.Pieces.{piece}
use Rattle.sponge.specs.Digest.{digest}
use Rattle.tree.specs.Leaf.{leaf_string, salt_length}
use Rattle.scheme.specs.Sizes.{Sizes, SizesInOrder, leaves, record_values}
use Rattle.scheme.specs.Layers.{Lent}
use Rattle.scheme.specs.Commit.{filled_ok}
use Rattle.scheme.specs.Honest.{WellLent}

-- sizes in their ranges, a whole table, a nonce for each leaf, a salt, and room for the digest of each leaf
pub record Hashable (s : Sizes) (table nonces salt nodes : List ℕ) : Type 0 where
  pub sizes : SizesInOrder s
  pub table-length : length table ≡ leaves s * record_values s
  pub nonces_length : length nonces ≡ 32 * leaves s
  pub salt_length_lem : length salt ≡ salt_length
  pub room : 32 * leaves s ≤ length nodes

-- the digest of leaf i, whose record has k values
unfoldable pub digest_of : ℕ → List ℕ → List ℕ → List ℕ → ℕ → List ℕ
digest_of k table nonces salt i = digest (leaf_string salt i (bytes_of (piece k i table) ++ piece 32 i nonces))

-- no test of committing holds
pub record Committable (s : Sizes) (l : Lent) (table nodes : List ℕ) : Type 0 where
  pub right : WellLent s l
  pub filled : filled_ok s table nodes ≡ true
