-- Committing: its tests, the table of leaf values, the tree.
use Rattle.std.specs.Prelude.{Bool, not, ℕ, ◌-◌, ◌*◌, eqb, length, drop}
use mathlib.Core.List.{List, [], ◌∷◌, ◌++◌, map, flatten}
use Rattle.sponge.specs.Digest.{digest}
use Rattle.lists.specs.Choice.{pick}
use Rattle.lists.specs.Range.{up_from}
use Rattle.lists.specs.Bytes.{Bytes, bytes_of}
use Rattle.tree.specs.Tree.{tree, node_strings}
use Rattle.algebra.specs.Numbers.{values_at_n}
use Rattle.lists.specs.Pieces.{piece}
use Rattle.lists.specs.Tests.{Test, verdict_of, every}
use Rattle.scheme.specs.Sizes.{elements, Sizes, arity, levels, node_prefix, leaves, rows, coefficient_count, blind_count, width, record_values, leaf_point, sizes_ok}
use Rattle.scheme.specs.Layers.{Lent, row_polynomials, mask_polynomial}
use Rattle.tree.specs.Leaf.{leaf_string, salt_length}

-- the lengths of what is lent, and of what is filled
unfoldable pub lent_ok : Sizes → Lent → Bool
lent_ok s l =
    every
    (eqb (length l.coefficients) (s.w * coefficient_count s) ∷ eqb (length l.tails) (rows s * s.ℓ) ∷ eqb (length l.blinds) (s.w * blind_count s)
    ∷ eqb (length l.masks) (s.η * width s) ∷ eqb (length l.nonces) (32 * leaves s) ∷ eqb (length l.salt) salt_length ∷ [])

unfoldable pub filled_ok : Sizes → List ℕ → Bytes → Bool
filled_ok s table nodes = every (eqb (length table) (leaves s * record_values s) ∷ eqb (length nodes) (32 * (2 * leaves s - 1)) ∷ [])

abbrev pub lent_elements : Lent → List Bool
lent_elements l = elements l.coefficients ∷ elements l.tails ∷ elements l.blinds ∷ elements l.masks ∷ []

unfoldable pub commit_tests : Sizes → Lent → List ℕ → Bytes → List Test
commit_tests s l table nodes =
    (1, not (sizes_ok s))
    ∷ (2, not (every (lent_ok s l ∷ filled_ok s table nodes ∷ [])))
    ∷ (3, not (every (lent_elements l)))
    ∷ []

-- the values of leaf i: P_j(e_i) for each row, M_k(e_i) for each mask
unfoldable pub leaf_values : Sizes → Lent → ℕ → List ℕ
leaf_values s l i = values_at_n (row_polynomials s l ++ map (mask_polynomial s l) (up_from 0 s.η)) (leaf_point i)

-- the table, leaf by leaf
unfoldable pub table_of : Sizes → Lent → List ℕ
table_of s l = flatten (map (leaf_values s l) (up_from 0 (leaves s)))

-- the record of leaf i
unfoldable pub leaf_record : Sizes → List ℕ → Bytes → ℕ → Bytes
leaf_record s table nonces i = bytes_of (piece (record_values s) i table) ++ piece 32 i nonces

-- the digests of the leaves, and the tree over them: leaves, then each level above, root last
unfoldable pub leaf_digests : Sizes → List ℕ → Bytes → Bytes → List Bytes
leaf_digests s table nonces salt = map (λ i. digest (leaf_string salt i (leaf_record s table nonces i))) (up_from 0 (leaves s))

unfoldable pub tree_of : Sizes → Lent → Bytes
tree_of s l = flatten (tree digest (arity s) (node_prefix s l.salt) (levels s) (leaf_digests s (table_of s l) l.nonces l.salt))

-- the strings that committing hashes: those of the leaves, then those of the nodes, level by level
unfoldable pub committed_strings : Sizes → Lent → List Bytes
committed_strings s l =
    map (λ i. leaf_string l.salt i (leaf_record s (table_of s l) l.nonces i)) (up_from 0 (leaves s))
    ++ node_strings digest (arity s) (node_prefix s l.salt) (levels s) (leaf_digests s (table_of s l) l.nonces l.salt)

-- the tree's root, its last 32 bytes
abbrev pub last_digest : Bytes → Bytes
last_digest nodes = drop (length nodes - 32) nodes

-- a lent slice after a call: filled on verdict 0, else as it was
abbrev pub after : ℕ → List ℕ → List ℕ → List ℕ
after verdict filled before = pick (eqb verdict 0) filled before

-- what committing does: its verdict, the table and the tree
unfoldable pub commit_verdict : Sizes → Lent → List ℕ → Bytes → ℕ
commit_verdict s l table nodes = verdict_of (commit_tests s l table nodes)

unfoldable pub committing : Sizes → Lent → List ℕ → Bytes → ℕ × List ℕ × Bytes
committing s l table nodes =
    let v : ℕ = commit_verdict s l table nodes in
    (v, after v (table_of s l) table, after v (tree_of s l) nodes)
