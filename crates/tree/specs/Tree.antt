-- The tree: its digests from those of the leaves, the nodes that open a set of leaves, and the root that an opening gives.
-- b is the number of a node's children, pre what a node's string begins with, digest the hash.
use mathlib.Core.List.{List, [], ◌∷◌, ◌++◌, map, flatten}
use Rattle.std.specs.Prelude.{ℕ, zero, suc, ◌+◌, ◌/◌, ◌^◌, eqb, length, get_or, drop}
use Rattle.lists.specs.Bytes.{Bytes}
use Rattle.lists.specs.Pieces.{pieces}
use Rattle.lists.specs.Choice.{pick}
use Rattle.lists.specs.Range.{up_from}
use Rattle.tree.specs.Sets.{children, parents, siblings, missing, start}

-- digest c of a level, or of a tree
abbrev pub at : List Bytes → ℕ → Bytes
at ds c = get_or ds c []

-- of the strings that stand for the nodes of s, in order, the one for c
unfoldable pub found : List ℕ → List Bytes → ℕ → Bytes
found [] ds c = []
found (i ∷ s) [] c = []
found (i ∷ s) (d ∷ ds) c = pick (eqb i c) d (found s ds c)

-- the string of node p, where v gives the digest of each node of the level below
unfoldable pub node_string : ℕ → Bytes → (ℕ → Bytes) → ℕ → Bytes
node_string b pre v p = pre ++ flatten (map v (children b p))

-- the first n digests of 32 bytes in a row of bytes
abbrev pub parts : ℕ → Bytes → List Bytes
parts n x = pieces 32 n x

-- all that stand in it
unfoldable pub all_parts : Bytes → List Bytes
all_parts x = parts (length x / 32) x

module _ (digest : Bytes → Bytes) (b : ℕ) (pre : Bytes) where
  -- the w digests of the level above
  unfoldable pub above : ℕ → List Bytes → List Bytes
  above w level = map (λ p. digest (node_string b pre (at level) p)) (up_from 0 w)

  -- the tree over b ^ h leaves: leaves, then each level above, root last
  unfoldable pub tree : ℕ → List Bytes → List Bytes
  tree zero level = level
  tree (suc h) level = level ++ tree h (above (b ^ h) level)

  -- the strings of its nodes, level by level
  unfoldable pub node_strings : ℕ → List Bytes → List Bytes
  node_strings zero level = []
  node_strings (suc h) level = map (node_string b pre (at level)) (up_from 0 (b ^ h)) ++ node_strings h (above (b ^ h) level)

  unfoldable pub root : ℕ → List Bytes → Bytes
  root zero level = at level 0
  root (suc h) level = root h (above (b ^ h) level)

  -- an opening of a set s: the digests ds of its nodes and a list of the missing ones. The strings of the nodes above the set ..
  unfoldable pub strings : List ℕ → List Bytes → List Bytes → List Bytes
  strings s ds nodes = map (node_string b pre (found (s ++ siblings b s) (ds ++ nodes))) (parents b s)

  -- .. the root that it gives, h levels up ..
  unfoldable pub root_from : ℕ → List ℕ → List Bytes → List Bytes → Bytes
  root_from zero s ds nodes = found s ds 0
  root_from (suc h) s ds nodes = root_from h (parents b s) (map digest (strings s ds nodes)) (drop (length (siblings b s)) nodes)

  -- .. and all node strings that are hashed on the way
  unfoldable pub hashed : ℕ → List ℕ → List Bytes → List Bytes → List Bytes
  hashed zero s ds nodes = []
  hashed (suc h) s ds nodes =
      strings s ds nodes ++ hashed h (parents b s) (map digest (strings s ds nodes)) (drop (length (siblings b s)) nodes)

-- the missing nodes of a set, read from a tree
unfoldable pub opened : ℕ → ℕ → List Bytes → List ℕ → List Bytes
opened b h t s = map (λ n. at t (start b h n.0 + n.1)) (missing b h s)
