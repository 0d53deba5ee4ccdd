-- What the functions ask for, and what those that are not public give.
use Rattle.std.specs.Prelude.{◌≡◌, ℕ, zero, ◌+◌, ◌-◌, ◌*◌, ◌/◌, ◌^◌, ◌≤◌, ◌<◌, length, take, drop}
use mathlib.Core.List.{List, ◌++◌, map, flatten, Memᴰ as Mem}
use Rattle.lists.specs.All.{Below}
use Rattle.lists.specs.Bytes.{Bytes}
use Rattle.lists.specs.Rising.{Rising}
use Rattle.tree.specs.Sets.{siblings, missing, tree_size}
use Rattle.tree.specs.Tree.{at, opened}
use Rattle.tree.specs.Walk.{used, skipped}
use Rattle.node_sets.specs.Clauses.{NodeSet}

-- `count_nodes`: some leaves of a tree whose nodes have 2 ^ bits children, and the numbers fit
pub record CanCount (b bits h : ℕ) (s : List ℕ) : Type 0 where
  pub arity : b ≡ 2 ^ bits
  pub few : b ≤ 16
  pub deep : bits * h < 64
  pub some : zero < length s
  pub count : length s ≤ 64
  pub rising : Rising s
  pub total : length (missing b h s) < 4294967296

-- `list_children`: the tree has the b children from first on, and out has room for those that the set does not have
pub record CanList (first b : ℕ) (idx : List ℕ) (n a : ℕ) (tree : Bytes) (start : ℕ) (out : Bytes) (t : ℕ) : Type 0 where
  pub indices : n ≤ length idx
  pub tree_has : start + (first + b) ≤ length tree / 32
  pub room : 32 * (t + (b - used first b (drop a (take n idx)))) ≤ length out

-- their digests stand in out from place t on, what follows is unchanged; a' and t' are the next places
pub record Listed (first b : ℕ) (s : List ℕ) (ds : List Bytes) (start : ℕ) (out₀ out : Bytes) (a t a' t' : ℕ) : Type 0 where
  pub written : take (32 * t') out ≡ take (32 * t) out₀ ++ flatten (map (λ c. at ds (start + c)) (skipped first b (drop a s)))
  pub rest : drop (32 * t') out ≡ drop (32 * t') out₀
  pub own : a' ≡ a + used first b (drop a s)
  pub listed : t' ≡ t + (b - used first b (drop a s))

-- `list_level`: the tree has the children of the set's parents, and out has room for the missing ones
pub record CanListLevel (b : ℕ) (idx : List ℕ) (n : ℕ) (tree : Bytes) (start : ℕ) (out : Bytes) (t : ℕ) : Type 0 where
  pub set : NodeSet b idx n
  pub tree_has : (i : ℕ) → Mem i (take n idx) → start + (b * (i / b) + b) ≤ length tree / 32
  pub room : 32 * (t + length (siblings b (take n idx))) ≤ length out

-- the digests of the level's missing nodes stand in out from place t on, what follows is unchanged
pub record LevelListed (b : ℕ) (s : List ℕ) (ds : List Bytes) (start : ℕ) (out₀ out : Bytes) (t t' : ℕ) : Type 0 where
  pub written : take (32 * t') out ≡ take (32 * t) out₀ ++ flatten (map (λ c. at ds (start + c)) (siblings b s))
  pub rest : drop (32 * t') out ≡ drop (32 * t') out₀
  pub spent : t' ≡ t + length (siblings b s)

-- `list_nodes`: a set of leaves of a tree over width = b ^ h leaves, and room in out for the missing nodes
pub record CanListNodes (b h width : ℕ) (idx : List ℕ) (n : ℕ) (tree out : Bytes) : Type 0 where
  pub set : NodeSet b idx n
  pub wide : width ≡ b ^ h
  pub leaves : Below (b ^ h) (take n idx)
  pub tree_has : tree_size b h ≤ length tree / 32
  pub room : 32 * length (missing b h (take n idx)) ≤ length out

-- their digests stand in front of out, what follows is unchanged
pub record NodesListed (b h : ℕ) (s : List ℕ) (ds : List Bytes) (out₀ out : Bytes) (count' : ℕ) : Type 0 where
  pub count : count' ≡ length (missing b h s)
  pub content : out ≡ flatten (opened b h ds s) ++ drop (32 * count') out₀
