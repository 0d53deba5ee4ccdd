-- What the functions ask for, and what those that are not public give.
use Rattle.std.specs.Prelude.{◌≡◌, ℕ, zero, ◌+◌, ◌-◌, ◌*◌, ◌/◌, ◌^◌, ◌≤◌, ◌<◌, length, take, drop}
use mathlib.Core.List.{List, ◌++◌, map, flatten}
use Rattle.sponge.specs.Digest.{digest}
use Rattle.lists.specs.All.{Below}
use Rattle.lists.specs.Bytes.{Bytes}
use Rattle.tree.specs.Ancestors.{nodes_above}
use Rattle.tree.specs.Sets.{parents, siblings, missing}
use Rattle.tree.specs.Tree.{parts, strings}
use Rattle.tree.specs.Work.{permutations_for}
use Rattle.tree.specs.Walk.{fill, used}
use Rattle.node_sets.specs.Clauses.{NodeSet}

-- `gather_children`: buf has room for the b children from first on, and nodes has those that the set does not have
pub record CanGather (first b : ℕ) (idx : List ℕ) (n a : ℕ) (dig nodes : Bytes) (t : ℕ) (buf : Bytes) (off : ℕ) : Type 0 where
  pub numbers : first + b ≤ 4294967296
  pub indices : n ≤ length idx
  pub digests : 32 * n ≤ length dig
  pub room : off + 32 * b ≡ length buf
  pub listed : t + (b - used first b (drop a (take n idx))) ≤ length nodes / 32

-- their digests stand in buf behind its prefix; a' and t' are the next places
pub record Gathered (first b : ℕ) (s : List ℕ) (ds ns : List Bytes) (pre buf : Bytes) (a t a' t' : ℕ) : Type 0 where
  pub filled : buf ≡ pre ++ flatten (fill first b (drop a s) (drop a ds) (drop t ns))
  pub own : a' ≡ a + used first b (drop a s)
  pub listed : t' ≡ t + (b - used first b (drop a s))

-- `hash_parents`: dig has the set's digests, nodes has the level's missing ones from place t on, and the permutations can be counted
pub record CanHashParents (b : ℕ) (idx : List ℕ) (n : ℕ) (dig nodes : Bytes) (t : ℕ) (buf : Bytes) (off : ℕ) : Type 0 where
  pub set : NodeSet b idx n
  pub digests : 32 * n ≤ length dig
  pub room : off + 32 * b ≡ length buf
  pub listed : t + length (siblings b (take n idx)) ≤ length nodes / 32
  pub countable : length (parents b (take n idx)) * permutations_for (length buf) < 2 ^ 64

-- the digests of the set's parents stand in front of dig, and the level's missing nodes are used
pub record ParentsHashed (b : ℕ) (pre : Bytes) (s : List ℕ) (ds ns : List Bytes) (t : ℕ) (dig' : Bytes) (t' : ℕ) : Type 0 where
  pub digests : parts (length (parents b s)) dig' ≡ map digest (strings digest b pre s ds (drop t ns))
  pub spent : t' ≡ t + length (siblings b s)

-- `root_from`: a set of leaves below b ^ h, its digests, at least as many nodes as are missing, and permutations that can be counted
pub record CanRoot (b h : ℕ) (idx : List ℕ) (n : ℕ) (dig nodes : Bytes) (buf : Bytes) (off : ℕ) : Type 0 where
  pub set : NodeSet b idx n
  pub some : zero < n
  pub digests : 32 * n ≤ length dig
  pub leaves : Below (b ^ h) (take n idx)
  pub room : off + 32 * b ≡ length buf
  pub listed : length (missing b h (take n idx)) ≤ length nodes / 32
  pub countable : length (nodes_above b h (take n idx)) * permutations_for (length buf) < 2 ^ 64
