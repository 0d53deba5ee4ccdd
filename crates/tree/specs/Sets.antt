-- Sets of nodes of one level of a tree whose nodes have b children, as lists of node numbers: their parents, and the missing nodes.
use Rattle.std.specs.Prelude.{Bool, false, ◌||◌, List, [], ◌∷◌, ◌++◌, map, ℕ, zero, suc, ◌+◌, ◌*◌, ◌/◌, ◌^◌, eqb}
use Rattle.lists.specs.Choice.{pick}
use Rattle.lists.specs.Range.{up_from}

-- the children of node p: b p, b p + 1, .., b p + b - 1 on the level below
unfoldable pub children : ℕ → ℕ → List ℕ
children b p = up_from (b * p) b

-- all children of some nodes, in order
unfoldable pub below : ℕ → List ℕ → List ℕ
below b [] = []
below b (p ∷ ps) = children b p ++ below b ps

-- is c in the set?
unfoldable pub mem : ℕ → List ℕ → Bool
mem c [] = false
mem c (i ∷ s) = eqb i c || mem c s

-- the nodes of a list that are not in the set
unfoldable pub without : List ℕ → List ℕ → List ℕ
without s [] = []
without s (c ∷ cs) = pick (mem c s) (without s cs) (c ∷ without s cs)

-- p in front of a list, unless it stands there
unfoldable pub push : ℕ → List ℕ → List ℕ
push p [] = p ∷ []
push p (q ∷ ps) = pick (eqb p q) (q ∷ ps) (p ∷ q ∷ ps)

-- the parents of a set's nodes, each once where the set is rising
unfoldable pub parents : ℕ → List ℕ → List ℕ
parents b [] = []
parents b (i ∷ s) = push (i / b) (parents b s)

-- missing on the set's own level: the children of its parents that are not in the set
unfoldable pub siblings : ℕ → List ℕ → List ℕ
siblings b s = without s (below b (parents b s))

-- a node by its level, from 0 for the leaves, and its number there
abbrev pub Node : Type 0
Node = ℕ × ℕ

-- the same node, where one level is counted more
abbrev pub raised : Node → Node
raised n = (suc n.0, n.1)

-- the missing nodes of a set of leaves under a root h levels up: level by level from the leaves, left to right
unfoldable pub missing : ℕ → ℕ → List ℕ → List Node
missing b zero s = []
missing b (suc h) s = map (λ c. (0, c)) (siblings b s) ++ map raised (missing b h (parents b s))

-- where level k begins in a tree that holds its levels one after the other, leaves first
unfoldable pub start : ℕ → ℕ → ℕ → ℕ
start b h zero = 0
start b zero (suc k) = 0
start b (suc h) (suc k) = b ^ suc h + start b h k

-- how many digests the tree over b ^ h leaves has
unfoldable pub tree_size : ℕ → ℕ → ℕ
tree_size b zero = 1
tree_size b (suc h) = b ^ suc h + tree_size b h
