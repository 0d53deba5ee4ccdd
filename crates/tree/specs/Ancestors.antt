-- The nodes above a set, some levels up, and how many they are, by neighbours alone.
use Rattle.std.specs.Prelude.{not, List, [], ◌++◌, map, ℕ, zero, suc, ◌-◌, ◌/◌, eqb, length, get_or}
use Rattle.lists.specs.Tests.{tally}
use Rattle.tree.specs.Sets.{Node, raised, parents}

-- the nodes k levels above the set
unfoldable pub ancestors : ℕ → ℕ → List ℕ → List ℕ
ancestors b zero s = s
ancestors b (suc k) s = parents b (ancestors b k s)

-- how many numbers of a list have another quotient by d than the next one
unfoldable pub changes : ℕ → List ℕ → ℕ
changes d s = tally (length s - 1) (λ a. not (eqb (get_or s a 0 / d) (get_or s (suc a) 0 / d)))

-- all nodes above a set of leaves, up to the root h levels up: level by level, left to right
unfoldable pub nodes_above : ℕ → ℕ → List ℕ → List Node
nodes_above b zero s = []
nodes_above b (suc h) s = map (λ p. (1, p)) (parents b s) ++ map raised (nodes_above b h (parents b s))
