-- The children of one parent of a set, one after the other: each is the set's next node, or else the next of the missing ones.
use Rattle.std.specs.Prelude.{Bool, false, ℕ, zero, suc, eqb}
use mathlib.Core.List.{List, [], ◌∷◌, tail}
use Rattle.lists.specs.Choice.{pick}
use Rattle.lists.specs.Bytes.{Bytes}
use Rattle.tree.specs.Tree.{at}

-- is c the set's next node?
unfoldable pub heads : List ℕ → ℕ → Bool
heads [] c = false
heads (i ∷ s) c = eqb i c

-- the digests of the k children from c on
unfoldable pub fill : ℕ → ℕ → List ℕ → List Bytes → List Bytes → List Bytes
fill c zero s ds nodes = []
fill c (suc k) s ds nodes =
    pick (heads s c) (at ds 0 ∷ fill (suc c) k (tail s) (tail ds) nodes) (at nodes 0 ∷ fill (suc c) k s ds (tail nodes))

-- how many of the k children from c on are the set's
unfoldable pub used : ℕ → ℕ → List ℕ → ℕ
used c zero s = 0
used c (suc k) s = pick (heads s c) (suc (used (suc c) k (tail s))) (used (suc c) k s)

-- the k children from c on that the set does not have
unfoldable pub skipped : ℕ → ℕ → List ℕ → List ℕ
skipped c zero s = []
skipped c (suc k) s = pick (heads s c) (skipped (suc c) k (tail s)) (c ∷ skipped (suc c) k s)
