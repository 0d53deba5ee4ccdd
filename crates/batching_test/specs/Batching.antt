-- The test of batching answers at opened leaves, on words: answers stand in flat lists, one after the other.
use Rattle.std.specs.Prelude.{Bool, List, ◌∷◌, ℕ, ◌+◌, ◌*◌, ◌%◌, eqb, length, get_or, take}
use Rattle.lists.specs.Pieces.{piece}
use Rattle.lists.specs.Tests.{each}
use Rattle.algebra.specs.Prime.{q}
use Rattle.algebra.specs.Dot.{dot_n}
use Rattle.algebra.specs.Numbers.{eval_n}
use Rattle.scheme.specs.Sizes.{leaf_point}

-- what the values x of a leaf give for repetition k: mask value k and the row values, batched by the powers of the challenge
unfoldable pub batch_of : ℕ → List ℕ → ℕ → List ℕ → ℕ
batch_of μ challenges k x = eval_n (get_or x (μ + k) 0 ∷ take μ x) (get_or challenges k 0)

-- the same by a dot product, where the challenge's powers are a row of a table
unfoldable pub batch_by : ℕ → List ℕ → List ℕ → ℕ → List ℕ → ℕ
batch_by μ challenges scales k x = (get_or x (μ + k) 0 + get_or challenges k 0 * dot_n (piece μ k scales) (take μ x)) % q

-- batching answer k, at the point e of a leaf, agrees with the values x of the leaf
unfoldable pub agrees_at : ℕ → ℕ → List ℕ → List ℕ → List ℕ → ℕ → List ℕ → ℕ → Bool
agrees_at width μ challenges batching scales e x k = eqb (eval_n (piece width k batching) e) (batch_by μ challenges scales k x)

-- at opened leaf a, whose values are `values a`
unfoldable pub valued_at : ℕ → ℕ → List ℕ → List ℕ → List ℕ → List ℕ → (ℕ → List ℕ) → ℕ → ℕ → Bool
valued_at width μ challenges batching scales indices values a = agrees_at width μ challenges batching scales (leaf_point (get_or indices a 0)) (values a)

unfoldable pub valued_leaf : ℕ → ℕ → List ℕ → List ℕ → List ℕ → List ℕ → (ℕ → List ℕ) → ℕ → Bool
valued_leaf width μ challenges batching scales indices values a = each (length challenges) (valued_at width μ challenges batching scales indices values a)

-- with the values batched
unfoldable pub batched_at : ℕ → ℕ → List ℕ → List ℕ → List ℕ → (ℕ → List ℕ) → ℕ → ℕ → Bool
batched_at width μ challenges batching indices values k a = eqb (eval_n (piece width k batching) (leaf_point (get_or indices a 0))) (batch_of μ challenges k (values a))

unfoldable pub batched_row : ℕ → ℕ → List ℕ → List ℕ → List ℕ → (ℕ → List ℕ) → ℕ → Bool
batched_row width μ challenges batching indices values k = each (length indices) (batched_at width μ challenges batching indices values k)
