-- The test of evaluation answers at opened leaves, on words: answers stand in flat lists, one after the other.
use Rattle.std.specs.Prelude.{◌≡◌, Bool, List, ℕ, ◌+◌, ◌-◌, ◌*◌, ◌≤◌, eqb, length, get_or}
use Rattle.lists.specs.Bytes.{Bytes}
use Rattle.lists.specs.Range.{up_from}
use Rattle.lists.specs.Pieces.{piece}
use Rattle.lists.specs.Tests.{each}
use Rattle.algebra.specs.Dot.{dot_n}
use Rattle.algebra.specs.Numbers.{eval_n, interp_n}
use Rattle.algebra.specs.Barycentric.{weighed_n, inverses_from, has_value}
use Rattle.scheme.specs.Sizes.{leaf_point}

-- ---- in the barycentric form

-- answer p, weighed
unfoldable pub weighed_row : List ℕ → List ℕ → ℕ → List ℕ
weighed_row weights answers p = weighed_n weights (piece (length weights) p answers)

-- weighed answer p agrees with the row values of a leaf, where `inverses` are those of the distances to its point, and the powers of evaluation point p are a row of a table
unfoldable pub weighed_at : List ℕ → List ℕ → List ℕ → List ℕ → List ℕ → ℕ → Bool
weighed_at inverses weights weighed scales rows p = has_value inverses weights (piece (length weights) p weighed) (dot_n rows (piece (length rows) p scales))

-- the first m do, where the first value point is `near` places after the leaf's
unfoldable pub weighed_all : ℕ → ℕ → List ℕ → List ℕ → List ℕ → List ℕ → Bool
weighed_all m near weights weighed scales rows = each m (weighed_at (inverses_from near (length weights)) weights weighed scales rows)

-- .. with opened leaf a, whose row values are `rows a`
unfoldable pub weighed_leaf : ℕ → ℕ → List ℕ → List ℕ → List ℕ → List ℕ → (ℕ → List ℕ) → ℕ → Bool
weighed_leaf m first weights weighed scales indices rows a = weighed_all m (first - leaf_point (get_or indices a 0)) weights weighed scales (rows a)

-- ---- with the polynomial through an answer

-- its value at x, where its points are the numbers from first on, is the row values' sum at evaluation point p
unfoldable pub evaluated_at : ℕ → ℕ → List ℕ → List ℕ → ℕ → List ℕ → ℕ → Bool
evaluated_at first width points answers x rows p = eqb (eval_n (interp_n (up_from first width) (piece width p answers)) x) (eval_n rows (get_or points p 0))

-- all answers agree with opened leaf a, whose row values are `rows a`
unfoldable pub evaluated_leaf : ℕ → ℕ → List ℕ → List ℕ → List ℕ → (ℕ → List ℕ) → ℕ → Bool
evaluated_leaf first width points answers indices rows a = each (length points) (evaluated_at first width points answers (leaf_point (get_or indices a 0)) (rows a))

-- what the walks are lent fits together: a weighed answer and a row of powers for each of m points, records of `size` bytes from `at` on for all indices, and room
abbrev pub Fits : ℕ → List ℕ → List ℕ → List ℕ → List ℕ → ℕ → ℕ → List ℕ → Bytes → List ℕ → List ℕ → Type 0
Fits m weights weighed rows scales at size indices reply products room =
    (length weights * m ≤ length weighed) × (length rows * m ≤ length scales) × (4 * length rows ≤ size) × (at + size * length indices ≤ length reply)
    × (length products ≡ length weights) × (length room ≡ length weights)
