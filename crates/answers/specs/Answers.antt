-- The answers over the extended rows, and what the functions ask that write them.
use Rattle.std.specs.Prelude.{◌≡◌, List, ◌∷◌, map, ℕ, ◌*◌, ◌≤◌, ◌<◌, length, get_or}
use Rattle.lists.specs.Pieces.{piece}
use Rattle.lists.specs.Range.{up_from}
use Rattle.algebra.specs.Numbers.{Elements, interp_n}
use Rattle.scheme.specs.Sizes.{Sizes}
use Rattle.scheme.specs.Layers.{combination}
use Rattle.lent.specs.declared.Witness.{Witness}
use Rattle.lent.specs.Rows.{CanExtend}

-- x is μ rows of n elements each
pub record Lined (n μ : ℕ) (x : List ℕ) : Type 0 where
  pub whole : length x ≡ n * μ
  pub some : 0 < μ
  pub few : μ ≤ 64
  pub narrow : n ≤ 64

-- the rows can be combined: as many words as the sizes ask, and each a field element
pub record CanCombine (s : Sizes) (coefficients tails blinds : List ℕ) : Type 0 where
  pub extend : CanExtend s coefficients tails blinds
  pub coefficients_below : Elements coefficients
  pub tails_below : Elements tails

-- so can those of what the code is lent
abbrev pub Combines : Sizes → Witness → Type 0
Combines s w = CanCombine s w.coefficients.now w.tails.now w.blinds.now

-- the batching answer, where the polynomials go through the rows at the points from first on
abbrev pub batching_over : ℕ → ℕ → List (List ℕ) → List ℕ → ℕ → List ℕ
batching_over first n es mask γ = combination n γ (mask ∷ map (interp_n (up_from first n)) es)

-- of repetition k, with its mask and its challenge
abbrev pub batching_at : ℕ → ℕ → List (List ℕ) → List ℕ → List ℕ → ℕ → List ℕ
batching_at first n es masks challenges k = batching_over first n es (piece n k masks) (get_or challenges k 0)

-- the evaluation answer to z
abbrev pub answer_at : ℕ → List (List ℕ) → ℕ → List ℕ
answer_at n es z = combination n z es
