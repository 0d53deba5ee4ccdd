-- The batching test: at one pair, and for all pairs.
use mathlib.Core.Path.{◌≡◌, sym, ap, ap₂, ◌∙◌}
use mathlib.Core.Bool.{true, false}
use mathlib.Core.List.{List, ◌++◌}
use Prim.Native.Nat.{ℕ, ◌+◌, ◌-◌, ◌*◌, ◌%◌, ◌<◌}
use native.Mathlib.Omega.{arith}
use lib.Dec.{eqb}
use lib.ListN.{length, get_or, take, drop}
use lib.Seq.{length-take-le}
use Rattle.lists.specs.Pieces.{piece}
use Rattle.lists.specs.Tests.{each, each_stop, each_ext, each_swap}
use Rattle.algebra.specs.Prime.{q}
use Rattle.algebra.specs.Dot.{dot_n}
use Rattle.algebra.specs.Numbers.{eval_n}
use Rattle.scheme.specs.Sizes.{leaf_point}
use Rattle.lists.specs.Rows.{rows_of}
use Rattle.opened.specs.Powers.{powers_at}
use Rattle.opened.proofs.Powers.{dot-row}
use Rattle.batching_test.specs.Batching.{batch_of, batch_by, agrees_at, valued_at, valued_leaf, batched_at, batched_row}
use Rattle.lists.specs.Parts.{part_is}

-- ---- one pair

-- the code's two sides
pub agrees : (width μ : ℕ) (challenges batching scales : List ℕ) (e : ℕ) (x : List ℕ) (k left rows right : ℕ)
    → left ≡ eval_n (take (width * k + width - width * k) (drop (width * k) batching)) e
    → rows ≡ dot_n (take (μ * k + μ - μ * k) (drop (μ * k) scales)) (take μ x)
    → right ≡ (get_or x (μ + k) 0 + get_or challenges k 0 * rows) % q
    → eqb left right ≡ agrees_at width μ challenges batching scales e x k
unfolding agrees_at batch_by
agrees width μ challenges batching scales e x k left rows right f g h =
    ap₂ eqb (f ∙ ap (λ (t : List ℕ). eval_n t e) (part_is width k batching))
    (h ∙ ap (λ (y : ℕ). (get_or x (μ + k) 0 + get_or challenges k 0 * y) % q)
    (g ∙ ap (λ (t : List ℕ). dot_n t (take μ x)) (part_is μ k scales)))

-- ---- the walks

module _ (width μ : ℕ) (challenges batching scales indices : List ℕ) (values : ℕ → List ℕ) where
  pub valued_is : (x : List ℕ) (k a e : ℕ) → e ≡ leaf_point (get_or indices a 0) → x ≡ values a
      → agrees_at width μ challenges batching scales e x k ≡ valued_at width μ challenges batching scales indices values a k
  unfolding valued_at
  valued_is x k a e f g = ap₂ (λ (i : ℕ) (y : List ℕ). agrees_at width μ challenges batching scales i y k) f g

  pub valued_fails : (l a k : ℕ) → a < l → k < length challenges → valued_at width μ challenges batching scales indices values a k ≡ false
      → each l (valued_leaf width μ challenges batching scales indices values) ≡ false
  unfolding valued_leaf
  valued_fails l a k h m e =
      each_stop l (valued_leaf width μ challenges batching scales indices values) a h (each_stop (length challenges) (valued_at width μ challenges batching scales indices values a) k m e)

  pub leaf_done : (a i : ℕ) → i ≡ length challenges → each i (valued_at width μ challenges batching scales indices values a) ≡ true → valued_leaf width μ challenges batching scales indices values a ≡ true
  unfolding valued_leaf
  leaf_done a i e h = ap (λ (n : ℕ). each n (valued_at width μ challenges batching scales indices values a)) (sym e) ∙ h

-- with the powers of the challenges for the table, dot products are values; and the walks, leaf by leaf, test what the definition tests repetition by repetition
module _ (width μ : ℕ) (challenges batching indices rest : List ℕ) (values : ℕ → List ℕ) (long : (a : ℕ) → length (values a) ≡ μ + length challenges) where
  abbrev scales : List ℕ
  scales = rows_of (powers_at μ challenges) (length challenges) ++ rest

  batch_value : (k a : ℕ) → k < length challenges → batch_by μ challenges scales k (values a) ≡ batch_of μ challenges k (values a)
  unfolding batch_by batch_of eval_n
  batch_value k a h =
      ap (λ (v : ℕ). (get_or (values a) (μ + k) 0 + get_or challenges k 0 * v) % q)
      (dot-row μ challenges (length challenges) k rest (take μ (values a)) h (length-take-le μ (values a) (omega (arith, long a))))

  pair_is : (k a : ℕ) → k < length challenges → valued_at width μ challenges batching scales indices values a k ≡ batched_at width μ challenges batching indices values k a
  unfolding valued_at batched_at agrees_at
  pair_is k a h = ap (eqb (eval_n (piece width k batching) (leaf_point (get_or indices a 0)))) (batch_value k a h)

  pub batched_is : (t : List ℕ) → t ≡ scales → each (length indices) (valued_leaf width μ challenges batching t indices values)
      ≡ each (length challenges) (batched_row width μ challenges batching indices values)
  unfolding valued_leaf batched_row
  batched_is t e =
      ap (λ (x : List ℕ). each (length indices) (valued_leaf width μ challenges batching x indices values)) e
      ∙ each_ext (length indices) (valued_leaf width μ challenges batching scales indices values) (λ a. each (length challenges) (λ k. batched_at width μ challenges batching indices values k a))
      (λ a m. each_ext (length challenges) (valued_at width μ challenges batching scales indices values a) (λ k. batched_at width μ challenges batching indices values k a) (λ k h. pair_is k a h))
      ∙ sym (each_swap (length challenges) (length indices) (batched_at width μ challenges batching indices values))
