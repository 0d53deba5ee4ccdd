-- The evaluation test: at one leaf, and for all leaves.
use mathlib.Core.Path.{◌≡◌, refl, sym, ap, ap₂, ◌∙◌}
use mathlib.Core.Bool.{Bool, ◌&&◌}
use mathlib.Core.List.{List, [], ◌∷◌, ◌++◌}
use Prim.Native.Nat.{ℕ, ◌+◌, ◌-◌, ◌*◌, ◌%◌, ◌≤◌, ◌<◌}
use native.Mathlib.Omega.{arith}
use lib.Dec.{eqb}
use lib.ListN.{length, get_or, take, drop}
use Rattle.std.specs.List.{list_all, zip}
use Rattle.std.proofs.lemmas.Slice.Zip.{length-zip, get_or-zip}
use lib.Seq.{drop_at}
use Rattle.lists.specs.All.{Below, all_at}
use Rattle.lists.specs.Fill.{Filled}
use Rattle.lists.specs.Pieces.{piece}
use Rattle.lists.specs.Parts.{part_is}
use Rattle.lists.specs.Range.{up_from}
use Rattle.lists.specs.Tests.{all, all_is_each, each, each_ext}
use Rattle.algebra.specs.Prime.{q}
use Rattle.algebra.specs.Table.{table_size}
use Rattle.algebra.specs.Inverse.{inv_n}
use Rattle.algebra.specs.Dot.{dot_n, dot_n_comm, dots_of, dots_length, dots_entry}
use Rattle.algebra.specs.Numbers.{eval_n, eval_n_below, interp_n}
use Rattle.algebra.specs.Barycentric.{weights_n, weighed_n, cofactors_n, inverses_from, has_value}
use Rattle.algebra.proofs.Barycentric.{length-weights_n, length-weighed_n, run_is, value_test, cofactors_test}
use Rattle.scheme.specs.Sizes.{leaf_point}
use Rattle.lists.specs.Rows.{rows_of, row_at, length-rows}
use Rattle.opened.specs.Powers.{powers_at}
use Rattle.opened.proofs.Powers.{dot-row}
use Rattle.evaluation_test.specs.Evaluation.{weighed_row, weighed_at, weighed_all, weighed_leaf, evaluated_at, evaluated_leaf}

-- a test of all pairs of two lists, by places
pairs_all : (t : ℕ → ℕ → Bool) (xs ys : List ℕ) → length ys ≡ length xs
    → list_all (λ (p : ℕ × ℕ). t p.0 p.1) (zip xs ys) ≡ each (length xs) (λ k. t (get_or xs k 0) (get_or ys k 0))
unfolding all
pairs_all t xs ys e =
    each_of (zip xs ys)
    ∙ all_is_each (λ (p : ℕ × ℕ). t p.0 p.1) (0, 0) (zip xs ys)
    ∙ ap (λ (n : ℕ). each n (λ k. t (get_or (zip xs ys) k (0, 0)).0 (get_or (zip xs ys) k (0, 0)).1)) (omega (arith, length-zip xs ys, e))
    ∙ each_ext (length xs) _ _ (λ k l. ap (λ (p : ℕ × ℕ). t p.0 p.1) (get_or-zip xs ys k (0, 0) l (omega (arith, e))))
  where
    each_of : (ps : List (ℕ × ℕ)) → list_all (λ (p : ℕ × ℕ). t p.0 p.1) ps ≡ all (λ (p : ℕ × ℕ). t p.0 p.1) ps
    each_of [] = refl
    each_of (p ∷ ps) = ap (λ (b : Bool). t p.0 p.1 && b) (each_of ps)

-- the code's two sides at all points
pub sides : (m n k : ℕ) (inverses weights weighed scales rows lefts sums : List ℕ) (total : ℕ) (r : Bool) → n ≡ m → k ≡ m → length inverses ≡ length weights
    → total ≡ dot_n inverses weights → lefts ≡ dots_of inverses n weighed → sums ≡ dots_of rows k scales
    → r ≡ list_all (λ (p : ℕ × ℕ). eqb p.0 (total * p.1 % q)) (zip lefts sums) → r ≡ each m (weighed_at inverses weights weighed scales rows)
unfolding weighed_at has_value
sides m n k inverses weights weighed scales rows lefts sums total r en ek l d e f g =
    let el : lefts ≡ dots_of inverses m weighed = e ∙ ap (λ (i : ℕ). dots_of inverses i weighed) en in
    let es : sums ≡ dots_of rows m scales = f ∙ ap (λ (i : ℕ). dots_of rows i scales) ek in
    let ll : length lefts ≡ m = ap length el ∙ dots_length inverses m weighed in
    let ls : length sums ≡ m = ap length es ∙ dots_length rows m scales in
    g
    ∙ pairs_all (λ x y. eqb x (total * y % q)) lefts sums (ls ∙ sym ll)
    ∙ ap (λ (i : ℕ). each i (λ p. eqb (get_or lefts p 0) (total * get_or sums p 0 % q))) ll
    ∙ each_ext m _ _ (λ p h. ap₂ eqb
    (ap (λ (t : List ℕ). get_or t p 0) el ∙ dots_entry inverses m weighed p h ∙ ap (λ (i : ℕ). dot_n inverses (piece i p weighed)) l)
    (ap₂ (λ (s t : ℕ). s * t % q) d (ap (λ (t : List ℕ). get_or t p 0) es ∙ dots_entry rows m scales p h)))

-- ---- one leaf

module _ (m near : ℕ) (weights weighed scales rows : List ℕ) where
  -- a run of the table
  pub by_table : (far : ℕ) (table : List ℕ) (r : Bool) → 0 < near → far ≡ near + length weights → far ≤ length table → Filled inv_n table 1 (length table)
      → r ≡ each m (weighed_at (take (far - near) (drop near table)) weights weighed scales rows) → r ≡ weighed_all m near weights weighed scales rows
  unfolding weighed_all
  by_table far table r l e u h f =
      let n : far - near ≡ length weights = omega arith in
      f ∙ ap (λ (t : List ℕ). each m (weighed_at t weights weighed scales rows))
      (ap (λ (k : ℕ). take k (drop near table)) n ∙ run_is near (length weights) table l (omega arith) h)

  -- products of the distances
  pub by_products : (n : ℕ) (products : List ℕ) (r : Bool) → 0 < near → n ≡ length weights → near + length weights ≤ q → products ≡ cofactors_n near n
      → r ≡ each m (weighed_at products weights weighed scales rows) → r ≡ weighed_all m near weights weighed scales rows
  unfolding weighed_all weighed_at
  by_products n products r l e u f g =
      g
      ∙ ap (λ (t : List ℕ). each m (weighed_at t weights weighed scales rows)) (f ∙ ap (cofactors_n near) e)
      ∙ each_ext m _ _ (λ p k. cofactors_test near (length weights) weights (piece (length weights) p weighed) (dot_n rows (piece (length rows) p scales)) l u)

-- with opened leaf a
pub leaf_is : (m first : ℕ) (weights weighed scales indices : List ℕ) (rows : ℕ → List ℕ) (a x near : ℕ) (t : List ℕ) (r : Bool)
    → x ≡ leaf_point (get_or indices a 0) → near ≡ first - x → t ≡ rows a → r ≡ weighed_all m near weights weighed scales t
    → r ≡ weighed_leaf m first weights weighed scales indices rows a
unfolding weighed_leaf
leaf_is m first weights weighed scales indices rows a x near t r e f g h =
    h ∙ ap₂ (λ (k : ℕ) (s : List ℕ). weighed_all m k weights weighed scales s) (f ∙ ap (λ (k : ℕ). first - k) e) g

-- ---- all leaves

pub length-weighed_row : (weights answers : List ℕ) (p : ℕ) → length (weighed_row weights answers p) ≡ length weights
unfolding weighed_row
length-weighed_row weights answers p = length-weighed_n weights (piece (length weights) p answers)

-- answer p is weighed, behind those before it
pub weigh_turn : (weights answers t r : List ℕ) (p : ℕ) → t ≡ rows_of (weighed_row weights answers) p ++ drop (length weights * p) answers
    → r ≡ weighed_n weights (take (length weights * p + length weights - length weights * p) (drop (length weights * p) t)) → r ≡ weighed_row weights answers p
unfolding weighed_row
weigh_turn weights answers t r p e f =
    f
    ∙ ap (weighed_n weights) (part_is (length weights) p t)
    ∙ ap (λ (s : List ℕ). weighed_n weights (take (length weights) s))
    (ap (drop (length weights * p)) e
    ∙ drop_at (rows_of (weighed_row weights answers) p) (drop (length weights * p) answers) (length weights * p) (length-rows (length weights) (weighed_row weights answers) (length-weighed_row weights answers) p))

-- with the weights of consecutive points, weighed answers and the powers of the evaluation points, the test is that of the polynomials through the answers
pub evaluated_is : (first width μ : ℕ) (points answers indices weights weighed scales rest others : List ℕ) (rows : ℕ → List ℕ)
    → 0 < width → width ≤ table_size → first + width < q → Below first indices → ((a : ℕ) → length (rows a) ≡ μ)
    → weights ≡ weights_n width → weighed ≡ rows_of (weighed_row weights answers) (length points) ++ rest → scales ≡ rows_of (powers_at μ points) (length points) ++ others
    → each (length indices) (weighed_leaf (length points) first weights weighed scales indices rows) ≡ each (length indices) (evaluated_leaf first width points answers indices rows)
unfolding weighed_leaf weighed_all evaluated_leaf weighed_at evaluated_at weighed_row
evaluated_is first width μ points answers indices weights weighed scales rest others rows some few high below long ew ea es =
    each_ext (length indices) _ _ (λ a l. each_ext (length points) _ _ (λ p k. one a p l k))
  where
    n : length weights ≡ width
    n = ap length ew ∙ length-weights_n width

    one : (a p : ℕ) → a < length indices → p < length points
        → has_value (inverses_from (first - leaf_point (get_or indices a 0)) (length weights)) weights (piece (length weights) p weighed) (dot_n (rows a) (piece (length (rows a)) p scales))
        ≡ eqb (eval_n (interp_n (up_from first width) (piece width p answers)) (leaf_point (get_or indices a 0))) (eval_n (rows a) (get_or points p 0))
    one a p l k =
        let x : ℕ = leaf_point (get_or indices a 0) in
        let u : x < first = all_at (λ (i : ℕ). i < first) 0 indices below a l in
        ap₂ (has_value (inverses_from (first - x) (length weights)) weights)
        (ap (piece (length weights) p) ea ∙ row_at (length weights) (weighed_row weights answers) (length-weighed_row weights answers) (length points) p rest k)
        (dot_n_comm (rows a) (piece (length (rows a)) p scales) ∙ ap₂ (λ (i : ℕ) (t : List ℕ). dot_n (piece i p t) (rows a)) (long a) es ∙ dot-row μ points (length points) p others (rows a) k (long a))
        ∙ weighed_row_lem x p
        ∙ ap₂ (λ (ws : List ℕ) (i : ℕ). has_value (inverses_from (first - x) i) ws (weighed_n ws (piece i p answers)) (eval_n (rows a) (get_or points p 0))) ew n
        ∙ value_test first x (first - x) width (piece width p answers) (eval_n (rows a) (get_or points p 0)) (omega arith) (omega arith) some few (omega arith) (eval_n_below (rows a) (get_or points p 0))
      where
        weighed_row_lem : (x p : ℕ) → has_value (inverses_from (first - x) (length weights)) weights (weighed_row weights answers p) (eval_n (rows a) (get_or points p 0))
            ≡ has_value (inverses_from (first - x) (length weights)) weights (weighed_n weights (piece (length weights) p answers)) (eval_n (rows a) (get_or points p 0))
        weighed_row_lem x p = refl
