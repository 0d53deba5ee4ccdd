-- A combination of rows, row by row, and the polynomials through the rows.
use mathlib.Core.Path.{◌≡◌, refl, sym, ap, ap₂, ◌∙◌, subst}
use mathlib.Core.List.{List, [], ◌∷◌, map}
use Prim.Native.Nat.{ℕ, suc, ◌+◌, ◌-◌, ◌*◌, ◌%◌, ◌≤◌, ◌<◌}
use native.Mathlib.Nat.{mul-zero, mul-suc, zero-mul, le_of_eq}
use native.Mathlib.Omega.{arith}
use lib.ListN.{length, get_or, take, drop, length-map, drop_of_length-le, set}
use lib.Seq.{ext_get_or, drop-cons}
use Rattle.lists.specs.All.{Distinct}
use Rattle.lists.specs.Range.{up_from, length-up_from, up_from_below, up_from_distinct}
use Rattle.lists.specs.Maps.{get_or-map_in}
use Rattle.lists.specs.Parts.{row_fits, length-piece}
use Rattle.lists.specs.Pieces.{pieces, piece, length-pieces, pieces_at}
use Rattle.lists.specs.Tabulate.{tabulate, tabulate_is}
use Rattle.algebra.specs.Prime.{q}
use Rattle.algebra.specs.Columns.{pow_n}
use Rattle.algebra.specs.Table.{table_size}
use Rattle.algebra.specs.Pairs.{points_end}
use Rattle.algebra.specs.Sums.{sums_of, sums_powers_n}
use Rattle.algebra.specs.Dot.{accumulate_n, accumulate_n_at, length-accumulate_n, dot_n, dots_of}
use Rattle.algebra.specs.Numbers.{eval_n, values_at_n, interp_n, interp_n_values, Elements, Polys}
use Rattle.algebra.specs.Values.{interp_polys}
use Rattle.algebra.specs.Batch.{column_n, honest_n}
use Rattle.scheme.specs.Layers.{combination}
use Rattle.scheme.proofs.HonestAnswers.{combination-length, combination_at, combination_below, combination-batch}

-- ---- a step of Horner's rule over rows

-- the last row: what stood in its place counts nothing
last_row : (n z : ℕ) (r old : List ℕ) → length r ≡ n → length old ≡ n → accumulate_n r 0 old ≡ combination n z (r ∷ [])
unfolding column_n eval_n
last_row n z r old e o =
    ext_get_or 0 (accumulate_n r 0 old) (combination n z (r ∷ [])) (length-accumulate_n r old 0 ∙ e ∙ sym (combination-length n z (r ∷ [])))
    (λ i l.
    let m : i < length r = subst (λ (k : ℕ). i < k) (length-accumulate_n r old 0) l in
    accumulate_n_at r old 0 i (o ∙ sym e) m
    ∙ ap (λ (t : ℕ). (get_or r i 0 + t) % q) (zero-mul (get_or old i 0) ∙ sym (mul-zero z))
    ∙ sym (combination_at n z (r ∷ []) i (subst (λ (k : ℕ). i < k) e m)))

-- a row before others
next_row : (n z : ℕ) (r : List ℕ) (rs : List (List ℕ)) → length r ≡ n → accumulate_n r z (combination n z rs) ≡ combination n z (r ∷ rs)
unfolding column_n eval_n
next_row n z r rs e =
    ext_get_or 0 (accumulate_n r z (combination n z rs)) (combination n z (r ∷ rs)) (length-accumulate_n r (combination n z rs) z ∙ e ∙ sym (combination-length n z (r ∷ rs)))
    (λ i l.
    let m : i < length r = subst (λ (k : ℕ). i < k) (length-accumulate_n r (combination n z rs) z) l in
    let k : i < n = subst (λ (k : ℕ). i < k) e m in
    accumulate_n_at r (combination n z rs) z i (combination-length n z rs ∙ sym e) m
    ∙ ap (λ (t : ℕ). (get_or r i 0 + z * t) % q) (combination_at n z rs i k)
    ∙ sym (combination_at n z (r ∷ rs) i k))

-- ---- the rows one after the other in a list, n elements each

-- the combination of the rows from j on
unfoldable pub combined_from : ℕ → ℕ → ℕ → List ℕ → ℕ → List ℕ
combined_from n μ z x j = combination n z (drop j (pieces n μ x))

pub combined_length : (n μ z : ℕ) (x : List ℕ) (j : ℕ) → length (combined_from n μ z x j) ≡ n
unfolding combined_from
combined_length n μ z x j = combination-length n z (drop j (pieces n μ x))

pub combined_all : (n μ z : ℕ) (x : List ℕ) → combined_from n μ z x 0 ≡ combination n z (pieces n μ x)
unfolding combined_from
combined_all n μ z x = refl

module _ (n μ z : ℕ) (x : List ℕ) (whole : length x ≡ n * μ) where
  row-length : (j : ℕ) → j < μ → length (piece n j x) ≡ n
  row-length j l = length-piece n j x (subst (λ (k : ℕ). n * j + n ≤ k) (sym whole) (row_fits n j μ l))

  rows_from_lem : (j : ℕ) → j < μ → drop j (pieces n μ x) ≡ piece n j x ∷ drop (suc j) (pieces n μ x)
  rows_from_lem j l =
      drop-cons (pieces n μ x) j [] (subst (λ (k : ℕ). j < k) (sym (length-pieces n μ x)) l)
      ∙ ap (λ (r : List ℕ). r ∷ drop (suc j) (pieces n μ x)) (pieces_at n μ j x l)

  pub combined_last : (old : List ℕ) → 0 < μ → length old ≡ n → accumulate_n (take (length x - n * (μ - 1)) (drop (n * (μ - 1)) x)) 0 old ≡ combined_from n μ z x (μ - 1)
  unfolding combined_from
  combined_last old l o =
      let k : suc (μ - 1) ≡ μ = omega arith in
      let w : length x - n * (μ - 1) ≡ n = omega (arith, whole, ap (λ (t : ℕ). n * t) k, mul-suc n (μ - 1)) in
      let none : drop (suc (μ - 1)) (pieces n μ x) ≡ [] = drop_of_length-le (pieces n μ x) (le_of_eq (length-pieces n μ x ∙ sym k)) in
      ap (λ (t : ℕ). accumulate_n (take t (drop (n * (μ - 1)) x)) 0 old) w
      ∙ last_row n z (piece n (μ - 1) x) old (row-length (μ - 1) (omega arith)) o
      ∙ ap (combination n z) (sym (rows_from_lem (μ - 1) (omega arith) ∙ ap (λ (t : List (List ℕ)). piece n (μ - 1) x ∷ t) none))

  pub combined_next : (j : ℕ) → 0 < j → j < μ → accumulate_n (take (n * (j - 1) + n - n * (j - 1)) (drop (n * (j - 1)) x)) z (combined_from n μ z x j) ≡ combined_from n μ z x (j - 1)
  unfolding combined_from
  combined_next j p l =
      let k : j ≡ suc (j - 1) = omega arith in
      let w : n * (j - 1) + n - n * (j - 1) ≡ n = omega arith in
      ap₂ (λ (t i : ℕ). accumulate_n (take t (drop (n * (j - 1)) x)) z (combination n z (drop i (pieces n μ x)))) w k
      ∙ next_row n z (piece n (j - 1) x) (drop (suc (j - 1)) (pieces n μ x)) (row-length (j - 1) (omega arith))
      ∙ ap (combination n z) (sym (rows_from_lem (j - 1) (omega arith)))

-- ---- interpolation is linear

-- at point i of xs the polynomials have the entries i of the rows
entries : (xs : List ℕ) (n : ℕ) → length xs ≡ n → Elements xs → Distinct xs → (es : List (List ℕ)) → Polys n es → (i : ℕ) → i < n
    → column_n es i ≡ values_at_n (map (interp_n xs) es) (get_or xs i 0)
unfolding column_n values_at_n
entries xs n e b d [] h i l = refl
entries xs n e b d (r ∷ rs) h i l =
    ap₂ (λ (a : ℕ) (t : List ℕ). a ∷ t)
    (ap (λ (t : List ℕ). get_or t i 0) (sym (interp_n_values xs r b d h.0.1 (h.0.0 ∙ sym e)))
    ∙ get_or-map_in (λ x. eval_n (interp_n xs r) x) xs i 0 0 (subst (λ (k : ℕ). i < k) (sym e) l))
    (entries xs n e b d rs h.1 i l)

interp-combination : (xs : List ℕ) (n z : ℕ) (es : List (List ℕ)) → length xs ≡ n → Elements xs → Distinct xs → Polys n es → 0 < length es
    → interp_n xs (combination n z es) ≡ combination n z (map (interp_n xs) es)
interp-combination xs n z es e b d h some =
    let ps : List (List ℕ) = map (interp_n xs) es in
    let P : Polys n ps = interp_polys xs n e es h in
    let many : 0 < length ps = subst (λ (k : ℕ). 0 < k) (sym (length-map es (interp_n xs))) some in
    ap (interp_n xs)
    (ext_get_or 0 (combination n z es) (map (λ x. eval_n (values_at_n ps x) z) xs) (combination-length n z es ∙ sym (length-map xs (λ x. eval_n (values_at_n ps x) z) ∙ e))
    (λ i l.
    let m : i < n = subst (λ (k : ℕ). i < k) (combination-length n z es) l in
    combination_at n z es i m
    ∙ ap (λ (t : List ℕ). eval_n t z) (entries xs n e b d es h i m)
    ∙ sym (get_or-map_in (λ x. eval_n (values_at_n ps x) z) xs i 0 0 (subst (λ (k : ℕ). i < k) (sym e) m))))
    ∙ honest_n ps n many P z xs e b d
    ∙ sym (combination-batch n z ps many P)

-- ---- the rows one after the other, each times its power of z

pub sums_combined : (n z : ℕ) (ws x : List ℕ) → ws ≡ tabulate (length ws) (pow_n z) → sums_of ws n x ≡ combination n z (pieces n (length ws) x)
sums_combined n z ws x e =
    let rs : List (List ℕ) = pieces n (length ws) x in
    ap (λ (w : List ℕ). sums_of w n x) e
    ∙ sums_powers_n (length ws) n x z
    ∙ sym (tabulate_is n (λ i. eval_n (column_n rs i) z) (combination n z rs) (combination-length n z rs) (λ i l. combination_at n z rs i l))

-- ---- the batching answer: one interpolation, of the combined rows

pub batching_one : (first n γ : ℕ) (mask : List ℕ) (es : List (List ℕ)) (sum out : List ℕ) → Polys n es → 0 < length es → first + n ≤ q → length mask ≡ n
    → sum ≡ combination n γ es → out ≡ interp_n (up_from first n) sum
    → accumulate_n mask γ out ≡ combination n γ (mask ∷ map (interp_n (up_from first n)) es)
batching_one first n γ mask es sum out polys some u m s o =
    let xs : List ℕ = up_from first n in
    ap (accumulate_n mask γ) (o ∙ ap (interp_n xs) s
    ∙ interp-combination xs n γ es (length-up_from first n) (up_from_below first n q u) (up_from_distinct first n) polys some)
    ∙ next_row n γ mask (map (interp_n xs) es) m

-- what the interpolation of a combination asks
pub interpolation_asks : (first n z : ℕ) (rs : List (List ℕ)) (out s : List ℕ) → first + n ≤ points_end → 0 < n → n ≤ table_size → length out ≡ n → s ≡ combination n z rs
    → (0 < length s) × (first + length s ≤ points_end) × (length s ≤ table_size) × Elements s × (length out ≡ length s)
interpolation_asks first n z rs out s u p l o e =
    let m : length s ≡ n = ap length e ∙ combination-length n z rs in (
      subst (λ (k : ℕ). 0 < k) (sym m) p,
      subst (λ (k : ℕ). first + k ≤ points_end) (sym m) u,
      subst (λ (k : ℕ). k ≤ table_size) (sym m) l,
      subst Elements (sym e) (combination_below n z rs),
      o ∙ sym m,
    )

-- ---- one column

module _ (weights columns out : List ℕ) (e : length out ≡ 1) where
  pub one_column : length weights * length out ≤ length columns → length weights ≤ length columns
  one_column h = let p : length weights * 1 ≤ length columns = subst (λ (k : ℕ). length weights * k ≤ length columns) e h in omega arith

  pub one_sum : (v : ℕ) → v ≡ dot_n weights (take (length weights) columns) → set out 0 v ≡ dots_of weights (length out) columns
  unfolding dots_of pieces
  one_sum v h =
      one_set out e v ∙ ap (λ (x : ℕ). x ∷ []) h ∙ ap (λ (k : ℕ). map (dot_n weights) (pieces (length weights) k columns)) (sym e)
    where
      one_set : (xs : List ℕ) → length xs ≡ 1 → (v : ℕ) → set xs 0 v ≡ v ∷ []
      one_set [] f v = absurd (omega arith)
      one_set (x ∷ []) f v = refl
      one_set (x ∷ y ∷ xs) f v = absurd (omega arith)
