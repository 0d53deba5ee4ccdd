-- The columns of rows and masks: what extrapolating is lent, and the table that it leaves.
use mathlib.Core.Path.{◌≡◌, sym, ap, ap₂, ◌∙◌, subst}
use mathlib.Core.Bool.{true, false}
use mathlib.Core.Logic.{◌⊎◌, inl, inr}
use mathlib.Core.List.{List, [], ◌++◌, map, flatten}
use Prim.Native.Nat.{ℕ, ◌+◌, ◌-◌, ◌*◌, ◌/◌, ◌%◌, ◌≤◌, ◌<◌}
use native.Mathlib.Nat.{not-suc-le-zero, zero-add, mod-lt, div-add-mod, mul-le-mul_left}
use native.Mathlib.Omega.{arith}
use lib.Dec.{ltb}
use lib.ListN.{length, get_or, take, replicate, length-map, length-append, length-replicate, get_or-append}
use lib.Seq.{length-take-le, ext_get_or, get_or-append-add}
use borrow.Author.Tests.{ltb-true, ltb-false}
use Rattle.lists.specs.Choice.{tested}
use Rattle.lists.specs.Maps.{get_or-map_in}
use Rattle.lists.specs.Parts.{row_fits, length-piece}
use Rattle.lists.specs.Range.{up_from, length-up_from, up_from_at, up_from_below, up_from_distinct, at_run, all_run}
use Rattle.lists.specs.All.{Sized}
use Rattle.lists.specs.Pieces.{piece, length-flatten, get_or-flatten}
use Rattle.algebra.specs.Prime.{q}
use Rattle.algebra.specs.Field.{K, of, 𝟎}
use Rattle.algebra.specs.Poly.{eval}
use Rattle.algebra.specs.Interp.{interp, interp_values}
use Rattle.algebra.specs.Numbers.{eval_n, of_eval_n, ofs, ofs-vals, interp_n, interp_n-length, values_at_n, distinct_ofs}
use Rattle.stepping.specs.Lanes.{entry}
use Rattle.extrapolation.specs.Written.{KeptColumns}
use Rattle.extrapolation.proofs.Putting.{small_zeros}
use Rattle.extrapolation.specs.Extrapolated.{Through, Columns, Extrapolated}
use Rattle.scheme.specs.Sizes.{Sizes, SizesInOrder, leaves, rows, width, record_values, points}
use Rattle.scheme.specs.Layers.{Lent, extended, row_polynomials, mask_polynomial}
use Rattle.scheme.specs.Commit.{leaf_values, table_of}
use Rattle.scheme.proofs.Accepted.{leaves-high}
use Rattle.algebra.specs.Values.{values_at_lem, values_append, length_values}
use Rattle.lent.specs.Rows.{CanExtend}
use Rattle.lent.proofs.Rows.{extended-length}
use Rattle.evaluations.specs.Clauses.{Room}
use Rattle.evaluations.specs.Values.{Lane, RowLanes, MaskLanes, row_polynomial}

-- ---- rows

-- the polynomial through a row has the row's values
interp-entry : (n width : ℕ) (row : List ℕ) → n + width ≤ q → length row ≡ width → (t : ℕ) → t < width → eval (interp (ofs (up_from n width)) (ofs row)) (of (n + t)) ≡ of (entry row t)
interp-entry n width row fit len t l =
    ap f (sym (get_or-map_in of (up_from n width) t 0 𝟎 inside ∙ ap of (up_from_at n width t l)))
    ∙ sym (get_or-map_in f (ofs (up_from n width)) t 𝟎 𝟎 (subst (λ (m : ℕ). t < m) (sym (length-map (up_from n width) of)) inside))
    ∙ ap (λ (v : List K). get_or v t 𝟎) (interp_values (ofs (up_from n width)) (ofs row) (length-map row of ∙ len ∙ sym (length-map (up_from n width) of ∙ length-up_from n width))
    (distinct_ofs (up_from n width) (up_from_below n width q fit) (up_from_distinct n width)))
    ∙ get_or-map_in of row t 0 𝟎 (omega (arith, len))
  where
    f : K → K
    f x = eval (interp (ofs (up_from n width)) (ofs row)) x

    inside : t < length (up_from n width)
    inside = omega (arith, length-up_from n width)

-- the lanes of rows are the values of their polynomials
rows_through : (s : Sizes) (l : Lent) → CanExtend s l.coefficients l.tails l.blinds → SizesInOrder s → (lo lanes w n : ℕ) (values : List ℕ) → lo + lanes ≤ rows s → w ≡ width s → n ≡ leaves s
    → RowLanes s l lo lanes values → Through (λ (j : ℕ). row_polynomial s l (lo + j)) values w n lanes
unfolding RowLanes Lane Through interp_n
rows_through s l can g lo lanes w n values u hw hn h j b = (omega (arith, short, hw), λ t k. value t k)
  where
    row : List ℕ
    row = extended s l (lo + j)

    len : length (extended s l (lo + j)) ≡ width s
    len = extended-length s l can (lo + j) (omega arith)

    short : length (row_polynomial s l (lo + j)) ≡ width s
    short = interp_n-length (points s) (extended s l (lo + j)) (len ∙ sym (length-up_from (leaves s) (width s))) ∙ length-up_from (leaves s) (width s)

    value : (t : ℕ) → t < w → of (entry values (4 * t + j)) ≡ of (eval_n (row_polynomial s l (lo + j)) (n + t))
    value t k =
        ap of (h j b t (omega arith))
        ∙ sym (interp-entry (leaves s) (width s) (extended s l (lo + j)) (omega (arith, leaves-high s g, g.columns-high, g.ℓ-high)) len t (omega arith))
        ∙ ap (λ (p : List K). eval p (of (leaves s + t))) (sym (ofs-vals (interp (ofs (points s)) (ofs (extended s l (lo + j))))))
        ∙ sym (of_eval_n (row_polynomial s l (lo + j)) (leaves s + t))
        ∙ ap (λ (m : ℕ). of (eval_n (row_polynomial s l (lo + j)) (m + t))) (sym hn)

pub columns_none : (p : ℕ → List ℕ) (n stride : ℕ) (table : List ℕ) → Columns p 0 n 0 stride table
unfolding Columns
columns_none p n stride table x j l h = absurd (not-suc-le-zero h)

-- columns below lo are kept, and the next ones are filled
columns_more : (p : ℕ → List ℕ) (src : List ℕ) (w n stride lo lanes : ℕ) (t t' : List ℕ) → lo + lanes ≤ stride
    → Columns p lo n 0 stride t → KeptColumns stride lo lanes t t' → Extrapolated src w lanes n lo stride t' → Through (λ (j : ℕ). p (lo + j)) src w n lanes
    → Columns p (lo + lanes) n 0 stride t'
unfolding Columns KeptColumns Extrapolated
columns_more p src w n stride lo lanes t t' u old kept new through x j b h = go (tested (ltb j lo))
  where
    go : (ltb j lo ≡ true) ⊎ (ltb j lo ≡ false) → entry t' (x * stride + (0 + j)) ≡ eval_n (p j) x
    go (inl e) =
        let s : j < lo = ltb-true j lo e in
        (kept x (0 + j) (omega arith)).0 (omega arith) ∙ old x j b s
    go (inr e) =
        let s : lo ≤ j = ltb-false j lo e in
        let r : lo + (j - lo) ≡ j = omega arith in
        let z : x * stride + (0 + j) ≡ x * stride + (lo + (j - lo)) = omega arith in
        ap (entry t') z ∙ new (λ (i : ℕ). p (lo + i)) through x (j - lo) b (omega arith) ∙ ap (λ (i : ℕ). eval_n (p i) x) r

-- the lanes of rows from lo on continue the columns
pub rows_more : (s : Sizes) (l : Lent) → CanExtend s l.coefficients l.tails l.blinds → SizesInOrder s → (lo lanes w n k : ℕ) (values t t' : List ℕ) → lo + lanes ≤ rows s
    → w ≡ width s → n ≡ leaves s → k ≡ record_values s → RowLanes s l lo lanes values → Columns (row_polynomial s l) lo n 0 k t → KeptColumns k lo lanes t t'
    → Extrapolated values w lanes n lo k t' → Columns (row_polynomial s l) (lo + lanes) n 0 k t'
rows_more s l can g lo lanes w n k values t t' u hw hn hk lane old kept new =
    columns_more (row_polynomial s l) values w n k lo lanes t t' (omega (arith, u, hk)) old kept new (rows_through s l can g lo lanes w n values u hw hn lane)

-- ---- masks

masks_through : (masks : List ℕ) (eta w n : ℕ) (values : List ℕ) → length masks ≡ eta * w → MaskLanes n masks w eta w values → Through (λ (k : ℕ). piece w k masks) values w n eta
unfolding MaskLanes Through
masks_through masks eta w n values len h j b = (omega (arith, short), λ t k. ap of (h t j k b))
  where
    short : length (piece w j masks) ≡ w
    short = length-piece w j masks (omega (arith, len, row_fits w j eta b))

-- ---- what gathering asks, and the columns that are left

module _ (s : Sizes) (g : SizesInOrder s) (n w k : ℕ) (hn : n ≡ leaves s) (hw : w ≡ width s) (hk : k ≡ record_values s) where
  width-high : w ≤ 320
  width-high = omega (arith, hw, g.ℓ-high, g.columns-high)

  leaves_most : n ≤ 4096
  leaves_most = omega (arith, hn, leaves-high s g)

  pub front_count : (weights : List ℕ) → width s ≤ length weights → length (take w weights) ≡ w
  front_count weights l = length-take-le w weights (omega arith)

  pub masks_asked : (c : ℕ) (masks values : List ℕ) → c ≡ w → length masks ≡ s.η * width s → 4 * width s ≤ length values
      → (n + c ≤ q) × (c ≤ 320) × (c * s.η ≤ length masks) × (s.η ≤ 4) × (4 * c ≤ length values)
  masks_asked c masks values e len room = (
    omega (arith, leaves_most, width-high, e),
    omega (arith, width-high, e),
    subst (λ (m : ℕ). m * s.η ≤ length masks) (sym (e ∙ hw)) (omega (arith, len)),
    g.η-high,
    omega arith,
  )

  pub row-columns : (l : Lent) (m : ℕ) (table : List ℕ) → Columns (row_polynomial s l) m n 0 k table → Columns (row_polynomial s l) m (leaves s) 0 (record_values s) table
  row-columns l m table h = subst (λ (b : ℕ). Columns (row_polynomial s l) m (leaves s) 0 b table) hk (subst (λ (a : ℕ). Columns (row_polynomial s l) m a 0 k table) hn h)

  pub mask_columns : (c at : ℕ) (masks values table : List ℕ) → c ≡ w → at ≡ rows s → length masks ≡ s.η * width s → MaskLanes n masks c s.η c values
      → Extrapolated values w s.η n at k table → Columns (λ (j : ℕ). piece (width s) j masks) s.η (leaves s) (rows s) (record_values s) table
  unfolding Extrapolated
  mask_columns c at masks values table e f len lanes h =
      subst (λ (b : ℕ). Columns (λ (j : ℕ). piece (width s) j masks) s.η (leaves s) (rows s) b table) hk
      (subst (λ (b : ℕ). Columns (λ (j : ℕ). piece (width s) j masks) s.η (leaves s) b k table) f
      (subst (λ (a : ℕ). Columns (λ (j : ℕ). piece (width s) j masks) s.η a at k table) hn
      (subst (λ (d : ℕ). Columns (λ (j : ℕ). piece d j masks) s.η n at k table) hw
      (h (λ (j : ℕ). piece w j masks)
      (masks_through masks s.η w n values (len ∙ ap (λ (d : ℕ). s.η * d) (sym hw)) (subst (λ (d : ℕ). MaskLanes n masks d s.η d values) e lanes))))))

  pub kept-columns : (at : ℕ) (t t' : List ℕ) → at ≡ rows s → KeptColumns k at s.η t t' → KeptColumns (record_values s) (rows s) s.η t t'
  kept-columns at t t' f h = subst (λ (b : ℕ). KeptColumns b (rows s) s.η t t') hk (subst (λ (b : ℕ). KeptColumns k b s.η t t') f h)

-- zeros are room enough
pub room_of_zeros : (w n : ℕ) → 20 * ((w + 4) / 5) ≤ n → Room w (replicate n 0) (replicate n 0)
room_of_zeros w n l = record {
  points = omega (arith, l, length-replicate {A = ℕ} n 0);
  orders = subst (λ (m : ℕ). 20 * ((w + 4) / 5) ≤ m) (sym (length-replicate {A = ℕ} n 0)) l;
  small = small_zeros n;
}

-- ---- the whole table, column by column

-- a list of n rows of k cells, cell by cell
cells_are : (f : ℕ → List ℕ) (k n : ℕ) (t : List ℕ) → 0 < k → ((i : ℕ) → length (f i) ≡ k) → length t ≡ k * n
    → ((x c : ℕ) → x < n → c < k → entry t (x * k + c) ≡ entry (f x) c) → t ≡ flatten (map f (up_from 0 n))
cells_are f k n t pos sized len cell = ext_get_or 0 t (flatten (map f (up_from 0 n))) (len ∙ sym whole) (λ m l. at m l (tested (ltb (m / k) n)))
  where
    parts : Sized k (map f (up_from 0 n))
    parts = all_run (λ (x : List ℕ). length x ≡ k) f n (λ i b. sized i)

    many : length (map f (up_from 0 n)) ≡ n
    many = length-map (up_from 0 n) f ∙ length-up_from 0 n

    whole : length (flatten (map f (up_from 0 n))) ≡ k * n
    whole = length-flatten k (map f (up_from 0 n)) parts ∙ ap (λ (m : ℕ). k * m) many

    at : (m : ℕ) → m < length t → (ltb (m / k) n ≡ true) ⊎ (ltb (m / k) n ≡ false) → entry t m ≡ entry (flatten (map f (up_from 0 n))) m
    at m l (inl h) =
        let s : m / k < n = ltb-true (m / k) n h in
        let c : m % k < k = mod-lt m pos in
        let e : m ≡ m / k * k + m % k = omega (arith, div-add-mod m k) in
        ap (entry t) e
        ∙ cell (m / k) (m % k) s c
        ∙ ap (λ (r : List ℕ). entry r (m % k)) (sym (at_run f 0 n (m / k) [] s ∙ ap f (zero-add (m / k))))
        ∙ sym (get_or-flatten k (map f (up_from 0 n)) (m / k) (m % k) 0 parts (subst (λ (i : ℕ). m / k < i) (sym many) s) c)
        ∙ ap (entry (flatten (map f (up_from 0 n)))) (sym e)
    at m l (inr h) =
        let s : n ≤ m / k = ltb-false (m / k) n h in
        absurd (not-suc-le-zero {n = 0} (omega (arith, div-add-mod m k, mul-le-mul_left k s)))

rows_count : (s : Sizes) (l : Lent) → length (row_polynomials s l) ≡ rows s
rows_count s l = length-map (map (extended s l) (up_from 0 (rows s))) (interp_n (points s)) ∙ length-map (up_from 0 (rows s)) (extended s l) ∙ length-up_from 0 (rows s)

row_at : (s : Sizes) (l : Lent) (c : ℕ) → c < rows s → get_or (row_polynomials s l) c [] ≡ row_polynomial s l c
row_at s l c m =
    get_or-map_in (interp_n (points s)) (map (extended s l) (up_from 0 (rows s))) c [] [] (subst (λ (i : ℕ). c < i) (sym (length-map (up_from 0 (rows s)) (extended s l) ∙ length-up_from 0 (rows s))) m)
    ∙ ap (interp_n (points s)) (at_run (extended s l) 0 (rows s) c [] m ∙ ap (extended s l) (zero-add c))

values_length_lem : (s : Sizes) (l : Lent) (i : ℕ) → length (leaf_values s l i) ≡ record_values s
unfolding leaf_values
values_length_lem s l i =
    length_values (row_polynomials s l ++ map (mask_polynomial s l) (up_from 0 s.η)) i
    ∙ length-append (row_polynomials s l) (map (mask_polynomial s l) (up_from 0 s.η))
    ∙ ap₂ ◌+◌ (rows_count s l) (length-map (up_from 0 s.η) (mask_polynomial s l) ∙ length-up_from 0 s.η)

pub table_filled : (s : Sizes) (l : Lent) (t₁ t₂ : List ℕ) → 0 < s.η
    → Columns (row_polynomial s l) (rows s) (leaves s) 0 (record_values s) t₁ → KeptColumns (record_values s) (rows s) s.η t₁ t₂
    → Columns (λ (k : ℕ). piece (width s) k l.masks) s.η (leaves s) (rows s) (record_values s) t₂ → length t₂ ≡ leaves s * record_values s
    → t₂ ≡ table_of s l
unfolding Columns KeptColumns leaf_values table_of
table_filled s l t₁ t₂ pos first kept second len =
    cells_are (leaf_values s l) (record_values s) (leaves s) t₂ (omega arith) (values_length_lem s l) (len ∙ omega arith) (λ x c u h. at x c u h (tested (ltb c (rows s))))
  where
    at : (x c : ℕ) → x < leaves s → c < record_values s → (ltb c (rows s) ≡ true) ⊎ (ltb c (rows s) ≡ false)
        → entry t₂ (x * record_values s + c) ≡ entry (values_at_n (row_polynomials s l ++ map (mask_polynomial s l) (up_from 0 s.η)) x) c
    at x c u h (inl e) =
        let m : c < rows s = ltb-true c (rows s) e in
        (kept x c h).0 m
        ∙ ap (λ (i : ℕ). entry t₁ (x * record_values s + i)) (sym (zero-add c))
        ∙ first x c u m
        ∙ ap (λ (p : List ℕ). eval_n p x) (sym (row_at s l c m))
        ∙ sym (values_at_lem (row_polynomials s l) x c (subst (λ (i : ℕ). c < i) (sym (rows_count s l)) m))
        ∙ sym (get_or-append (values_at_n (row_polynomials s l) x) (values_at_n (map (mask_polynomial s l) (up_from 0 s.η)) x) 0 c (subst (λ (i : ℕ). c < i) (sym (length_values (row_polynomials s l) x ∙ rows_count s l)) m))
        ∙ ap (λ (v : List ℕ). entry v c) (sym (values_append (row_polynomials s l) (map (mask_polynomial s l) (up_from 0 s.η)) x))
    at x c u h (inr e) =
        let m : rows s ≤ c = ltb-false c (rows s) e in
        let d : c ≡ rows s + (c - rows s) = omega arith in
        let b : c - rows s < s.η = omega arith in
        ap (λ (i : ℕ). entry t₂ (x * record_values s + i)) d
        ∙ second x (c - rows s) u b
        ∙ ap (λ (p : List ℕ). eval_n p x) (sym (at_run (mask_polynomial s l) 0 s.η (c - rows s) [] b ∙ ap (mask_polynomial s l) (zero-add (c - rows s))))
        ∙ sym (values_at_lem (map (mask_polynomial s l) (up_from 0 s.η)) x (c - rows s) (subst (λ (i : ℕ). c - rows s < i) (sym (length-map (up_from 0 s.η) (mask_polynomial s l) ∙ length-up_from 0 s.η)) b))
        ∙ sym (get_or-append-add (values_at_n (row_polynomials s l) x) (values_at_n (map (mask_polynomial s l) (up_from 0 s.η)) x) (c - rows s) 0)
        ∙ ap₂ (λ (v : List ℕ) (i : ℕ). entry v i) (sym (values_append (row_polynomials s l) (map (mask_polynomial s l) (up_from 0 s.η)) x))
        (ap (λ (i : ℕ). i + (c - rows s)) (length_values (row_polynomials s l) x ∙ rows_count s l) ∙ sym d)
