-- The columns of the matrix, summed over its rows with the powers of a point as weights: from the coefficients and the blinds as they are lent.
use mathlib.Core.Path.{◌≡◌, refl, sym, ap, ap₂, ◌∙◌, subst}
use mathlib.Core.List.{List, [], ◌++◌, map, map-map, Memᴰ as Mem}
use Prim.Native.Nat.{ℕ, zero, suc, ◌+◌, ◌-◌, ◌*◌, ◌%◌, ◌≤◌, ◌<◌}
use native.Mathlib.Nat.{zero-add, mul_comm, mul-zero}
use native.Mathlib.Numerals.{add-one}
use native.Mathlib.Omega.{arith}
use lib.ListN.{length, get_or, take, drop, length-map, length-drop}
use lib.Seq.{take_at, take-take, drop-drop, length-take-le, ext_get_or}
use Rattle.lists.specs.Fill.{Filled}
use Rattle.lists.specs.Maps.{map_cong}
use Rattle.lists.specs.Parts.{row_fits, part_is, mid_tail}
use Rattle.lists.specs.Pieces.{piece, pieces, pieces-run, drop-take}
use Rattle.lists.specs.Range.{up_from, length-up_from, up_from_of, run-parts, at_run}
use Rattle.lists.specs.Rows.{rows_of, rows_none, rows_next}
use Rattle.lists.specs.Tabulate.{tabulate, tabulate_from, length_from, split_from, get_d_tabulate}
use Rattle.algebra.specs.Prime.{q}
use Rattle.algebra.specs.Columns.{pow_n}
use Rattle.algebra.specs.Dot.{longest, dot_n, dot_n_below, dots_of, dots_entry, dot_powers_n}
use Rattle.algebra.specs.Numbers.{eval_n}
use Rattle.scheme.specs.Sizes.{Sizes, rows, columns, coefficient_count}
use Rattle.scheme.specs.Matrix.{polynomial, blinding_rows, lowered_by, column_of}
use Rattle.scheme.specs.Layers.{Lent, column}
use Rattle.lent.specs.Partly.{lent_rows}
use Rattle.scheme.proofs.Lent.{Counted}
use Rattle.scheme.proofs.Columns.{lent_blinds, top_coefficients_lem, part_length, blinding_length, column_of-length, column_value_is, columns_are, column-length}
use Rattle.scheme.proofs.Entries.{column_unblinded}
use Rattle.lent.specs.Rows.{CanLayOut}
use Rattle.lent.proofs.Rows.{counted}
use Rattle.column_sums.specs.Sums.{Powers, polynomial_sums, column_sums}

-- ---- the sum over the blinding rows of the column before column t of polynomial i

unfoldable pub sum_before : Sizes → List ℕ → List ℕ → List ℕ → ℕ → ℕ → ℕ
sum_before s c d ws i zero = 0
sum_before s c d ws i (suc t) = dot_n (take s.β ws) (blinding_rows s c d i t)

module _ (s : Sizes) (c d ws : List ℕ) (i : ℕ) where
  pub none_before : 0 ≡ sum_before s c d ws i 0
  unfolding sum_before
  none_before = refl

  pub before_next : (t v : ℕ) → v ≡ dot_n (take s.β ws) (blinding_rows s c d i t) → v ≡ sum_before s c d ws i (t + 1)
  unfolding sum_before
  before_next t v e = e ∙ ap (sum_before s c d ws i) (sym (add-one t))

  pub before_below : (t : ℕ) → sum_before s c d ws i t ≤ q
  unfolding sum_before
  before_below zero = omega arith
  before_below (suc t) = omega (arith, dot_n_below (take s.β ws) (blinding_rows s c d i t))

  pub sums-sized : length (polynomial_sums s c d ws i) ≡ s.ν
  sums-sized = length-map (up_from 0 s.ν) _ ∙ length-up_from 0 s.ν

  -- all of them written
  pub sums-filled : (out : List ℕ) (n : ℕ) → n ≡ s.ν → length out ≡ n → Filled (λ t. dot_n ws (column_of s c d i t)) out 0 n → out ≡ polynomial_sums s c d ws i
  sums-filled out n hn l h =
      ext_get_or 0 out (polynomial_sums s c d ws i) (l ∙ hn ∙ sym sums-sized)
      (λ t m.
      let lt : t < s.ν = omega (arith, l, hn) in
      h t (omega arith) (omega (arith, hn)) ∙ sym (at_run (λ t. dot_n ws (column_of s c d i t)) 0 s.ν t 0 lt ∙ ap (λ (j : ℕ). dot_n ws (column_of s c d i j)) (zero-add t)))

-- ---- the columns from what is lent

module _ (s : Sizes) (c d : List ℕ) (h : CanLayOut s c d) where
  abbrev k : Counted s c d
  k = counted h

  -- ---- where the blinding rows stand

  module _ (i t : ℕ) (li : i < s.w) (lt : t < s.ν) where
    module _ (more : t < s.ν - 1) where
      pub blinds_fit : s.β * (i * (s.ν - 1) + t) + s.β ≤ length d
      blinds_fit =
          let inside : i * (s.ν - 1) + t < s.w * (s.ν - 1) = omega (arith, row_fits (s.ν - 1) i s.w li) in
          omega (arith, row_fits s.β (i * (s.ν - 1) + t) (s.w * (s.ν - 1)) inside, h.blinds_length)

      pub blinds_there : take (s.β * (i * (s.ν - 1) + t) + s.β - s.β * (i * (s.ν - 1) + t)) (drop (s.β * (i * (s.ν - 1) + t)) d) ≡ blinding_rows s c d i t
      blinds_there = part_is s.β (i * (s.ν - 1) + t) d ∙ sym (lent_blinds s c d i t (omega arith))

    module _ (v : ℕ) (e : v ≡ coefficient_count s) where
      pub top_fits : v * i + s.μ * s.ν + s.β ≤ length c
      top_fits = omega (arith, ap (λ (n : ℕ). n * i) e, row_fits (coefficient_count s) i s.w li, h.coefficients_length)

      pub top_there : s.ν - 1 ≤ t → take (v * i + s.μ * s.ν + s.β - (v * i + s.μ * s.ν)) (drop (v * i + s.μ * s.ν) c) ≡ blinding_rows s c d i t
      top_there l =
          let n : v * i + s.μ * s.ν + s.β - (v * i + s.μ * s.ν) ≡ s.β = omega arith in
          ap₂ (λ (x y : ℕ). take x (drop (y * i + s.μ * s.ν) c)) n e
          ∙ ap (take s.β) (sym (drop-drop (s.μ * s.ν) (coefficient_count s * i) c))
          ∙ sym (drop-take (s.μ * s.ν) s.β (drop (coefficient_count s * i) c))
          ∙ sym (top_coefficients_lem s c d i t (omega arith))

  -- ---- weights

  module _ (ws : List ℕ) (p : Powers (rows s) ws) where
    abbrev z : ℕ
    z = p.point

    pub weights_count : length ws ≡ rows s
    weights_count = ap length p.are ∙ length_from 0 (rows s) (pow_n z)

    pub front_count : (n : ℕ) → n ≤ rows s → n ≡ length (take n ws)
    front_count n l = sym (length-take-le n ws (omega (arith, weights_count)))

    front_powers : (n : ℕ) → n ≤ rows s → take n ws ≡ tabulate n (pow_n z)
    front_powers n l =
        let e : rows s ≡ n + (rows s - n) = omega arith in
        ap (take n) (p.are ∙ ap (λ (m : ℕ). tabulate m (pow_n z)) e ∙ split_from 0 n (rows s - n) (pow_n z))
        ∙ take_at (tabulate n (pow_n z)) (tabulate_from (0 + n) (rows s - n) (pow_n z)) n (length_from 0 n (pow_n z))

    -- with the first n of them, the value of a polynomial
    front_value : (n : ℕ) (x : List ℕ) → n ≤ rows s → length x ≡ n → dot_n (take n ws) x ≡ eval_n x z
    front_value n x l e = ap (λ (w : List ℕ). dot_n w x) (front_powers n l ∙ ap (λ (m : ℕ). tabulate m (pow_n z)) (sym e)) ∙ dot_powers_n x z

    all_value : (x : List ℕ) → length x ≡ rows s → dot_n ws x ≡ eval_n x z
    all_value x e = ap (λ (w : List ℕ). dot_n w x) (p.are ∙ ap (λ (m : ℕ). tabulate m (pow_n z)) (sym e)) ∙ dot_powers_n x z

    -- ---- the columns of polynomial i

    module _ (i : ℕ) (li : i < s.w) where
      lowered-sum : (t : ℕ) → t < s.ν → eval_n (lowered_by s c d i t) z ≡ sum_before s c d ws i t
      unfolding lowered_by eval_n sum_before
      lowered-sum zero l = refl
      lowered-sum (suc t) l =
          ap (λ (x : List ℕ). eval_n x z) (sym (lent_blinds s c d i t l))
          ∙ sym (front_value s.β (blinding_rows s c d i t) (omega arith) (blinding_length s c d k i t li (omega arith)))

      -- x the sum over the rows of coefficients, y what lowers it, b the sum over the blinding rows
      pub column-sum : (t x y b u v : ℕ) → t < s.ν → 0 < s.β → x ≡ dot_n (take s.μ ws) (piece s.μ t (polynomial s c d i)) → y ≡ sum_before s c d ws i t
          → b ≡ dot_n (take s.β ws) (blinding_rows s c d i t) → u ≡ (x + (q - y)) % q → v ≡ (u + get_or ws s.μ 0 * b) % q → v ≡ dot_n ws (column_of s c d i t)
      column-sum t x y b u v lt some hx hy hb hu hv =
          let X : List ℕ = piece s.μ t (polynomial s c d i) in
          let B : List ℕ = blinding_rows s c d i t in
          hv
          ∙ ap (λ (n : ℕ). (n + get_or ws s.μ 0 * b) % q) hu
          ∙ once (x + (q - y)) (get_or ws s.μ 0 * b)
          ∙ ap₂ (λ (m n : ℕ). (m + (q - n) + get_or ws s.μ 0 * b) % q) (hx ∙ front_value s.μ X (omega arith) (part_length s c d k i t li lt)) (hy ∙ sym (lowered-sum t lt))
          ∙ ap₂ (λ (m n : ℕ). (eval_n X z + (q - eval_n (lowered_by s c d i t) z) + m * n) % q)
          (ap (λ (w : List ℕ). get_or w s.μ 0) p.are ∙ get_d_tabulate (rows s) (pow_n z) s.μ (omega arith))
          (hb ∙ front_value s.β B (omega arith) (blinding_length s c d k i t li lt))
          ∙ sym (column_value_is s c d k h.blinds_below z i t li lt)
          ∙ sym (all_value (column_of s c d i t) (column_of-length s c d k i t li lt))
        where
          once : (m n : ℕ) → (m % q + n) % q ≡ (m + n) % q
          once m n = omega arith

      many : length (take s.μ ws) ≡ s.μ
      many = sym (front_count s.μ (omega arith))

      part_kept : (t : ℕ) → t < s.ν → piece s.μ t (polynomial s c d i) ≡ piece s.μ t (drop (coefficient_count s * i) c)
      part_kept t lt =
          let y : List ℕ = drop (coefficient_count s * i) c in
          let r : ℕ = coefficient_count s - s.μ * t in
          let b : s.μ * t + s.μ ≤ s.μ * s.ν = row_fits s.μ t s.ν lt in
          let n : coefficient_count s ≡ s.μ * t + r = omega arith in
          ap (λ (m : ℕ). take s.μ (drop (s.μ * t) (take m y))) n
          ∙ ap (take s.μ) (drop-take (s.μ * t) r y)
          ∙ take-take s.μ r (drop (s.μ * t) y) (omega arith)

      -- the coefficients from the first of polynomial i on
      module _ (v : ℕ) (e : v ≡ coefficient_count s) where
        pub polynomial_fits : v * i + s.μ * s.ν ≤ length c
        polynomial_fits = omega (arith, ap (λ (n : ℕ). n * i) e, row_fits (coefficient_count s) i s.w li, h.coefficients_length)

        pub polynomial_asks : (n : ℕ) → n ≡ s.ν
            → (length (take s.μ ws) * n ≤ length (take (length c - v * i) (drop (v * i) c))) × (length (take s.μ ws) ≤ longest)
        polynomial_asks n hn = (
          subst (λ (m : ℕ). m * n ≤ length (take (length c - v * i) (drop (v * i) c))) (sym many)
              (omega (arith, ap (λ (m : ℕ). s.μ * m) hn, ap length (mid_tail (v * i) c) ∙ length-drop (v * i) c, polynomial_fits)),
          omega (arith, many, h.sizes.μ_high),
        )

        pub coefficients_sum : (n t : ℕ) → n ≡ s.ν → t < n
            → get_or (dots_of (take s.μ ws) n (take (length c - v * i) (drop (v * i) c))) t 0 ≡ dot_n (take s.μ ws) (piece s.μ t (polynomial s c d i))
        coefficients_sum n t hn lt =
            let W : List ℕ = take s.μ ws in
            dots_entry W n (take (length c - v * i) (drop (v * i) c)) t lt
            ∙ ap₂ (λ (m : ℕ) (x : List ℕ). dot_n W (piece m t x)) many (mid_tail (v * i) c ∙ ap (λ (m : ℕ). drop (m * i) c) e)
            ∙ ap (dot_n W) (sym (part_kept t (omega arith)))

    -- ---- all columns

    abbrev lent : Lent
    lent = lent_rows c [] d

    column_in : (a : ℕ) → Mem a (up_from 0 (columns s)) → a < columns s
    column_in a m = subst (λ (n : ℕ). a < n) (zero-add (columns s)) (up_from_of 0 (columns s) a m).1

    -- polynomial by polynomial
    pub columns_by_polynomials : rows_of (polynomial_sums s c d ws) s.w ≡ column_sums s c d ws
    unfolding up_from
    columns_by_polynomials = go s.w ∙ ap (λ (n : ℕ). map (λ a. dot_n ws (column s lent a)) (up_from 0 n)) (mul_comm s.ν s.w)
      where
        one : (i : ℕ) → polynomial_sums s c d ws i ≡ map (λ a. dot_n ws (column s lent a)) (up_from (s.ν * i) s.ν)
        one i =
            let e : s.ν * i + 0 ≡ s.ν * i = omega arith in
            sym (map-map (dot_n ws) (column_of s c d i) (up_from 0 s.ν))
            ∙ ap (map (dot_n ws)) (sym (columns_are s lent i s.ν 0 (omega arith)))
            ∙ map-map (dot_n ws) (column s lent) (up_from (s.ν * i + 0) s.ν)
            ∙ ap (λ (n : ℕ). map (λ a. dot_n ws (column s lent a)) (up_from n s.ν)) e

        go : (n : ℕ) → rows_of (polynomial_sums s c d ws) n ≡ map (λ a. dot_n ws (column s lent a)) (up_from 0 (s.ν * n))
        go zero = rows_none (polynomial_sums s c d ws) ∙ ap (λ (n : ℕ). map (λ a. dot_n ws (column s lent a)) (up_from 0 n)) (sym (mul-zero s.ν))
        go (suc n) =
            let f : ℕ → ℕ = λ a. dot_n ws (column s lent a) in
            let e : s.ν * n + s.ν ≡ s.ν * suc n = omega arith in
            ap (rows_of (polynomial_sums s c d ws)) (sym (add-one n))
            ∙ rows_next (polynomial_sums s c d ws) n
            ∙ ap₂ (λ (x y : List ℕ). x ++ y) (go n) (one n ∙ ap (λ (m : ℕ). map f (up_from m s.ν)) (sym (zero-add (s.ν * n))))
            ∙ sym (run-parts f 0 (s.ν * n) s.ν)
            ∙ ap (λ (m : ℕ). map f (up_from 0 m)) e

    -- without blinding rows one after the other
    module _ (none : s.β ≡ 0) (n : ℕ) (hn : n ≡ columns s) where
      weights_few : length ws ≡ s.μ
      weights_few = omega (arith, weights_count, none)

      pub unblinded_asks : (length ws * n ≤ length c) × (length ws ≤ longest)
      unblinded_asks = (
        subst (λ (m : ℕ). m * n ≤ length c) (sym weights_few) (omega (arith, ap (λ (m : ℕ). s.μ * m) hn, h.coefficients_length)),
        omega (arith, weights_few, h.sizes.μ_high),
      )

      pub unblinded_sums : dots_of ws n c ≡ column_sums s c d ws
      unfolding dots_of
      unblinded_sums =
          ap₂ (λ (a b : ℕ). map (dot_n ws) (pieces a b c)) weights_few hn
          ∙ ap (map (dot_n ws)) (sym (pieces-run s.μ 0 (columns s) c ∙ ap (λ (j : ℕ). pieces s.μ (columns s) (drop j c)) (mul-zero s.μ)))
          ∙ map-map (dot_n ws) (λ j. piece s.μ j c) (up_from 0 (columns s))
          ∙ map_cong (up_from 0 (columns s)) (λ a m. ap (dot_n ws) (sym (column_unblinded s lent k none a (column_in a m))))

    -- the values of the columns
    pub columns_values : column_sums s c d ws ≡ map (λ a. eval_n (column s lent a) z) (up_from 0 (columns s))
    columns_values = map_cong (up_from 0 (columns s)) (λ a m. all_value (column s lent a) (column-length s lent k a (column_in a m)))
