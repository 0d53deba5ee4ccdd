-- The columns of a polynomial: an element for each row, the value of each at a point, and the polynomial's value from theirs.
use mathlib.Core.Path.{◌≡◌, refl, sym, ap, ap₂, ◌∙◌}
use mathlib.Core.Bool.{Bool, true, false}
use mathlib.Core.List.{List, [], ◌∷◌, ◌++◌, map}
use Prim.Native.Nat.{ℕ, zero, suc, ◌+◌, ◌-◌, ◌*◌, ◌/◌, ◌%◌, ◌≤◌, ◌<◌}
use native.Mathlib.Nat.{zero-add, add-zero, mul-add-div, div-eq_of_lt, mul-add-mod_self_left, mod-eq_of_lt, mod-lt, div-lt_iff_lt-mul}
use native.Mathlib.Omega.{arith}
use lib.Dec.{ltb}
use borrow.Author.Tests.{ltb-true, lt-ltb, le-ltb}
use lib.ListN.{length, drop, length-map, length-append, length-take, length-drop}
use Rattle.lists.specs.Choice.{pick}
use Rattle.lists.specs.Range.{up_from}
use Rattle.lists.specs.All.{all_append, all_drop}
use Rattle.lists.specs.Pieces.{piece}
use Rattle.lists.specs.Parts.{row_fits, length-piece}
use Rattle.algebra.specs.Prime.{q}
use Rattle.algebra.specs.Field.{K, of, of_zero, of_inj, of_add, of_mul, ◌⊕◌, ◌⊗◌, 𝟎, ⊕-zero}
use Rattle.algebra.specs.Poly.{eval}
use Rattle.algebra.specs.Rows.{power, eval-append}
use Rattle.algebra.specs.Numbers.{eval_n, eval_n_below, of_eval_n, of_injective, ofs, ofs-append, values_at_n, Elements}
use Rattle.algebra.specs.Columns.{pow_n, of_pow_n}
use Rattle.algebra.specs.Values.{ofs_values, piece_below, pieces_value}
use Rattle.algebra.specs.Lowered.{lowered, lowered-length, lowered_below, lowered_value}
use Rattle.algebra.specs.Telescope.{first_out, telescope}
use Rattle.scheme.specs.Sizes.{Sizes, columns, rows, coefficient_count}
use Rattle.scheme.specs.Matrix.{polynomial, top_coefficients, blinds_of, blinding_rows, lowered_by, column_of}
use Rattle.scheme.specs.Layers.{Lent, column}
use Rattle.scheme.proofs.Lent.{Counted, LentFacts, counted}

module _ (s : Sizes) (c d : List ℕ) where
  -- ---- the blinding rows, and what lowers the next column

  -- of every column but the last they are its blinds, ..
  pub lent_blinds : (i t : ℕ) → suc t < s.ν → blinding_rows s c d i t ≡ blinds_of s c d i t
  unfolding blinding_rows
  lent_blinds i t l = ap (λ (b : Bool). pick b (blinds_of s c d i t) (top_coefficients s c d i)) (lt-ltb (suc t) s.ν l)

  -- .. of the last one the top coefficients
  pub top_coefficients_lem : (i t : ℕ) → suc t ≡ s.ν → blinding_rows s c d i t ≡ top_coefficients s c d i
  unfolding blinding_rows
  top_coefficients_lem i t e = ap (λ (b : Bool). pick b (blinds_of s c d i t) (top_coefficients s c d i)) (le-ltb (suc t) s.ν (omega arith))

  -- the blinding rows of the column before
  abbrev before : ℕ → ℕ → List ℕ
  before i zero = []
  before i (suc t) = blinding_rows s c d i t

  lowered_by_before : (i t : ℕ) → t < s.ν → lowered_by s c d i t ≡ before i t
  unfolding lowered_by
  lowered_by_before i zero l = refl
  lowered_by_before i (suc t) l = sym (lent_blinds i t l)

  nothing_before : (i z : ℕ) → of (eval_n (before i 0) z) ≡ 𝟎
  unfolding eval_n
  nothing_before i z = of_zero

  few : (a : ℕ) (x : List ℕ) → length (piece s.β a x) ≤ s.β
  few a x = omega (arith, length-take s.β (drop (s.β * a) x))

  pub lowering_length : (i t : ℕ) → length (lowered_by s c d i t) ≤ s.β
  unfolding lowered_by
  lowering_length i zero = omega arith
  lowering_length i (suc t) = few _ d

  -- ---- elements

  lowering_below : Elements d → (i t : ℕ) → Elements (lowered_by s c d i t)
  unfolding lowered_by
  lowering_below ed i zero = tt
  lowering_below ed i (suc t) = piece_below s.β _ d ed

  pub poly_below : Elements c → (i : ℕ) → Elements (polynomial s c d i)
  poly_below ec i = piece_below (coefficient_count s) i c ec

  module _ (ec : Elements c) (ed : Elements d) where
    blinding_below : (i t : ℕ) → Elements (blinding_rows s c d i t)
    unfolding blinding_rows
    blinding_below i t = go (ltb (suc t) s.ν)
      where
        go : (b : Bool) → Elements (pick b (blinds_of s c d i t) (top_coefficients s c d i))
        go true = piece_below s.β _ d ed
        go false = all_drop (λ (x : ℕ). x < q) (s.μ * s.ν) (polynomial s c d i) (poly_below ec i)

    pub column_of_below : (i t : ℕ) → Elements (column_of s c d i t)
    unfolding column_of
    column_of_below i t =
        let x : List ℕ = piece s.μ t (polynomial s c d i) in
        all_append (λ (n : ℕ). n < q) (lowered x (lowered_by s c d i t)) (blinding_rows s c d i t) (lowered_below x (lowered_by s c d i t) (piece_below s.μ t (polynomial s c d i) (poly_below ec i))) (blinding_below i t)

  -- ---- lengths

  module _ (k : Counted s c d) where
    pub poly_length : (i : ℕ) → i < s.w → length (polynomial s c d i) ≡ coefficient_count s
    poly_length i l = length-piece (coefficient_count s) i c (omega (arith, row_fits (coefficient_count s) i s.w l, k.c_length))

    pub part_length : (i t : ℕ) → i < s.w → t < s.ν → length (piece s.μ t (polynomial s c d i)) ≡ s.μ
    part_length i t l m = length-piece s.μ t (polynomial s c d i) (omega (arith, row_fits s.μ t s.ν m, poly_length i l))

    pub blinding_length : (i t : ℕ) → i < s.w → t < s.ν → length (blinding_rows s c d i t) ≡ s.β
    unfolding blinding_rows
    blinding_length i t l m = go (ltb (suc t) s.ν) refl
      where
        inside : suc t < s.ν → i * (s.ν - 1) + t < s.w * (s.ν - 1)
        inside n = let b = row_fits (s.ν - 1) i s.w l in omega arith

        go : (b : Bool) → ltb (suc t) s.ν ≡ b → length (pick b (blinds_of s c d i t) (top_coefficients s c d i)) ≡ s.β
        go true e =
            length-piece s.β (i * (s.ν - 1) + t) d
            (omega (arith, row_fits s.β (i * (s.ν - 1) + t) (s.w * (s.ν - 1)) (inside (ltb-true (suc t) s.ν e)), k.b_length))
        go false e = length-drop (s.μ * s.ν) (polynomial s c d i) ∙ omega (arith, poly_length i l)

    pub column_of-length : (i t : ℕ) → i < s.w → t < s.ν → length (column_of s c d i t) ≡ rows s
    unfolding column_of
    column_of-length i t l m =
        let x : List ℕ = piece s.μ t (polynomial s c d i) in
        length-append (lowered x (lowered_by s c d i t)) (blinding_rows s c d i t)
        ∙ ap₂ ◌+◌ (lowered-length x (lowered_by s c d i t) ∙ part_length i t l m) (blinding_length i t l m)

  -- ---- values

  module _ (k : Counted s c d) (ed : Elements d) where
    -- a column's value, with that of what it is lowered by: that of its coefficients, and z^μ times that of its blinding rows
    column_value : (z i t : ℕ) → i < s.w → t < s.ν
        → of (eval_n (column_of s c d i t) z) ⊕ of (eval_n (lowered_by s c d i t) z)
        ≡ of (eval_n (piece s.μ t (polynomial s c d i)) z) ⊕ of (pow_n z s.μ) ⊗ of (eval_n (blinding_rows s c d i t) z)
    unfolding column_of
    column_value z i t l m =
        let x : List ℕ = piece s.μ t (polynomial s c d i) in
        let y : List ℕ = lowered_by s c d i t in
        let b : List ℕ = blinding_rows s c d i t in
        let n : length (ofs (lowered x y)) ≡ s.μ = length-map (lowered x y) of ∙ lowered-length x y ∙ part_length k i t l m in
        ap₂ ◌⊕◌
        (of_eval_n (lowered x y ++ b) z ∙ ap (λ (t : List K). eval t (of z)) (ofs-append (lowered x y) b) ∙ eval-append (ofs (lowered x y)) (ofs b) (of z)
        ∙ ap₂ (λ (e : ℕ) (t : K). eval (ofs (lowered x y)) (of z) ⊕ power (of z) e ⊗ t) n (sym (of_eval_n b z)))
        (of_eval_n y z)
        ∙ first_out (eval (ofs (lowered x y)) (of z)) (power (of z) s.μ) (of (eval_n b z)) (eval (ofs y) (of z))
        ∙ ap₂ (λ (t w : K). t ⊕ w ⊗ of (eval_n b z))
        (lowered_value x y (of z) (omega (arith, part_length k i t l m, lowering_length i t, k.sizes.β-fits)) (lowering_below ed i t) ∙ sym (of_eval_n x z))
        (sym (of_pow_n z s.μ))

    -- in numbers, for a program that has no column at hand
    pub column_value_is : (z i t : ℕ) → i < s.w → t < s.ν
        → eval_n (column_of s c d i t) z
        ≡ (eval_n (piece s.μ t (polynomial s c d i)) z + (q - eval_n (lowered_by s c d i t) z) + pow_n z s.μ * eval_n (blinding_rows s c d i t) z) % q
    column_value_is z i t l m =
        let v : ℕ = eval_n (column_of s c d i t) z in
        let x : ℕ = eval_n (piece s.μ t (polynomial s c d i)) z in
        let y : ℕ = eval_n (lowered_by s c d i t) z in
        let p : ℕ = pow_n z s.μ in
        let b : ℕ = eval_n (blinding_rows s c d i t) z in
        alone v x y (p * b) (eval_n_below (column_of s c d i t) z) (eval_n_below (lowered_by s c d i t) z)
        (of_inj (v + y) (x + p * b) (sym (of_add v y) ∙ column_value z i t l m ∙ ap (λ (t : K). of x ⊕ t) (of_mul p b) ∙ of_add x (p * b)))
      where
        alone : (v x y b : ℕ) → v < q → y < q → (v + y) % q ≡ (x + b) % q → v ≡ (x + (q - y) + b) % q
        alone v x y b l m e = omega arith

    -- the sum over its columns t of z^(tμ) times the column's value is the polynomial's value: the blinds cancel
    pub columns_value_is : (z i : ℕ) → i < s.w → eval_n (values_at_n (map (column_of s c d i) (up_from 0 s.ν)) z) (pow_n z s.μ) ≡ eval_n (polynomial s c d i) z
    columns_value_is z i l =
        let p : List ℕ = polynomial s c d i in
        let w : K = of (pow_n z s.μ) in
        let a : ℕ → K = λ t. of (eval_n (piece s.μ t p) z) in
        let b : ℕ → K = λ t. of (eval_n (before i t) z) in
        let v : ℕ → K = λ t. of (eval_n (column_of s c d i t) z) in
        of_injective _ _ (eval_n_below _ (pow_n z s.μ)) (eval_n_below p z)
        (of_eval_n (values_at_n (map (column_of s c d i) (up_from 0 s.ν)) z) (pow_n z s.μ)
        ∙ ap (λ (x : List K). eval x w) (ofs_values (column_of s c d i) z (up_from 0 s.ν))
        ∙ sym (⊕-zero (eval (map v (up_from 0 s.ν)) w))
        ∙ ap (λ (x : K). eval (map v (up_from 0 s.ν)) w ⊕ x) (sym (nothing_before i z))
        ∙ telescope a b v w s.ν s.ν 0 (omega arith)
        (λ t m. ap (λ (x : List ℕ). v t ⊕ of (eval_n x z)) (sym (lowered_by_before i t m)) ∙ column_value z i t l m)
        ∙ ap (λ (x : List ℕ). eval (map a (up_from 0 s.ν)) w ⊕ power w s.ν ⊗ of (eval_n x z)) (last (0 + s.ν) (zero-add s.ν))
        ∙ pieces_value s.μ s.ν p z (omega (arith, poly_length k i l)))
      where
        last : (n : ℕ) → n ≡ s.ν → before i n ≡ top_coefficients s c d i
        last zero e = absurd (omega (arith, k.sizes.ν-low))
        last (suc n) e = top_coefficients_lem i n e

-- ---- the columns of the matrix

module _ (s : Sizes) (lent : Lent) where
  abbrev c : List ℕ
  c = lent.coefficients

  abbrev d : List ℕ
  d = lent.blinds

  -- column νi + t is column t of polynomial i
  pub column_is : (i t : ℕ) → t < s.ν → column s lent (s.ν * i + t) ≡ column_of s c d i t
  column_is i t l =
      let some : 0 < s.ν = omega arith in
      ap₂ (column_of s c d) (mul-add-div some i t ∙ ap (λ (y : ℕ). i + y) (div-eq_of_lt l) ∙ add-zero i) (mul-add-mod_self_left s.ν i t ∙ mod-eq_of_lt l)

  pub columns_are : (i n t : ℕ) → t + n ≤ s.ν → map (column s lent) (up_from (s.ν * i + t) n) ≡ map (column_of s c d i) (up_from t n)
  unfolding up_from
  columns_are i zero t l = refl
  columns_are i (suc n) t l =
      let e : suc (s.ν * i + t) ≡ s.ν * i + suc t = omega arith in
      ap₂ (λ (x : List ℕ) (y : List (List ℕ)). x ∷ y)
      (column_is i t (omega arith))
      (ap (λ (y : ℕ). map (column s lent) (up_from y n)) e ∙ columns_are i n (suc t) (omega arith))

  pub column-length : Counted s c d → (a : ℕ) → a < columns s → length (column s lent a) ≡ rows s
  column-length k a l = column_of-length s c d k (a / s.ν) (a % s.ν) ((div-lt_iff_lt-mul k.sizes.ν-low).1 l) (mod-lt a k.sizes.ν-low)

  -- a column has an element for each row
  pub column_poly : LentFacts s lent → (a : ℕ) → a < columns s → (length (column s lent a) ≡ rows s) × Elements (column s lent a)
  column_poly r a l = (column-length (counted r) a l, column_of_below s c d r.c_below r.b_below (a / s.ν) (a % s.ν))
