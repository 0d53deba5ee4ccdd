-- The rows of a commitment hold the committed polynomials, all their coefficients.
use mathlib.Core.Path.{◌≡◌, sym, ap, ◌∙◌, subst}
use mathlib.Core.List.{List, [], map}
use Prim.Native.Nat.{ℕ, suc, ◌+◌, ◌-◌, ◌*◌, ◌≤◌, ◌<◌}
use native.Mathlib.Nat.{mul-le-mul, mul-le-mul_right, zero-add}
use native.Mathlib.Omega.{arith}
use lib.ListN.{length, length-map}
use lib.Seq.{ext_get_or}
use Rattle.lists.specs.All.{All, all_imp, mem_all}
use Rattle.lists.specs.Maps.{get_or-map_in}
use Rattle.lists.specs.Range.{up_from, at_run, all_run, up_from_below, up_from_distinct, length-up_from}
use Rattle.lists.specs.Pieces.{piece}
use Rattle.lists.specs.Parts.{row_fits, length-piece, piece_at}
use Rattle.algebra.specs.Prime.{q}
use Rattle.algebra.specs.Numbers.{eval_n, values_at_n, Elements, unique_n}
use Rattle.algebra.specs.Stacked.{stacked, stacked_value, stacked-length, stacked_below}
use Rattle.scheme.specs.Sizes.{Sizes, columns, rows, coefficient_count, points}
use Rattle.scheme.specs.Matrix.{polynomial, column_of}
use Rattle.scheme.specs.Layers.{Lent, extended_rows, row_polynomials, held_polynomial}
use Rattle.scheme.proofs.Accepted.{points_count}
use Rattle.scheme.proofs.Lent.{counted, LentFacts}
use Rattle.scheme.proofs.Columns.{poly_length, poly_below, column_of-length, column_of_below, column_is, columns_value_is}
use Rattle.scheme.proofs.HonestAnswers.{ext_polys, column_values, entries}

module _ (s : Sizes) (lent : Lent) (r : LentFacts s lent) (i : ℕ) (li : i < s.w) where
  abbrev c : List ℕ
  c = lent.coefficients

  abbrev d : List ℕ
  d = lent.blinds

  abbrev cs : List (List ℕ)
  cs = map (column_of s c d i) (up_from 0 s.ν)

  few : coefficient_count s ≤ q
  few = omega (arith, mul-le-mul {n₂ = 64} {m₂ = 256} r.sizes.μ_high ν-high, r.sizes.β-high)
    where
      ν-high : s.ν ≤ 256
      ν-high = omega (arith, r.sizes.columns-high, mul-le-mul_right s.ν r.sizes.w_low)

  -- at the value points of polynomial i the rows have its columns
  columns_held : map (values_at_n (row_polynomials s lent)) (piece s.ν i (points s)) ≡ cs
  columns_held =
      let P : List (List ℕ) = row_polynomials s lent in
      let xs : List ℕ = piece s.ν i (points s) in
      let b : s.ν * i + s.ν ≤ columns s = omega (arith, row_fits s.ν i s.w li) in
      let n₁ : length xs ≡ s.ν = length-piece s.ν i (points s) (omega (arith, points_count s r.sizes)) in
      let n₂ : length cs ≡ s.ν = length-map (up_from 0 s.ν) (column_of s c d i) ∙ length-up_from 0 s.ν in
      ext_get_or [] (map (values_at_n P) xs) cs (length-map xs (values_at_n P) ∙ n₁ ∙ sym n₂)
      (λ t m.
      let l : t < s.ν = subst (λ (k : ℕ). t < k) (length-map xs (values_at_n P) ∙ n₁) m in
      get_or-map_in (values_at_n P) xs t 0 [] (subst (λ (k : ℕ). t < k) (sym n₁) l)
      ∙ ap (values_at_n P) (piece_at s.ν i (points s) t l)
      ∙ sym (column_values s lent r (extended_rows s lent) (ext_polys s lent r) (s.ν * i + t) (omega arith))
      ∙ entries s lent r (s.ν * i + t) (omega arith)
      ∙ column_is s lent i t l
      ∙ sym (at_run (column_of s c d i) 0 s.ν t [] l ∙ ap (column_of s c d i) (zero-add t)))

  columns_polys : All (λ (c : List ℕ). (length c ≡ rows s) × Elements c) cs
  columns_polys = all_run (λ (c : List ℕ). (length c ≡ rows s) × Elements c) (column_of s c d i) s.ν (λ t l. (column_of-length s c d (counted r) i t li l, column_of_below s c d r.c_below r.b_below i t))

  columns_count : length cs ≡ suc (s.ν - 1)
  columns_count = length-map (up_from 0 s.ν) (column_of s c d i) ∙ length-up_from 0 s.ν ∙ omega (arith, r.sizes.ν-low)

  stacked_poly : (length (stacked s.μ cs) ≡ coefficient_count s) × Elements (stacked s.μ cs)
  stacked_poly =
      let e : s.μ * suc (s.ν - 1) + s.β ≡ coefficient_count s = ap (λ (n : ℕ). s.μ * n + s.β) (omega (arith, r.sizes.ν-low)) in (
        stacked-length s.μ s.β (s.ν - 1) cs columns_count (all_imp (λ (c : List ℕ) (h : (length c ≡ rows s) × Elements c). h.0) cs columns_polys) ∙ e,
        stacked_below s.μ cs (all_imp (λ (c : List ℕ) (h : (length c ≡ rows s) × Elements c). h.1) cs columns_polys),
      )

  pub held_committed : held_polynomial s (row_polynomials s lent) i ≡ polynomial s c d i
  unfolding held_polynomial
  held_committed =
      let n : ℕ = coefficient_count s in
      ap (stacked s.μ) columns_held
      ∙ unique_n (up_from 0 n) (stacked s.μ cs) (polynomial s c d i) (up_from_below 0 n q (omega (arith, few))) (up_from_distinct 0 n) stacked_poly.1 (poly_below s c d r.c_below i)
      (stacked_poly.0 ∙ sym (poly_length s c d (counted r) i li)) (omega (arith, poly_length s c d (counted r) i li, length-up_from 0 n))
      (mem_all (λ (z : ℕ). eval_n (stacked s.μ cs) z ≡ eval_n (polynomial s c d i) z) (up_from 0 n) (λ z m. sym (stacked_value s.μ cs z) ∙ columns_value_is s c d (counted r) r.b_below z i li))
