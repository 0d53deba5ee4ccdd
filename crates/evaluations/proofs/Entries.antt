-- The columns of polynomial i, gathered row by row: where their entries stand, and that they are the matrix's.
use mathlib.Core.Path.{◌≡◌, sym, ap, ap₂, ◌∙◌, subst}
use mathlib.Core.List.{List}
use Prim.Native.Nat.{ℕ, suc, ◌+◌, ◌-◌, ◌*◌, ◌%◌, ◌≤◌, ◌<◌}
use native.Mathlib.Nat.{mul-suc}
use native.Mathlib.Omega.{arith}
use lib.ListN.{length, get_or}
use Rattle.lists.specs.Parts.{row_fits}
use Rattle.algebra.specs.Prime.{q}
use Rattle.stepping.specs.Lanes.{entry}
use Rattle.scheme.specs.Sizes.{Sizes, columns, coefficient_count, blind_count}
use Rattle.scheme.specs.Layers.{Lent, column}
use Rattle.scheme.proofs.Entries.{entry_first, entry-lowered, entry_kept, entry_blind, entry_top}
use Rattle.lent.specs.Rows.{CanLayOut, strided}
use Rattle.lent.proofs.Rows.{counted}
use Rattle.evaluations.specs.Values.{strided_difference, Gathered}
use Rattle.evaluations.proofs.Gathering.{gathered_as, gathered_more}

-- n coefficients and m blinds to a polynomial
module _ (s : Sizes) (l : Lent) (can : CanLayOut s l.coefficients l.blinds) (i : ℕ) (li : i < s.w) (n m : ℕ) (hn : n ≡ coefficient_count s) (hm : m ≡ blind_count s) where
  abbrev c : List ℕ
  c = l.coefficients

  abbrev d : List ℕ
  d = l.blinds

  abbrev is : ℕ → ℕ → ℕ
  is row t = entry (column s l (s.ν * i + t)) row

  some : 1 ≤ s.ν
  some = can.sizes.ν-low

  from : n * i ≡ coefficient_count s * i
  from = ap (λ (k : ℕ). k * i) hn

  low : m * i ≡ blind_count s * i
  low = ap (λ (k : ℕ). k * i) hm

  -- ---- they stand in what is lent, and there is room for them

  pub polynomial_room : s.ν * i + s.ν ≤ columns s
  polynomial_room = omega (arith, row_fits s.ν i s.w li)

  coefficients_room : n * i + (s.μ * s.ν + s.β) ≤ length c
  coefficients_room = omega (arith, from, row_fits (coefficient_count s) i s.w li, can.coefficients_length)

  blinds_room : m * i + s.β * (s.ν - 1) ≤ length d
  blinds_room = omega (arith, low, row_fits (blind_count s) i s.w li, can.blinds_length)

  pub row_there : (row : ℕ) → row < s.μ → n * i + row + s.μ * s.ν < length c + s.μ
  row_there row h = omega (arith, coefficients_room)

  pub first_there : (row : ℕ) → row < s.β → n * i + row + s.μ * 1 < length c + s.μ
  first_there row h = omega (arith, coefficients_room)

  pub lowered_there : (row : ℕ) → row < s.β → n * i + row + s.μ + s.μ * (s.ν - 1) < length c + s.μ
  lowered_there row h =
      let e : suc (s.ν - 1) ≡ s.ν = omega (arith, some) in
      let f : s.μ * (s.ν - 1) + s.μ ≡ s.μ * s.ν = sym (mul-suc s.μ (s.ν - 1)) ∙ ap (λ (k : ℕ). s.μ * k) e in
      omega (arith, coefficients_room, f, can.sizes.β-fits)

  pub blinds_there : (b : ℕ) → b < s.β → m * i + b + s.β * (s.ν - 1) < length d + s.β
  blinds_there b h = omega (arith, blinds_room)

  pub top_there : (b : ℕ) → b < s.β → n * i + s.μ * s.ν + b + 1 * 1 < length c + 1
  top_there b h = omega (arith, coefficients_room)

  -- ---- a row of coefficients

  pub kept_row : (row j : ℕ) (v₀ v₁ : List ℕ) → s.β ≤ row → row < s.μ → Gathered (strided c (n * i + row) s.μ) s.ν (s.ν * i) j v₀ v₁
      → Gathered (is row) s.ν (s.ν * i) j v₀ v₁
  unfolding strided
  kept_row row j v₀ v₁ h b =
      gathered_as (strided c (n * i + row) s.μ) (is row) s.ν (s.ν * i) j v₀ v₁
      (λ t u.
      let e : n * i + row + s.μ * t ≡ coefficient_count s * i + (s.μ * t + row) = omega (arith, from) in
      ap (λ (k : ℕ). get_or c k 0) e ∙ sym (entry_kept s l (counted can) i li t row u h b))

  -- column 0 alone, and the lowered ones after it
  pub lowered-row : (row j : ℕ) (v₀ v₁ v₂ : List ℕ) → row < s.β → Gathered (strided c (n * i + row) s.μ) 1 (s.ν * i) j v₀ v₁
      → Gathered (strided_difference c (n * i + row + s.μ) s.μ d (m * i + row) s.β) (s.ν - 1) (s.ν * i + 1) j v₁ v₂
      → Gathered (is row) s.ν (s.ν * i) j v₀ v₂
  unfolding strided
  lowered-row row j v₀ v₁ v₂ b first rest =
      let all : 1 + (s.ν - 1) ≡ s.ν = omega (arith, some) in
      subst (λ (k : ℕ). Gathered (is row) k (s.ν * i) j v₀ v₂) all
      (gathered_more (is row) (strided_difference c (n * i + row + s.μ) s.μ d (m * i + row) s.β) 1 (s.ν - 1) (s.ν * i) j v₀ v₁ v₂
      (gathered_as (strided c (n * i + row) s.μ) (is row) 1 (s.ν * i) j v₀ v₁ (λ t u. start t (omega arith)) first) rest (λ t u. next t (omega arith)))
    where
      small : row < s.μ
      small = omega (arith, can.sizes.β-fits)

      start : (t : ℕ) → t ≡ 0 → strided c (n * i + row) s.μ t ≡ is row t
      start t z =
          let e : n * i + row + s.μ * 0 ≡ coefficient_count s * i + row = omega (arith, from) in
          let f : s.ν * i ≡ s.ν * i + 0 = omega arith in
          ap (strided c (n * i + row) s.μ) z
          ∙ ap (λ (k : ℕ). get_or c k 0) e
          ∙ sym (entry_first s l (counted can) i li row small)
          ∙ ap (λ (a : ℕ). entry (column s l a) row) f
          ∙ ap (is row) (sym z)

      next : (t : ℕ) → suc t < s.ν → strided_difference c (n * i + row + s.μ) s.μ d (m * i + row) s.β t ≡ is row (1 + t)
      next t u =
          let e : n * i + row + s.μ + s.μ * t ≡ coefficient_count s * i + (s.μ * suc t + row) = omega (arith, from) in
          let f : m * i + row + s.β * t ≡ s.β * (i * (s.ν - 1) + t) + row = omega (arith, low) in
          let g : suc t ≡ 1 + t = omega arith in
          ap₂ (λ (x y : ℕ). (get_or c x 0 + (q - get_or d y 0)) % q) e f ∙ sym (entry-lowered s l (counted can) i li t row u b) ∙ ap (is row) g

  -- ---- a blinding row: the blinds, and the top coefficient

  pub blinding_row : (b j : ℕ) (v₀ v₁ v₂ : List ℕ) → b < s.β → Gathered (strided d (m * i + b) s.β) (s.ν - 1) (s.ν * i) j v₀ v₁
      → Gathered (strided c (n * i + s.μ * s.ν + b) 1) 1 (s.ν * i + (s.ν - 1)) j v₁ v₂ → Gathered (is (s.μ + b)) s.ν (s.ν * i) j v₀ v₂
  unfolding strided
  blinding_row b j v₀ v₁ v₂ lb first rest =
      let all : s.ν - 1 + 1 ≡ s.ν = omega (arith, some) in
      subst (λ (k : ℕ). Gathered (is (s.μ + b)) k (s.ν * i) j v₀ v₂) all
      (gathered_more (is (s.μ + b)) (strided c (n * i + s.μ * s.ν + b) 1) (s.ν - 1) 1 (s.ν * i) j v₀ v₁ v₂
      (gathered_as (strided d (m * i + b) s.β) (is (s.μ + b)) (s.ν - 1) (s.ν * i) j v₀ v₁ (λ t u. blind t (omega arith)) first) rest (λ t u. top t (omega arith)))
    where
      blind : (t : ℕ) → suc t < s.ν → strided d (m * i + b) s.β t ≡ is (s.μ + b) t
      blind t u =
          let e : m * i + b + s.β * t ≡ s.β * (i * (s.ν - 1) + t) + b = omega (arith, low) in
          ap (λ (k : ℕ). get_or d k 0) e ∙ sym (entry_blind s l (counted can) i li t b u lb)

      top : (t : ℕ) → t ≡ 0 → strided c (n * i + s.μ * s.ν + b) 1 t ≡ is (s.μ + b) (s.ν - 1 + t)
      top t z =
          let e : n * i + s.μ * s.ν + b + 1 * 0 ≡ coefficient_count s * i + (s.μ * s.ν + b) = omega (arith, from) in
          let f : suc (s.ν - 1) ≡ s.ν = omega (arith, some) in
          let g : s.ν - 1 ≡ s.ν - 1 + t = omega (arith, z) in
          ap (strided c (n * i + s.μ * s.ν + b) 1) z
          ∙ ap (λ (k : ℕ). get_or c k 0) e
          ∙ sym (entry_top s l (counted can) i li (s.ν - 1) b f lb)
          ∙ ap (is (s.μ + b)) g
