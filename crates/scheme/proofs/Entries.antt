-- The entries of the matrix one by one: row j, column νi + t of polynomial i, as words of the lent coefficients and blinds.
use mathlib.Core.Path.{◌≡◌, refl, sym, ap, ap₂, ◌∙◌, subst}
use mathlib.Core.List.{List, [], ◌++◌}
use Prim.Native.Nat.{ℕ, suc, ◌+◌, ◌-◌, ◌*◌, ◌/◌, ◌%◌, ◌≤◌, ◌<◌}
use native.Mathlib.Nat.{add-zero, mod-lt, div-add-mod, div-lt_iff_lt-mul}
use native.Mathlib.Omega.{arith}
use lib.ListN.{length, get_or, get_or-append}
use lib.Seq.{ext_get_or, get_or-drop, get_or-append-add}
use Rattle.lists.specs.Pieces.{piece}
use Rattle.lists.specs.Parts.{row_fits, length-piece, piece_at}
use Rattle.algebra.specs.Prime.{q}
use Rattle.algebra.specs.Lowered.{lowered, lowered-length, lowered_none, lowered_at, lowered_after}
use Rattle.scheme.specs.Sizes.{Sizes, columns, coefficient_count}
use Rattle.scheme.specs.Matrix.{polynomial, blinds_of, blinding_rows, lowered_by, column_of}
use Rattle.scheme.specs.Layers.{Lent, column, entry}
use Rattle.scheme.proofs.Lent.{Counted}
use Rattle.scheme.proofs.Columns.{lent_blinds, top_coefficients_lem, part_length, blinding_length, lowering_length, column-length, column_is}

module _ (s : Sizes) (lent : Lent) (k : Counted s lent.coefficients lent.blinds) (i : ℕ) (li : i < s.w) where
  abbrev c : List ℕ
  c = lent.coefficients

  abbrev d : List ℕ
  d = lent.blinds

  abbrev p : List ℕ
  p = polynomial s c d i

  -- coefficient tμ + j of polynomial i
  coefficient_at : (t j : ℕ) → t < s.ν → j < s.μ → get_or (piece s.μ t p) j 0 ≡ get_or c (coefficient_count s * i + (s.μ * t + j)) 0
  coefficient_at t j lt lj =
      piece_at s.μ t p j lj ∙ piece_at (coefficient_count s) i c (s.μ * t + j) (omega (arith, row_fits s.μ t s.ν lt))

  top-row : (t j : ℕ) → t < s.ν → j < s.μ → entry s lent j (s.ν * i + t) ≡ get_or (lowered (piece s.μ t p) (lowered_by s c d i t)) j 0
  unfolding column_of
  top-row t j lt lj =
      let xs : List ℕ = lowered (piece s.μ t p) (lowered_by s c d i t) in
      ap (λ (x : List ℕ). get_or x j 0) (column_is s lent i t lt)
      ∙ get_or-append xs (blinding_rows s c d i t) 0 j
      (omega (arith, lowered-length (piece s.μ t p) (lowered_by s c d i t), part_length s c d k i t li lt))

  blinding_row : (t b : ℕ) → t < s.ν → entry s lent (s.μ + b) (s.ν * i + t) ≡ get_or (blinding_rows s c d i t) b 0
  unfolding column_of
  blinding_row t b lt =
      let xs : List ℕ = lowered (piece s.μ t p) (lowered_by s c d i t) in
      ap (λ (x : List ℕ). get_or x (s.μ + b) 0) (column_is s lent i t lt)
      ∙ ap (λ (k : ℕ). get_or (xs ++ blinding_rows s c d i t) (k + b) 0)
      (sym (lowered-length (piece s.μ t p) (lowered_by s c d i t) ∙ part_length s c d k i t li lt))
      ∙ get_or-append-add xs (blinding_rows s c d i t) b 0

  nothing_lowers : lowered_by s c d i 0 ≡ []
  unfolding lowered_by
  nothing_lowers = refl

  blinds_lower : (t : ℕ) → lowered_by s c d i (suc t) ≡ blinds_of s c d i t
  unfolding lowered_by
  blinds_lower t = refl

  -- ---- the rows of coefficients

  -- in column 0 coefficient j, ..
  pub entry_first : (j : ℕ) → j < s.μ → entry s lent j (s.ν * i) ≡ get_or c (coefficient_count s * i + j) 0
  entry_first j lj =
      let e : s.μ * 0 + j ≡ j = omega arith in
      let some : 0 < s.ν = k.sizes.ν-low in
      ap (λ (a : ℕ). entry s lent j a) (sym (add-zero (s.ν * i)))
      ∙ top-row 0 j some lj
      ∙ ap (λ (ys : List ℕ). get_or (lowered (piece s.μ 0 p) ys) j 0) nothing_lowers
      ∙ ap (λ (x : List ℕ). get_or x j 0) (lowered_none (piece s.μ 0 p))
      ∙ coefficient_at 0 j some lj
      ∙ ap (λ (k : ℕ). get_or c (coefficient_count s * i + k) 0) e

  -- .. after it coefficient tμ + j, the first β of them lowered by the blinds of the column before
  pub entry-lowered : (t j : ℕ) → suc t < s.ν → j < s.β
      → entry s lent j (s.ν * i + suc t) ≡ (get_or c (coefficient_count s * i + (s.μ * suc t + j)) 0 + (q - get_or d (s.β * (i * (s.ν - 1) + t) + j) 0)) % q
  entry-lowered t j lt lj =
      let x : List ℕ = piece s.μ (suc t) p in
      let small : j < s.μ = omega (arith, k.sizes.β-fits) in
      let many : length (lowered_by s c d i (suc t)) ≡ s.β =
      ap length (blinds_lower t ∙ sym (lent_blinds s c d i t lt)) ∙ blinding_length s c d k i t li (omega arith) in
      top-row (suc t) j lt small
      ∙ lowered_at x (lowered_by s c d i (suc t)) j (omega (arith, part_length s c d k i (suc t) li lt)) (omega (arith, many))
      ∙ ap₂ (λ (a b : ℕ). (a + (q - b)) % q) (coefficient_at (suc t) j lt small)
      (ap (λ (ys : List ℕ). get_or ys j 0) (blinds_lower t) ∙ piece_at s.β (i * (s.ν - 1) + t) d j lj)

  pub entry_kept : (t j : ℕ) → t < s.ν → s.β ≤ j → j < s.μ → entry s lent j (s.ν * i + t) ≡ get_or c (coefficient_count s * i + (s.μ * t + j)) 0
  entry_kept t j lt low lj =
      top-row t j lt lj ∙ lowered_after (piece s.μ t p) (lowered_by s c d i t) j (omega (arith, lowering_length s c d i t)) ∙ coefficient_at t j lt lj

  -- ---- the blinding rows

  pub entry_blind : (t b : ℕ) → suc t < s.ν → b < s.β → entry s lent (s.μ + b) (s.ν * i + t) ≡ get_or d (s.β * (i * (s.ν - 1) + t) + b) 0
  entry_blind t b lt lb =
      blinding_row t b (omega arith) ∙ ap (λ (ys : List ℕ). get_or ys b 0) (lent_blinds s c d i t lt) ∙ piece_at s.β (i * (s.ν - 1) + t) d b lb

  -- in the last column the top β coefficients
  pub entry_top : (t b : ℕ) → suc t ≡ s.ν → b < s.β → entry s lent (s.μ + b) (s.ν * i + t) ≡ get_or c (coefficient_count s * i + (s.μ * s.ν + b)) 0
  entry_top t b e lb =
      blinding_row t b (omega arith)
      ∙ ap (λ (ys : List ℕ). get_or ys b 0) (top_coefficients_lem s c d i t e)
      ∙ get_or-drop (s.μ * s.ν) p b 0
      ∙ piece_at (coefficient_count s) i c (s.μ * s.ν + b) (omega arith)

-- ---- without blinding rows

-- column a is then coefficients aμ, aμ + 1, .. of all that are lent
pub column_unblinded : (s : Sizes) (lent : Lent) → Counted s lent.coefficients lent.blinds → s.β ≡ 0 → (a : ℕ) → a < columns s
    → column s lent a ≡ piece s.μ a lent.coefficients
column_unblinded s lent k e a inside =
    let i : ℕ = a / s.ν in
    let t : ℕ = a % s.ν in
    let li : i < s.w = (div-lt_iff_lt-mul k.sizes.ν-low).1 inside in
    let lt : t < s.ν = mod-lt a k.sizes.ν-low in
    let back : s.ν * i + t ≡ a = div-add-mod a s.ν in
    let fits : s.μ * a + s.μ ≤ length lent.coefficients = omega (arith, row_fits s.μ a (columns s) inside, k.c_length) in
    let n₁ : length (column s lent a) ≡ s.μ = column-length s lent k a inside ∙ omega (arith, e) in
    ext_get_or 0 (column s lent a) (piece s.μ a lent.coefficients) (n₁ ∙ sym (length-piece s.μ a lent.coefficients fits))
    (λ j m.
    let lj : j < s.μ = subst (λ (n : ℕ). j < n) n₁ m in
    let none : s.β * i ≡ 0 = ap (λ (b : ℕ). b * i) e ∙ omega arith in
    let same : coefficient_count s * i + (s.μ * t + j) ≡ s.μ * (s.ν * i + t) + j = omega (arith, none) in
    ap (entry s lent j) (sym back)
    ∙ entry_kept s lent k i li t j lt (omega (arith, e)) lj
    ∙ ap (λ (n : ℕ). get_or lent.coefficients n 0) same
    ∙ ap (λ (b : ℕ). get_or lent.coefficients (s.μ * b + j) 0) back
    ∙ sym (piece_at s.μ a lent.coefficients j lj))
