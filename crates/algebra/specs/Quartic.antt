-- Newton's form expanded four points at a time: four coefficients expanded by themselves, plus a product of four factors X - x times what stands behind them.
use Rattle.std.specs.Prelude.{◌≡◌, refl, List, [], ◌∷◌, ◌++◌, ℕ, zero, suc, ◌+◌, ◌*◌, ◌-◌, ◌%◌, ◌≤◌, ◌<◌, length, get_or, take, drop, set}
use Rattle.std.proofs.Common.{sym, ◌∙◌, ap, ap₂, subst, ⊎_elim, append_assoc, suc-le-suc, suc-ne-zero, suc-add, zero-add, mod-lt, le_of_suc-le-suc, not-suc-le-zero, arith, lit<, length-append, length-drop, ext_get_or, get_or-append-add, get_or-drop, drop_at, take_at, drop-drop, take-add, length-take-le}
use Rattle.std.proofs.Math.Nat.{suc_inj, add-mod, le-suc_iff}
use Rattle.std.proofs.Math.ListN.{get_or-eq_default}
use Rattle.lists.specs.Fill.{filled_front}
use Rattle.lists.specs.Tabulate.{tabulate, length-tabulate, filled, fill-kept, fill_more}
use Rattle.algebra.specs.Prime.{q}
use Rattle.algebra.specs.Field.{K, of, of_add, of_mul, of_zero, ◌⊕◌, ◌⊗◌, ◌⊝◌, ⊖, 𝟎, dv, ring, dif_path, ⊕-zero}
use Rattle.algebra.specs.Numbers.{of_injective}
use Rattle.algebra.specs.Divided.{sub_n, lin_n, length-lin_n, nform_n, of_sub_n, of_mod, sweep_n, sweep_n_at, sweep_n_end, length-nform_n, expanded}
use Rattle.algebra.specs.Pairs.{of_step}

-- ---- Newton's form over a polynomial s, which stands behind its coefficients: c₀ + (X - x₀)(c₁ + .. (X - xₙ) s)

unfoldable pub onto_n : List ℕ → List ℕ → List ℕ → List ℕ
onto_n [] cs s = s
onto_n (x ∷ xs) [] s = s
onto_n (x ∷ xs) (c ∷ cs) s = lin_n x c (onto_n xs cs s)

length-onto_n : (xs cs s : List ℕ) → length cs ≡ length xs → length (onto_n xs cs s) ≡ length xs + length s
unfolding onto_n
length-onto_n [] cs s l = sym (zero-add (length s))
length-onto_n (x ∷ xs) [] s l = absurd (suc-ne-zero _ (sym l))
length-onto_n (x ∷ xs) (c ∷ cs) s l = length-lin_n x c (onto_n xs cs s) ∙ ap suc (length-onto_n xs cs s (suc_inj l)) ∙ sym (suc-add (length xs) (length s))

-- the first n points, over the form of the others
onto_form : (n : ℕ) (xs cs : List ℕ) → length cs ≡ length xs → n ≤ length xs → onto_n (take n xs) (take n cs) (nform_n (drop n xs) (drop n cs)) ≡ nform_n xs cs
unfolding onto_n nform_n
onto_form zero xs cs l u = refl
onto_form (suc n) [] cs l u = absurd (not-suc-le-zero u)
onto_form (suc n) (x ∷ xs) [] l u = absurd (suc-ne-zero _ (sym l))
onto_form (suc n) (x ∷ xs) (c ∷ cs) l u = ap (lin_n x c) (onto_form n xs cs (suc_inj l) (le_of_suc-le-suc u))

-- ---- entries in the field, 0 beyond the end

none : (a x : ℕ) → of a ≡ of a ⊝ of x ⊗ of 0
none a x = sym (ap (λ (t : K). of a ⊝ of x ⊗ t) of_zero ∙ drops (of a) (of x))
  where
    drops : (a x : K) → a ⊝ x ⊗ 𝟎 ≡ a
    drops a x = rw (← dv a, ← dv x) (simp ring (dif_path _ _ _ _ (omega arith)))

of_lin_n : (x c : ℕ) (p : List ℕ) (i : ℕ) → of (get_or (lin_n x c p) i 0) ≡ of (get_or (c ∷ p) i 0) ⊝ of x ⊗ of (get_or p i 0)
unfolding lin_n
of_lin_n x c [] zero = none c x
of_lin_n x c [] (suc i) = none 0 x
of_lin_n x c (a ∷ p) zero = of_step c x a
of_lin_n x c (a ∷ p) (suc i) = of_lin_n x a p i

-- n zeros in front
abbrev pub raised : ℕ → List ℕ → List ℕ
raised zero s = s
raised (suc n) s = 0 ∷ raised n s

-- the factors X - x times a polynomial
times_n : List ℕ → List ℕ → List ℕ
times_n [] s = s
times_n (x ∷ xs) s = lin_n x 0 (times_n xs s)

zero_plus : (a : K) → of 0 ⊕ a ≡ a
zero_plus a = ap (λ (t : K). t ⊕ a) of_zero ∙ drops a
  where
    drops : (a : K) → 𝟎 ⊕ a ≡ a
    drops a = rw (← dv a) (simp ring (dif_path _ _ _ _ (omega arith)))

zero_right : (a : ℕ) → of a ≡ of a ⊕ of 0
zero_right a = sym (ap (λ (t : K). of a ⊕ t) of_zero ∙ ⊕-zero (of a))

sum_step : (x c : ℕ) (t p r : List ℕ) (i : ℕ)
    → of (get_or (c ∷ t) i 0) ≡ of (get_or (c ∷ p) i 0) ⊕ of (get_or (0 ∷ r) i 0) → of (get_or t i 0) ≡ of (get_or p i 0) ⊕ of (get_or r i 0)
    → of (get_or (lin_n x c t) i 0) ≡ of (get_or (lin_n x c p) i 0) ⊕ of (get_or (lin_n x 0 r) i 0)
sum_step x c t p r i e f =
    of_lin_n x c t i
    ∙ ap₂ (λ (a b : K). a ⊝ of x ⊗ b) e f
    ∙ split (of (get_or (c ∷ p) i 0)) (of (get_or (0 ∷ r) i 0)) (of x) (of (get_or p i 0)) (of (get_or r i 0))
    ∙ sym (ap₂ ◌⊕◌ (of_lin_n x c p i) (of_lin_n x 0 r i))
  where
    split : (a b x c d : K) → (a ⊕ b) ⊝ x ⊗ (c ⊕ d) ≡ (a ⊝ x ⊗ c) ⊕ (b ⊝ x ⊗ d)
    split a b x c d = rw (← dv a, ← dv b, ← dv x, ← dv c, ← dv d) (simp ring (dif_path _ _ _ _ (omega arith)))

-- the form over s is the form by itself, plus the factors times s
onto_sum : (xs cs s : List ℕ) (i : ℕ) → length cs ≡ length xs → of (get_or (onto_n xs cs s) i 0) ≡ of (get_or (nform_n xs cs) i 0) ⊕ of (get_or (times_n xs s) i 0)
unfolding onto_n nform_n times_n
onto_sum [] cs s i l = sym (zero_plus (of (get_or s i 0)))
onto_sum (x ∷ xs) [] s i l = absurd (suc-ne-zero _ (sym l))
onto_sum (x ∷ xs) (c ∷ cs) s zero l = sum_step x c (onto_n xs cs s) (nform_n xs cs) (times_n xs s) zero (zero_right c) (onto_sum xs cs s zero (suc_inj l))
onto_sum (x ∷ xs) (c ∷ cs) s (suc i) l =
    sum_step x c (onto_n xs cs s) (nform_n xs cs) (times_n xs s) (suc i) (onto_sum xs cs s i (suc_inj l)) (onto_sum xs cs s (suc i) (suc_inj l))

-- ---- four factors: X^4 + e₁ X^3 + e₂ X^2 + e₃ X + e₄

-- a + e₁ b + e₂ c + e₃ d + e₄ e
abbrev pub five_n : ℕ → ℕ → ℕ → ℕ → ℕ → ℕ → ℕ → ℕ → ℕ → ℕ
five_n e₁ e₂ e₃ e₄ a b c d e = (a + e₁ * b + e₂ * c + e₃ * d + e₄ * e) % q

five : (e₁ e₂ e₃ e₄ a b c d e : K) → K
five e₁ e₂ e₃ e₄ a b c d e = a ⊕ e₁ ⊗ b ⊕ e₂ ⊗ c ⊕ e₃ ⊗ d ⊕ e₄ ⊗ e

more : (s e a : ℕ) → of (s + e * a) ≡ of s ⊕ of e ⊗ of a
more s e a = sym (of_add s (e * a)) ∙ ap (λ (t : K). of s ⊕ t) (sym (of_mul e a))

of_five_n : (e₁ e₂ e₃ e₄ a b c d e : ℕ) → of (five_n e₁ e₂ e₃ e₄ a b c d e) ≡ five (of e₁) (of e₂) (of e₃) (of e₄) (of a) (of b) (of c) (of d) (of e)
unfolding five
of_five_n e₁ e₂ e₃ e₄ a b c d e =
    of_mod _
    ∙ more (a + e₁ * b + e₂ * c + e₃ * d) e₄ e
    ∙ ap (λ (t : K). t ⊕ of e₄ ⊗ of e) (more (a + e₁ * b + e₂ * c) e₃ d ∙ ap (λ (t : K). t ⊕ of e₃ ⊗ of d) (more (a + e₁ * b) e₂ c ∙ ap (λ (t : K). t ⊕ of e₂ ⊗ of c) (more a e₁ b)))

-- the coefficients, where the factors X - x and X - y give X^2 + a X + b, the others X^2 + c X + d
abbrev pub minus_sum : ℕ → ℕ → K
minus_sum x y = ⊖ (of x ⊕ of y)

abbrev pub Factored : (x y z w e₁ e₂ e₃ e₄ : ℕ) → Type 0
Factored x y z w e₁ e₂ e₃ e₄ =
    (of e₁ ≡ minus_sum x y ⊕ minus_sum z w)
    × (of e₂ ≡ of x ⊗ of y ⊕ of z ⊗ of w ⊕ minus_sum x y ⊗ minus_sum z w)
    × (of e₃ ≡ minus_sum x y ⊗ (of z ⊗ of w) ⊕ of x ⊗ of y ⊗ minus_sum z w)
    × (of e₄ ≡ of x ⊗ of y ⊗ (of z ⊗ of w))

-- one factor, behind n zeros
factor : (n x : ℕ) (s : List ℕ) (i : ℕ) → of (get_or (raised n (lin_n x 0 s)) i 0) ≡ of (get_or (raised (suc n) s) i 0) ⊝ of x ⊗ of (get_or (raised (suc n) s) (suc i) 0)
factor zero x s i = of_lin_n x 0 s i
factor (suc n) x s zero = none 0 x
factor (suc n) x s (suc i) = factor n x s i

-- two
pair : (n x y : ℕ) (s : List ℕ) (i : ℕ)
    → of (get_or (raised n (lin_n x 0 (lin_n y 0 s))) i 0)
    ≡ of (get_or (raised (suc (suc n)) s) i 0) ⊕ minus_sum x y ⊗ of (get_or (raised (suc (suc n)) s) (suc i) 0) ⊕ of x ⊗ of y ⊗ of (get_or (raised (suc (suc n)) s) (suc (suc i)) 0)
pair n x y s i =
    factor n x (lin_n y 0 s) i
    ∙ ap₂ (λ (a b : K). a ⊝ of x ⊗ b) (factor (suc n) y s i) (factor (suc n) y s (suc i))
    ∙ step (of x) (of y) (of (get_or (raised (suc (suc n)) s) i 0)) (of (get_or (raised (suc (suc n)) s) (suc i) 0)) (of (get_or (raised (suc (suc n)) s) (suc (suc i)) 0))
  where
    step : (x y a b c : K) → (a ⊝ y ⊗ b) ⊝ x ⊗ (b ⊝ y ⊗ c) ≡ a ⊕ ⊖ (x ⊕ y) ⊗ b ⊕ x ⊗ y ⊗ c
    step x y a b c = rw (← dv a, ← dv b, ← dv c, ← dv x, ← dv y) (simp ring (dif_path _ _ _ _ (omega arith)))

-- four: entry i is s (i - 4) + e₁ s (i - 3) + .. + e₄ s i
quartic_times : (x y z w e₁ e₂ e₃ e₄ : ℕ) (s : List ℕ) (i : ℕ) → Factored x y z w e₁ e₂ e₃ e₄
    → of (get_or (times_n (x ∷ y ∷ z ∷ w ∷ []) s) i 0)
    ≡ five (of e₁) (of e₂) (of e₃) (of e₄) (of (get_or (raised 4 s) i 0)) (of (get_or (raised 3 s) i 0)) (of (get_or (raised 2 s) i 0)) (of (get_or (raised 1 s) i 0)) (of (get_or s i 0))
unfolding times_n five
quartic_times x y z w e₁ e₂ e₃ e₄ s i h =
    pair 0 x y (lin_n z 0 (lin_n w 0 s)) i
    ∙ ap₂ (λ (u v : K). u ⊕ minus_sum x y ⊗ v ⊕ of x ⊗ of y ⊗ of (get_or (raised 2 (lin_n z 0 (lin_n w 0 s))) (suc (suc i)) 0)) (pair 2 z w s i) (pair 2 z w s (suc i))
    ∙ ap (λ (v : K). first ⊕ minus_sum x y ⊗ second ⊕ of x ⊗ of y ⊗ v) (pair 2 z w s (suc (suc i)))
    ∙ step (minus_sum x y) (of x ⊗ of y) (minus_sum z w) (of z ⊗ of w) (of (get_or (raised 4 s) i 0)) (of (get_or (raised 3 s) i 0)) (of (get_or (raised 2 s) i 0)) (of (get_or (raised 1 s) i 0)) (of (get_or s i 0))
    ∙ rw (h.0, h.1, h.2, h.3) refl
  where
    first : K
    first = of (get_or (raised 4 s) i 0) ⊕ minus_sum z w ⊗ of (get_or (raised 3 s) i 0) ⊕ of z ⊗ of w ⊗ of (get_or (raised 2 s) i 0)

    second : K
    second = of (get_or (raised 3 s) i 0) ⊕ minus_sum z w ⊗ of (get_or (raised 2 s) i 0) ⊕ of z ⊗ of w ⊗ of (get_or (raised 1 s) i 0)

    step : (a b c d u v s t r : K)
        → (u ⊕ c ⊗ v ⊕ d ⊗ s) ⊕ a ⊗ (v ⊕ c ⊗ s ⊕ d ⊗ t) ⊕ b ⊗ (s ⊕ c ⊗ t ⊕ d ⊗ r) ≡ five (a ⊕ c) (b ⊕ d ⊕ a ⊗ c) (a ⊗ d ⊕ b ⊗ c) (b ⊗ d) u v s t r
    step a b c d u v s t r = rw (← dv a, ← dv b, ← dv c, ← dv d, ← dv u, ← dv v, ← dv s, ← dv t, ← dv r) (simp ring (dif_path _ _ _ _ (omega arith)))

-- ---- the first four entries, plus the four factors times the others

abbrev pub quartic_at : (e₁ e₂ e₃ e₄ : ℕ) → List ℕ → ℕ → ℕ
quartic_at e₁ e₂ e₃ e₄ s i =
    five_n e₁ e₂ e₃ e₄ (get_or s i 0) (get_or (raised 3 (drop 4 s)) i 0) (get_or (raised 2 (drop 4 s)) i 0) (get_or (raised 1 (drop 4 s)) i 0) (get_or (drop 4 s) i 0)

-- the last entry stays
abbrev pub quartic_n : (e₁ e₂ e₃ e₄ : ℕ) → List ℕ → List ℕ
quartic_n e₁ e₂ e₃ e₄ s = filled (quartic_at e₁ e₂ e₃ e₄ s) (length s - 1) s

front_or_rest : (p s : List ℕ) (i : ℕ) → of (get_or (p ++ s) i 0) ≡ of (get_or p i 0) ⊕ of (get_or (raised (length p) s) i 0)
front_or_rest [] s i = sym (zero_plus (of (get_or s i 0)))
front_or_rest (a ∷ p) s zero = zero_right a
front_or_rest (a ∷ p) s (suc i) = front_or_rest p s i

five_plus : (p e₁ e₂ e₃ e₄ a b c d e : K) → p ⊕ five e₁ e₂ e₃ e₄ a b c d e ≡ five e₁ e₂ e₃ e₄ (p ⊕ a) b c d e
unfolding five
five_plus p e₁ e₂ e₃ e₄ a b c d e =
    rw (← dv p, ← dv e₁, ← dv e₂, ← dv e₃, ← dv e₄, ← dv a, ← dv b, ← dv c, ← dv d, ← dv e) (simp ring (dif_path _ _ _ _ (omega arith)))

-- the last entry of a form over s is that of s, and the others are reduced
onto_end : (xs cs s : List ℕ) (m : ℕ) → length cs ≡ length xs → suc m ≡ length s → get_or (onto_n xs cs s) (length xs + m) 0 ≡ get_or s m 0
unfolding onto_n sweep_n
onto_end [] cs s m l e = ap (λ (k : ℕ). get_or s k 0) (zero-add m)
onto_end (x ∷ xs) [] s m l e = absurd (suc-ne-zero _ (sym l))
onto_end (x ∷ xs) (c ∷ cs) s m l e =
    ap (λ (k : ℕ). get_or (lin_n x c (onto_n xs cs s)) k 0) (suc-add (length xs) m)
    ∙ sweep_n_end x (c ∷ onto_n xs cs s) (suc (length xs + m)) (ap suc (omega (arith, length-onto_n xs cs s (suc_inj l))))
    ∙ onto_end xs cs s m (suc_inj l) e

onto_below : (x : ℕ) (xs cs s : List ℕ) (i : ℕ) → length cs ≡ suc (length xs) → i < length xs + length s → get_or (onto_n (x ∷ xs) cs s) i 0 < q
unfolding onto_n sweep_n
onto_below x xs [] s i l u = absurd (suc-ne-zero _ (sym l))
onto_below x xs (c ∷ cs) s i l u =
    let m : suc i < length (c ∷ onto_n xs cs s) = suc-le-suc (subst (λ (k : ℕ). i < k) (sym (length-onto_n xs cs s (suc_inj l))) u) in
    subst (λ (t : ℕ). t < q) (sym (sweep_n_at x (c ∷ onto_n xs cs s) i m)) (mod-lt _ (lit< tt))

module _ (x y z w e₁ e₂ e₃ e₄ : ℕ) (cs s : List ℕ) (h : Factored x y z w e₁ e₂ e₃ e₄) (l : length cs ≡ 4) where
  abbrev points : List ℕ
  points = x ∷ y ∷ z ∷ w ∷ []

  low : length (nform_n points cs) ≡ 4
  low = length-nform_n points cs l

  of_entry : (i : ℕ) → of (get_or (onto_n points cs s) i 0) ≡ of (quartic_at e₁ e₂ e₃ e₄ (nform_n points cs ++ s) i)
  of_entry i =
      onto_sum points cs s i l
      ∙ ap (λ (t : K). of (get_or (nform_n points cs) i 0) ⊕ t) (quartic_times x y z w e₁ e₂ e₃ e₄ s i h)
      ∙ five_plus (of (get_or (nform_n points cs) i 0)) (of e₁) (of e₂) (of e₃) (of e₄) (of (get_or (raised 4 s) i 0)) (of (get_or (raised 3 s) i 0)) (of (get_or (raised 2 s) i 0)) (of (get_or (raised 1 s) i 0)) (of (get_or s i 0))
      ∙ ap (λ (t : K). five (of e₁) (of e₂) (of e₃) (of e₄) t (of (get_or (raised 3 s) i 0)) (of (get_or (raised 2 s) i 0)) (of (get_or (raised 1 s) i 0)) (of (get_or s i 0)))
      (ap (λ (k : ℕ). of (get_or (nform_n points cs) i 0) ⊕ of (get_or (raised k s) i 0)) (sym low) ∙ sym (front_or_rest (nform_n points cs) s i))
      ∙ sym (of_five_n e₁ e₂ e₃ e₄ (get_or (nform_n points cs ++ s) i 0) (get_or (raised 3 s) i 0) (get_or (raised 2 s) i 0) (get_or (raised 1 s) i 0) (get_or s i 0))
      ∙ ap (λ (t : List ℕ). of (five_n e₁ e₂ e₃ e₄ (get_or (nform_n points cs ++ s) i 0) (get_or (raised 3 t) i 0) (get_or (raised 2 t) i 0) (get_or (raised 1 t) i 0) (get_or t i 0))) (sym (drop_at (nform_n points cs) s 4 low))

  four_points : 0 < length s → onto_n points cs s ≡ quartic_n e₁ e₂ e₃ e₄ (nform_n points cs ++ s)
  four_points u = ext_get_or 0 (onto_n points cs s) (filled f n p) (count ∙ sym full) (λ (i : ℕ) (b : i < length (onto_n points cs s)). ⊎_elim (inner i) (final i) (le-suc_iff.0 (within i b)))
    where
      p : List ℕ
      p = nform_n points cs ++ s

      n : ℕ
      n = length p - 1

      f : ℕ → ℕ
      f = quartic_at e₁ e₂ e₃ e₄ p

      size : length p ≡ 4 + length s
      size = length-append (nform_n points cs) s ∙ ap (λ (k : ℕ). k + length s) low

      count : length (onto_n points cs s) ≡ 4 + length s
      count = length-onto_n points cs s l

      full : length (filled f n p) ≡ 4 + length s
      full = length-append (tabulate n f) (drop n p) ∙ omega (arith, length-tabulate n f, length-drop n p, size)

      within : (i : ℕ) → i < length (onto_n points cs s) → suc i ≤ suc n
      within i b = omega (arith, count, size)

      inner : (i : ℕ) → suc i ≤ n → get_or (onto_n points cs s) i 0 ≡ get_or (filled f n p) i 0
      inner i b =
          of_injective (get_or (onto_n points cs s) i 0) (f i) (onto_below x (y ∷ z ∷ w ∷ []) cs s i l (omega (arith, size))) (mod-lt _ (lit< tt)) (of_entry i)
          ∙ sym (filled_front f n (tabulate n f) (drop n p) refl i (omega arith) b)

      final : (i : ℕ) → suc i ≡ suc n → get_or (onto_n points cs s) i 0 ≡ get_or (filled f n p) i 0
      final i e =
          let m : i ≡ 4 + (length s - 1) = omega (arith, size) in
          let k : n ≡ length (nform_n points cs) + (length s - 1) = omega (arith, size, low) in
          ap (λ (j : ℕ). get_or (onto_n points cs s) j 0) m
          ∙ onto_end points cs s (length s - 1) l (omega arith)
          ∙ sym (get_or-append-add (nform_n points cs) s (length s - 1) 0)
          ∙ ap (λ (j : ℕ). get_or p j 0) (sym k)
          ∙ sym (fill-kept f n p (omega (arith, size)))
          ∙ ap (λ (j : ℕ). get_or (filled f n p) j 0) (sym (suc_inj e))

-- the first four coefficients expanded by themselves, then swept
pub expand_four : (xs s low r : List ℕ) (e₁ e₂ e₃ e₄ : ℕ) → length xs ≡ 4 → 4 < length s → Factored (get_or xs 0 0) (get_or xs 1 0) (get_or xs 2 0) (get_or xs 3 0) e₁ e₂ e₃ e₄
    → low ≡ nform_n xs (take 4 s) → r ≡ quartic_n e₁ e₂ e₃ e₄ (low ++ drop 4 s) → r ≡ onto_n xs (take 4 s) (drop 4 s)
expand_four (x ∷ y ∷ z ∷ w ∷ []) s low r e₁ e₂ e₃ e₄ l u h f g =
    g
    ∙ ap (λ (t : List ℕ). quartic_n e₁ e₂ e₃ e₄ (t ++ drop 4 s)) f
    ∙ sym (four_points x y z w e₁ e₂ e₃ e₄ (take 4 s) (drop 4 s) h (length-take-le 4 s (omega arith)) (omega (arith, length-drop 4 s)))
expand_four [] s low r e₁ e₂ e₃ e₄ l u h f g = absurd (suc-ne-zero _ (sym l))
expand_four (x ∷ []) s low r e₁ e₂ e₃ e₄ l u h f g = absurd (suc-ne-zero _ (suc_inj (sym l)))
expand_four (x ∷ y ∷ []) s low r e₁ e₂ e₃ e₄ l u h f g = absurd (suc-ne-zero _ (suc_inj (suc_inj (sym l))))
expand_four (x ∷ y ∷ z ∷ []) s low r e₁ e₂ e₃ e₄ l u h f g = absurd (suc-ne-zero _ (suc_inj (suc_inj (suc_inj (sym l)))))
expand_four (x ∷ y ∷ z ∷ w ∷ v ∷ xs) s low r e₁ e₂ e₃ e₄ l u h f g = absurd (suc-ne-zero _ (suc_inj (suc_inj (suc_inj (suc_inj l)))))

-- ---- the loop: the places before i are new, the others are as they were

raised_at : (n j : ℕ) (s : List ℕ) → get_or (raised n s) (n + j) 0 ≡ get_or s j 0
raised_at zero j s = ap (λ (k : ℕ). get_or s k 0) (zero-add j)
raised_at (suc n) j s = ap (λ (k : ℕ). get_or (0 ∷ raised n s) k 0) (suc-add n j) ∙ raised_at n j s

module _ (e₁ e₂ e₃ e₄ : ℕ) (s : List ℕ) where
  abbrev entries : ℕ → ℕ
  entries = quartic_at e₁ e₂ e₃ e₄ s

  next : (now : List ℕ) (i v : ℕ) → i < length s → now ≡ filled entries i s → v ≡ entries i → set now i v ≡ filled entries (i + 1) s
  next now i v l e h = ap₂ (λ (t : List ℕ) (u : ℕ). set t i u) e h ∙ fill_more entries i s l

  old : (now : List ℕ) (i j : ℕ) → i ≤ length s → i ≤ j → now ≡ filled entries i s → get_or now j 0 ≡ get_or s j 0
  old now i j l m e =
      let n : j ≡ length (tabulate i entries) + (j - i) = omega (arith, length-tabulate i entries) in
      let k : i + (j - i) ≡ j = omega arith in
      ap₂ (λ (t : List ℕ) (u : ℕ). get_or t u 0) e n
      ∙ get_or-append-add (tabulate i entries) (drop i s) (j - i) 0
      ∙ get_or-drop i s (j - i) 0
      ∙ ap (λ (u : ℕ). get_or s u 0) k

  behind : (n k i : ℕ) → n ≤ i → n + k ≡ 4 → get_or (raised n (drop 4 s)) i 0 ≡ get_or s (i + k) 0
  behind n k i l e =
      let m : i ≡ n + (i - n) = omega arith in
      let o : 4 + (i - n) ≡ i + k = omega arith in
      ap (λ (j : ℕ). get_or (raised n (drop 4 s)) j 0) m ∙ raised_at n (i - n) (drop 4 s) ∙ get_or-drop 4 s (i - n) 0 ∙ ap (λ (j : ℕ). get_or s j 0) o

  -- at a place i from 4 on; a to e are the entries from it on, 0 beyond the end
  pub quartic_turn : (now : List ℕ) (i v a b c d e : ℕ) → 4 ≤ i → i < length s → now ≡ filled entries i s
      → a ≡ get_or now i 0 → b ≡ get_or now (i + 1) 0 → c ≡ get_or now (i + 2) 0 → d ≡ get_or now (i + 3) 0 → e ≡ get_or now (i + 4) 0
      → v ≡ five_n e₁ e₂ e₃ e₄ a b c d e → set now i v ≡ filled entries (i + 1) s
  quartic_turn now i v a b c d e l u h ha hb hc hd he hv =
      let fa : a ≡ get_or s i 0 = ha ∙ old now i i (omega arith) (omega arith) h in
      let fb : b ≡ get_or (raised 3 (drop 4 s)) i 0 = hb ∙ old now i (i + 1) (omega arith) (omega arith) h ∙ sym (behind 3 1 i (omega arith) refl) in
      let fc : c ≡ get_or (raised 2 (drop 4 s)) i 0 = hc ∙ old now i (i + 2) (omega arith) (omega arith) h ∙ sym (behind 2 2 i (omega arith) refl) in
      let fd : d ≡ get_or (raised 1 (drop 4 s)) i 0 = hd ∙ old now i (i + 3) (omega arith) (omega arith) h ∙ sym (behind 1 3 i (omega arith) refl) in
      let fe : e ≡ get_or (drop 4 s) i 0 = he ∙ old now i (i + 4) (omega arith) (omega arith) h ∙ sym (behind 0 4 i (omega arith) refl) in
      next now i v u h (hv ∙ rw (fa, fb, fc, fd, fe) refl)

  -- at the first four places; a to d are the four entries behind them
  pub quartic_first : (v₀ v₁ v₂ v₃ : ℕ) → 8 ≤ length s
      → v₀ ≡ five_n e₁ e₂ e₃ e₄ (get_or s 0 0) 0 0 0 (get_or s 4 0)
      → v₁ ≡ five_n e₁ e₂ e₃ e₄ (get_or (set s 0 v₀) 1 0) 0 0 (get_or s 4 0) (get_or s 5 0)
      → v₂ ≡ five_n e₁ e₂ e₃ e₄ (get_or (set (set s 0 v₀) 1 v₁) 2 0) 0 (get_or s 4 0) (get_or s 5 0) (get_or s 6 0)
      → v₃ ≡ five_n e₁ e₂ e₃ e₄ (get_or (set (set (set s 0 v₀) 1 v₁) 2 v₂) 3 0) (get_or s 4 0) (get_or s 5 0) (get_or s 6 0) (get_or s 7 0)
      → set (set (set (set s 0 v₀) 1 v₁) 2 v₂) 3 v₃ ≡ filled entries 4 s
  quartic_first v₀ v₁ v₂ v₃ l h₀ h₁ h₂ h₃ =
      let d0 : get_or (drop 4 s) 0 0 ≡ get_or s 4 0 = get_or-drop 4 s 0 0 in
      let d1 : get_or (drop 4 s) 1 0 ≡ get_or s 5 0 = get_or-drop 4 s 1 0 in
      let d2 : get_or (drop 4 s) 2 0 ≡ get_or s 6 0 = get_or-drop 4 s 2 0 in
      let d3 : get_or (drop 4 s) 3 0 ≡ get_or s 7 0 = get_or-drop 4 s 3 0 in
      let s₁ : set s 0 v₀ ≡ filled entries 1 s = next s 0 v₀ (omega arith) refl (h₀ ∙ rw d0 refl) in
      let s₂ : set (set s 0 v₀) 1 v₁ ≡ filled entries 2 s = next (set s 0 v₀) 1 v₁ (omega arith) s₁ (h₁ ∙ rw (d0, d1, old (set s 0 v₀) 1 1 (omega arith) (omega arith) s₁) refl) in
      let s₃ : set (set (set s 0 v₀) 1 v₁) 2 v₂ ≡ filled entries 3 s =
      next (set (set s 0 v₀) 1 v₁) 2 v₂ (omega arith) s₂ (h₂ ∙ rw (d0, d1, d2, old (set (set s 0 v₀) 1 v₁) 2 2 (omega arith) (omega arith) s₂) refl) in
      next (set (set (set s 0 v₀) 1 v₁) 2 v₂) 3 v₃ (omega arith) s₃ (h₃ ∙ rw (d0, d1, d2, d3, old (set (set (set s 0 v₀) 1 v₁) 2 v₂) 3 3 (omega arith) (omega arith) s₃) refl)

  -- at the last four places, of which the last stays
  pub quartic_last : (now : List ℕ) (i v₀ v₁ v₂ : ℕ) → 4 ≤ i → i + 4 ≡ length s → now ≡ filled entries i s
      → v₀ ≡ five_n e₁ e₂ e₃ e₄ (get_or now i 0) (get_or now (i + 1) 0) (get_or now (i + 2) 0) (get_or now (i + 3) 0) 0
      → v₁ ≡ five_n e₁ e₂ e₃ e₄ (get_or (set now i v₀) (i + 1) 0) (get_or (set now i v₀) (i + 2) 0) (get_or (set now i v₀) (i + 3) 0) 0 0
      → v₂ ≡ five_n e₁ e₂ e₃ e₄ (get_or (set (set now i v₀) (i + 1) v₁) (i + 2) 0) (get_or (set (set now i v₀) (i + 1) v₁) (i + 3) 0) 0 0 0
      → set (set (set now i v₀) (i + 1) v₁) (i + 2) v₂ ≡ quartic_n e₁ e₂ e₃ e₄ s
  quartic_last now i v₀ v₁ v₂ l u h h₀ h₁ h₂ =
      let s₁ : set now i v₀ ≡ filled entries (i + 1) s =
      quartic_turn now i v₀ (get_or now i 0) (get_or now (i + 1) 0) (get_or now (i + 2) 0) (get_or now (i + 3) 0) 0 l (omega arith) h refl refl refl refl (beyond now i (i + 4) (omega arith) (omega arith) h) h₀ in
      let s₂ : set (set now i v₀) (i + 1) v₁ ≡ filled entries (i + 2) s =
      quartic_turn (set now i v₀) (i + 1) v₁ (get_or (set now i v₀) (i + 1) 0) (get_or (set now i v₀) (i + 2) 0) (get_or (set now i v₀) (i + 3) 0) 0 0 (omega arith) (omega arith) s₁ refl
      (place (set now i v₀) (i + 2) (i + 1 + 1) (omega arith)) (place (set now i v₀) (i + 3) (i + 1 + 2) (omega arith)) (beyond (set now i v₀) (i + 1) (i + 1 + 3) (omega arith) (omega arith) s₁)
      (beyond (set now i v₀) (i + 1) (i + 1 + 4) (omega arith) (omega arith) s₁) h₁
      ∙ to (i + 1 + 1) (i + 2) (omega arith) in
      let r : List ℕ = set (set now i v₀) (i + 1) v₁ in
      quartic_turn r (i + 2) v₂ (get_or r (i + 2) 0) (get_or r (i + 3) 0) 0 0 0 (omega arith) (omega arith) s₂ refl (place r (i + 3) (i + 2 + 1) (omega arith)) (beyond r (i + 2) (i + 2 + 2) (omega arith) (omega arith) s₂)
      (beyond r (i + 2) (i + 2 + 3) (omega arith) (omega arith) s₂) (beyond r (i + 2) (i + 2 + 4) (omega arith) (omega arith) s₂) h₂
      ∙ to (i + 2 + 1) (length s - 1) (omega arith)
    where
      beyond : (now : List ℕ) (i j : ℕ) → i ≤ length s → length s ≤ j → now ≡ filled entries i s → 0 ≡ get_or now j 0
      beyond now i j l m h = sym (old now i j l (omega arith) h ∙ get_or-eq_default s 0 {n = j} m)

      place : (t : List ℕ) (j k : ℕ) → j ≡ k → get_or t j 0 ≡ get_or t k 0
      place t j k e = ap (λ (m : ℕ). get_or t m 0) e

      to : (j k : ℕ) → j ≡ k → filled entries j s ≡ filled entries k s
      to j k e = ap (λ (m : ℕ). filled entries m s) e

-- ---- the coefficients of the product, and sums of folded products

pub factored : (x y z w a b c d e₁ t e₂ r e₃ e₄ : ℕ) → x ≤ q → y ≤ q → z ≤ q → w ≤ q
    → a ≡ sub_n (sub_n 0 x) y → b ≡ x * y % q → c ≡ sub_n (sub_n 0 z) w → d ≡ z * w % q
    → e₁ ≡ sub_n (sub_n a z) w → t ≡ (b + z * w) % q → e₂ ≡ (t + a * c) % q → r ≡ a * d % q → e₃ ≡ (r + b * c) % q → e₄ ≡ b * d % q
    → Factored x y z w e₁ e₂ e₃ e₄
factored x y z w a b c d e₁ t e₂ r e₃ e₄ lx ly lz lw ha hb hc hd h₁ ht h₂ hr h₃ h₄ =
    let fa : of a ≡ minus_sum x y = ap of ha ∙ less 0 x y lx ly ∙ zero_plus (minus_sum x y) in
    let fb : of b ≡ of x ⊗ of y = ap of hb ∙ of_mod _ ∙ sym (of_mul x y) in
    let fc : of c ≡ minus_sum z w = ap of hc ∙ less 0 z w lz lw ∙ zero_plus (minus_sum z w) in
    let fd : of d ≡ of z ⊗ of w = ap of hd ∙ of_mod _ ∙ sym (of_mul z w) in (
      ap of h₁ ∙ less a z w lz lw ∙ ap (λ (k : K). k ⊕ minus_sum z w) fa,
      ap of h₂ ∙ of_mod _ ∙ more t a c ∙ ap₂ ◌⊕◌ (ap of ht ∙ of_mod _ ∙ more b z w ∙ ap (λ (k : K). k ⊕ of z ⊗ of w) fb) (ap₂ ◌⊗◌ fa fc),
      ap of h₃ ∙ of_mod _ ∙ more r b c ∙ ap₂ ◌⊕◌ (ap of hr ∙ of_mod _ ∙ sym (of_mul a d) ∙ ap₂ ◌⊗◌ fa fd) (ap₂ ◌⊗◌ fb fc),
      ap of h₄ ∙ of_mod _ ∙ sym (of_mul b d) ∙ ap₂ ◌⊗◌ fb fd,
    )
  where
    less : (m x y : ℕ) → x ≤ q → y ≤ q → of (sub_n (sub_n m x) y) ≡ of m ⊕ minus_sum x y
    less m x y l u = of_sub_n (sub_n m x) y u ∙ ap (λ (k : K). k ⊝ of y) (of_sub_n m x l) ∙ step (of m) (of x) (of y)
      where
        step : (m x y : K) → m ⊝ x ⊝ y ≡ m ⊕ ⊖ (x ⊕ y)
        step m x y = rw (← dv m, ← dv x, ← dv y) (simp ring (dif_path _ _ _ _ (omega arith)))

-- products folded
pub five_folded : (a p₁ p₂ p₃ p₄ r₁ r₂ r₃ r₄ : ℕ) → r₁ % q ≡ p₁ % q → r₂ % q ≡ p₂ % q → r₃ % q ≡ p₃ % q → r₄ % q ≡ p₄ % q → (a + r₁ + r₂ + r₃ + r₄) % q ≡ (a + p₁ + p₂ + p₃ + p₄) % q
five_folded a p₁ p₂ p₃ p₄ r₁ r₂ r₃ r₄ h₁ h₂ h₃ h₄ =
    grow (a + r₁ + r₂ + r₃) (a + p₁ + p₂ + p₃) r₄ p₄ (grow (a + r₁ + r₂) (a + p₁ + p₂) r₃ p₃ (grow (a + r₁) (a + p₁) r₂ p₂ (grow a a r₁ p₁ refl h₁) h₂) h₃) h₄
  where
    grow : (m n r p : ℕ) → m % q ≡ n % q → r % q ≡ p % q → (m + r) % q ≡ (n + p) % q
    grow m n r p e f = add-mod m r q ∙ ap₂ (λ (s t : ℕ). (s + t) % q) e f ∙ sym (add-mod n p q)

-- ---- a turn of the expansion: the four points from k on
pub expand_block : (xs s : List ℕ) (k : ℕ) → length s ≡ length xs → k + 4 ≤ length xs
    → take k (expanded xs s (k + 4)) ++ onto_n (take 4 (drop k xs)) (take 4 (drop k (expanded xs s (k + 4)))) (drop 4 (drop k (expanded xs s (k + 4)))) ≡ expanded xs s k
expand_block xs s k e l =
    let r : List ℕ = nform_n (drop (k + 4) xs) (drop (k + 4) s) in
    let a : length (take k s) ≡ k = length-take-le k s (omega arith) in
    let b : length (take 4 (drop k s)) ≡ 4 = length-take-le 4 (drop k s) (omega (arith, length-drop k s)) in
    let g : expanded xs s (k + 4) ≡ take k s ++ (take 4 (drop k s) ++ r) = ap (λ (t : List ℕ). t ++ r) (take-add k 4 s) ∙ append_assoc (take k s) (take 4 (drop k s)) r in
    let h : drop k (expanded xs s (k + 4)) ≡ take 4 (drop k s) ++ r = ap (drop k) g ∙ drop_at (take k s) (take 4 (drop k s) ++ r) k a in
    ap₂ (λ (t u : List ℕ). t ++ onto_n (take 4 (drop k xs)) (take 4 u) (drop 4 u)) (ap (take k) g ∙ take_at (take k s) (take 4 (drop k s) ++ r) k a) h
    ∙ ap₂ (λ (t u : List ℕ). take k s ++ onto_n (take 4 (drop k xs)) t u) (take_at (take 4 (drop k s)) r 4 b)
    (drop_at (take 4 (drop k s)) r 4 b ∙ sym (ap₂ nform_n (drop-drop 4 k xs) (drop-drop 4 k s)))
    ∙ ap (λ (t : List ℕ). take k s ++ t) (onto_form 4 (drop k xs) (drop k s) (length-drop k s ∙ ap (λ (n : ℕ). n - k) e ∙ sym (length-drop k xs)) (omega (arith, length-drop k xs)))
