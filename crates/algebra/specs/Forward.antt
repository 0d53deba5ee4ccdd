-- Interpolation over consecutive points by forward differences: the coefficient k of Newton's form is the difference k at the first point over k factorial.
use Rattle.std.specs.Prelude.{◌≡◌, refl, List, [], ◌∷◌, ℕ, zero, suc, ◌+◌, ◌*◌, ◌%◌, ◌≤◌, ◌<◌, length, get_or}
use Rattle.std.proofs.Common.{sym, ◌∙◌, ap, ap₂, not-suc-le-zero, mod-lt, add-zero, suc-add, add-suc, arith, lit<}
use Rattle.lists.specs.Range.{up_from}
use Rattle.lists.specs.Tabulate.{tabulate, tabulate_from}
use Rattle.algebra.specs.Prime.{q}
use Rattle.algebra.specs.Field.{K, of, of_add, of_mul, of_one, of_suc, of_zero, ◌⊕◌, ◌⊗◌, ◌⊝◌, 𝟎, 𝟏, dv, ring, dif_path, ⊕-zero, ⊕-⊝}
use Rattle.algebra.specs.Lagrange.{Table}
use Rattle.algebra.specs.Differences.{difference, difference_n, of_difference_n}
use Rattle.algebra.specs.Table.{inverse_factorials, inverse_factorial, inverse_factorial_is}
use Rattle.algebra.specs.Numbers.{ofs, Elements}
use Rattle.algebra.specs.Divided.{sub_n, of_sub_n, of_mod, nev_n}

-- ---- sums of falling powers, c₀ + z (c₁ + (z - 1) (c₂ + ..))
pub falling : List K → K → K
falling [] z = 𝟎
falling (c ∷ cs) z = c ⊕ z ⊗ falling cs (z ⊝ 𝟏)

-- each coefficient times its number, which begin with p
numbered : ℕ → List K → List K
numbered p [] = []
numbered p (c ∷ cs) = (of p ⊗ c) ∷ numbered (suc p) cs

falling-numbered : (p : ℕ) (cs : List K) (z : K) → falling (numbered (suc p) cs) z ≡ falling cs z ⊕ falling (numbered p cs) z
unfolding falling numbered
falling-numbered p [] z = sym (⊕-zero 𝟎)
falling-numbered p (c ∷ cs) z =
    ap₂ (λ (n t : K). n ⊗ c ⊕ z ⊗ t) (of_suc p) (falling-numbered (suc p) cs (z ⊝ 𝟏))
    ∙ step (of p) c z (falling cs (z ⊝ 𝟏)) (falling (numbered (suc p) cs) (z ⊝ 𝟏))
  where
    step : (p c z f g : K) → (p ⊕ 𝟏) ⊗ c ⊕ z ⊗ (f ⊕ g) ≡ (c ⊕ z ⊗ f) ⊕ (p ⊗ c ⊕ z ⊗ g)
    step p c z f g = rw (← dv p, ← dv c, ← dv z, ← dv f, ← dv g) (simp ring (dif_path _ _ _ _ (omega arith)))

-- from z to z + 1: the difference of a falling power is its number times the one below
falling_next : (c : K) (cs : List K) (z : K) → falling (c ∷ cs) (z ⊕ 𝟏) ≡ falling (c ∷ cs) z ⊕ falling (numbered 1 cs) z
unfolding falling numbered
falling_next c [] z = none c z
  where
    none : (c z : K) → c ⊕ (z ⊕ 𝟏) ⊗ 𝟎 ≡ (c ⊕ z ⊗ 𝟎) ⊕ 𝟎
    none c z = rw (← dv c, ← dv z) (simp ring (dif_path _ _ _ _ (omega arith)))
falling_next c (d ∷ ds) z =
    ap (λ (t : K). c ⊕ (z ⊕ 𝟏) ⊗ falling (d ∷ ds) t) (up z)
    ∙ split c z (falling (d ∷ ds) z)
    ∙ ap (λ (t : K). c ⊕ z ⊗ t ⊕ falling (d ∷ ds) z) (ap (falling (d ∷ ds)) (sym (down z)) ∙ falling_next d ds (z ⊝ 𝟏))
    ∙ join c d z (falling ds (z ⊝ 𝟏)) (falling (d ∷ ds) (z ⊝ 𝟏)) (falling (numbered 1 ds) (z ⊝ 𝟏))
    ∙ ap₂ (λ (n t : K). (c ⊕ z ⊗ falling (d ∷ ds) (z ⊝ 𝟏)) ⊕ (n ⊗ d ⊕ z ⊗ t)) (sym of_one) (sym (falling-numbered 1 ds (z ⊝ 𝟏)))
  where
    up : (z : K) → z ⊕ 𝟏 ⊝ 𝟏 ≡ z
    up z = rw (← dv z) (simp ring (dif_path _ _ _ _ (omega arith)))

    down : (z : K) → z ⊝ 𝟏 ⊕ 𝟏 ≡ z
    down z = rw (← dv z) (simp ring (dif_path _ _ _ _ (omega arith)))

    split : (c z f : K) → c ⊕ (z ⊕ 𝟏) ⊗ f ≡ c ⊕ z ⊗ f ⊕ f
    split c z f = rw (← dv c, ← dv z, ← dv f) (simp ring (dif_path _ _ _ _ (omega arith)))

    join : (c d z f g h : K) → c ⊕ z ⊗ (g ⊕ h) ⊕ (d ⊕ z ⊗ f) ≡ (c ⊕ z ⊗ g) ⊕ (𝟏 ⊗ d ⊕ z ⊗ (f ⊕ h))
    join c d z f g h = rw (← dv c, ← dv d, ← dv z, ← dv f, ← dv g, ← dv h) (simp ring (dif_path _ _ _ _ (omega arith)))

-- ---- Newton's forward formula
-- n coefficients from the number m on: D over factorials
pub over : (ℕ → K) → (ℕ → K) → ℕ → ℕ → List K
over T D zero m = []
over T D (suc n) m = (D m ⊗ T m) ∷ over T D n (suc m)

numbered_over : (T : ℕ → K) (size : ℕ) → Table T size → (D : ℕ → K) (n m : ℕ) → m + n < size → numbered (suc m) (over T D n (suc m)) ≡ over T (λ k. D (suc k)) n m
unfolding numbered over
numbered_over T size h D zero m l = refl
numbered_over T size h D (suc n) m l =
    ap₂ (λ (c : K) (t : List K). c ∷ t)
    (swap (of (suc m)) (D (suc m)) (T (suc m)) ∙ ap (λ (t : K). D (suc m) ⊗ t) (h.next m (omega arith)))
    (numbered_over T size h D n (suc m) (omega arith))
  where
    swap : (n d t : K) → n ⊗ (d ⊗ t) ≡ d ⊗ (t ⊗ n)
    swap n d t = rw (← dv n, ← dv d, ← dv t) (simp ring (dif_path _ _ _ _ (omega arith)))

falling_over : (T D E : ℕ → K) (n m : ℕ) (z : K) → falling (over T (λ k. D k ⊝ E k) n m) z ≡ falling (over T D n m) z ⊝ falling (over T E n m) z
unfolding falling over
falling_over T D E zero m z = none
  where
    none : 𝟎 ≡ 𝟎 ⊝ 𝟎
    none = simp ring
falling_over T D E (suc n) m z =
    ap (λ (t : K). (D m ⊝ E m) ⊗ T m ⊕ z ⊗ t) (falling_over T D E n (suc m) (z ⊝ 𝟏))
    ∙ step (D m) (E m) (T m) z (falling (over T D n (suc m)) (z ⊝ 𝟏)) (falling (over T E n (suc m)) (z ⊝ 𝟏))
  where
    step : (d e t z f g : K) → (d ⊝ e) ⊗ t ⊕ z ⊗ (f ⊝ g) ≡ (d ⊗ t ⊕ z ⊗ f) ⊝ (e ⊗ t ⊕ z ⊗ g)
    step d e t z f g = rw (← dv d, ← dv e, ← dv t, ← dv z, ← dv f, ← dv g) (simp ring (dif_path _ _ _ _ (omega arith)))

pub newton_forward : (T : ℕ → K) (size : ℕ) → Table T size → (f : ℕ → K) (j i n : ℕ) → j ≤ n → n < size → falling (over T (λ k. difference k f i) (suc n) 0) (of j) ≡ f (i + j)
unfolding falling over difference
newton_forward T size h f zero i n l u =
    ap₂ (λ (t z : K). f i ⊗ t ⊕ z ⊗ falling (over T (λ k. difference k f i) n 1) (z ⊝ 𝟏)) h.first of_zero
    ∙ none (f i) (falling (over T (λ k. difference k f i) n 1) (𝟎 ⊝ 𝟏))
    ∙ ap f (sym (add-zero i))
  where
    none : (a b : K) → a ⊗ 𝟏 ⊕ 𝟎 ⊗ b ≡ a
    none a b = rw (← dv a, ← dv b) (simp ring (dif_path _ _ _ _ (omega arith)))
newton_forward T size h f (suc j) i zero l u = absurd (not-suc-le-zero l)
newton_forward T size h f (suc j) i (suc n) l u =
    ap (falling (over T (λ k. difference k f i) (suc (suc n)) 0)) (of_suc j)
    ∙ falling_next (f i ⊗ T 0) (over T (λ k. difference k f i) (suc n) 1) (of j)
    ∙ ap₂ ◌⊕◌ (newton_forward T size h f j i (suc n) (omega arith) u)
    (ap (λ (t : List K). falling t (of j)) (numbered_over T size h (λ k. difference k f i) (suc n) 0 (omega arith))
    ∙ falling_over T (λ k. difference k f (suc i)) (λ k. difference k f i) (suc n) 0 (of j)
    ∙ ap₂ (λ (a b : K). a ⊝ b) (newton_forward T size h f j (suc i) n (omega arith) (omega arith)) (newton_forward T size h f j i n (omega arith) (omega arith)))
    ∙ ⊕-⊝ (f (i + j)) (f (suc i + j))
    ∙ ap f (suc-add i j ∙ sym (add-suc i j))

-- ---- on numbers, as a program computes
abbrev pub newton_n : List ℕ → ℕ → ℕ
newton_n ys k = difference_n ys k 0 * get_or inverse_factorials k 0 % q

pub ofs-newton_n : (ys : List ℕ) → Elements ys → (m n : ℕ) → ofs (tabulate_from m n (newton_n ys)) ≡ over inverse_factorial (λ k. difference k (λ j. of (get_or ys j 0)) 0) n m
unfolding over
ofs-newton_n ys b m zero = refl
ofs-newton_n ys b m (suc n) =
    ap₂ (λ (c : K) (t : List K). c ∷ t)
    (of_mod _ ∙ sym (of_mul (difference_n ys m 0) (get_or inverse_factorials m 0)) ∙ ap₂ ◌⊗◌ (of_difference_n ys b m 0) (sym (inverse_factorial_is m)))
    (ofs-newton_n ys b (suc m) n)

newton_n_below : (ys : List ℕ) (m n : ℕ) → Elements (tabulate_from m n (newton_n ys))
newton_n_below ys m zero = tt
newton_n_below ys m (suc n) = (mod-lt _ (lit< tt), newton_n_below ys (suc m) n)

pub elements-newton_n : (ys : List ℕ) (n : ℕ) → Elements (tabulate n (newton_n ys))
elements-newton_n ys n = newton_n_below ys 0 n

-- Newton's form over consecutive points is a sum of falling powers
pub of_nev_n_up : (a : ℕ) (cs : List ℕ) (z : ℕ) → a + length cs ≤ q → of (nev_n (up_from a (length cs)) cs z) ≡ falling (ofs cs) (of z ⊝ of a)
unfolding nev_n up_from falling
of_nev_n_up a [] z l = of_zero
of_nev_n_up a (c ∷ cs) z l =
    of_mod _ ∙ sym (of_add c (sub_n z a * nev_n (up_from (suc a) (length cs)) cs z % q))
    ∙ ap (λ (t : K). of c ⊕ t)
    (of_mod _ ∙ sym (of_mul (sub_n z a) (nev_n (up_from (suc a) (length cs)) cs z))
    ∙ ap₂ ◌⊗◌ (of_sub_n z a (omega arith))
    (of_nev_n_up (suc a) cs z (omega arith) ∙ ap (falling (ofs cs)) (ap (λ (t : K). of z ⊝ t) (of_suc a) ∙ apart (of z) (of a))))
  where
    apart : (z a : K) → z ⊝ (a ⊕ 𝟏) ≡ z ⊝ a ⊝ 𝟏
    apart z a = rw (← dv z, ← dv a) (simp ring (dif_path _ _ _ _ (omega arith)))
