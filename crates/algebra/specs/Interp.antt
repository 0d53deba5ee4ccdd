-- Interpolation over the field: the polynomial through given values at different points, linear in the values.
use Rattle.std.specs.Prelude.{◌≡◌, refl, ◌≢◌, List, [], ◌∷◌, map, ℕ, suc, ◌≤◌, ◌<◌, length, get_or}
use Rattle.std.proofs.Common.{sym, ◌∙◌, ap, ap₂, suc-ne-zero, not-suc-le-zero, le_of_eq, arith}
use Rattle.std.proofs.Math.Nat.{suc_inj}
use Rattle.std.proofs.lemmas.List.{length-map}
use Rattle.lists.specs.All.{All, Distinct, Sized}
use Rattle.algebra.specs.Field.{K, ◌⊕◌, ◌⊗◌, ⊖, 𝟎, 𝟏, inv, dv, ring, dif_path, ⊗-comm, ⊗-zero, inv_right}
use Rattle.algebra.specs.Poly.{eval, add_v, scale, eval_add, eval-scale, length-add_v, length-add_v_left, length-scale, coeff_add, coeff_scale, unique, vanish, length-vanish, eval-vanish, prod, prod-zero, prod_ne_zero}

-- ---- linear combinations
unfoldable pub dot : List K → List K → K
dot [] bs = 𝟎
dot (y ∷ ys) [] = 𝟎
dot (y ∷ ys) (b ∷ bs) = y ⊗ b ⊕ dot ys bs

pub dot_comm : (ys bs : List K) → dot ys bs ≡ dot bs ys
unfolding dot
dot_comm [] [] = refl
dot_comm [] (b ∷ bs) = refl
dot_comm (y ∷ ys) [] = refl
dot_comm (y ∷ ys) (b ∷ bs) = ap₂ ◌⊕◌ (⊗-comm y b) (dot_comm ys bs)

unfoldable pub comb : List K → List (List K) → List K
comb [] bs = []
comb (y ∷ ys) [] = []
comb (y ∷ ys) (b ∷ bs) = add_v (scale y b) (comb ys bs)

eval-comb : (ys : List K) (bs : List (List K)) (x : K) → eval (comb ys bs) x ≡ dot ys (map (λ (b : List K). eval b x) bs)
unfolding comb dot eval
eval-comb [] bs x = refl
eval-comb (y ∷ ys) [] x = refl
eval-comb (y ∷ ys) (b ∷ bs) x = eval_add (scale y b) (comb ys bs) x ∙ ap₂ ◌⊕◌ (eval-scale y b x) (eval-comb ys bs x)

coeff_comb : (ys : List K) (bs : List (List K)) (i : ℕ) → get_or (comb ys bs) i 𝟎 ≡ dot ys (map (λ (b : List K). get_or b i 𝟎) bs)
unfolding comb dot
coeff_comb [] bs i = refl
coeff_comb (y ∷ ys) [] i = refl
coeff_comb (y ∷ ys) (b ∷ bs) i = coeff_add (scale y b) (comb ys bs) i ∙ ap₂ ◌⊕◌ (coeff_scale y b i) (coeff_comb ys bs i)

length-comb_le : (n : ℕ) (ys : List K) (bs : List (List K)) → Sized n bs → length (comb ys bs) ≤ n
unfolding comb
length-comb_le n [] bs s = omega arith
length-comb_le n (y ∷ ys) [] s = omega arith
length-comb_le n (y ∷ ys) (b ∷ bs) s = le_of_eq (length-add_v_left (scale y b) (comb ys bs) (omega (arith, length-scale y b, length-comb_le n ys bs s.1)) ∙ length-scale y b ∙ s.0)

length-comb : (n : ℕ) (y : K) (ys : List K) (b : List K) (bs : List (List K)) → Sized n (b ∷ bs) → length (comb (y ∷ ys) (b ∷ bs)) ≡ n
unfolding comb
length-comb n y ys b bs s = length-add_v_left (scale y b) (comb ys bs) (omega (arith, length-scale y b, length-comb_le n ys bs s.1)) ∙ length-scale y b ∙ s.0

-- ---- the basis: each is 1 at its point and 0 at the others
unfoldable pub top : K → List K → List K
top x xs = scale (inv (prod xs x)) (vanish xs)

unfoldable pub adjust : K → List K → List K → List K
adjust x l b = add_v b (scale (⊖ (eval b x)) l)

unfoldable pub bases : List K → List (List K)
bases [] = []
bases (x ∷ xs) = top x xs ∷ map (adjust x (top x xs)) (bases xs)

-- the polynomial that takes the values ys at the points xs
unfoldable pub interp : List K → List K → List K
interp xs ys = comb ys (bases xs)

-- its value: the values of the basis, times ys
pub eval-interp : (xs ys : List K) (z : K) → eval (interp xs ys) z ≡ dot ys (map (λ (b : List K). eval b z) (bases xs))
unfolding interp
eval-interp xs ys z = eval-comb ys (bases xs) z

length-top : (x : K) (xs : List K) → length (top x xs) ≡ suc (length xs)
unfolding top
length-top x xs = length-scale _ (vanish xs) ∙ length-vanish xs

eval-top : (x : K) (xs : List K) (z : K) → eval (top x xs) z ≡ inv (prod xs x) ⊗ prod xs z
unfolding top
eval-top x xs z = eval-scale _ (vanish xs) z ∙ ap (λ (t : K). inv (prod xs x) ⊗ t) (eval-vanish xs z)

eval-top_own : (x : K) (xs : List K) → All (λ (y : K). y ≢ x) xs → eval (top x xs) x ≡ 𝟏
eval-top_own x xs n = eval-top x xs x ∙ ⊗-comm _ _ ∙ inv_right (prod xs x) (prod_ne_zero xs x n)

eval-top_others : (x : K) (xs zs : List K) → All (λ (z : K). prod xs z ≡ 𝟎) zs → All (λ (z : K). eval (top x xs) z ≡ 𝟎) zs
eval-top_others x xs [] h = tt
eval-top_others x xs (z ∷ zs) h = (eval-top x xs z ∙ ap (λ (t : K). inv (prod xs x) ⊗ t) h.0 ∙ ⊗-zero _, eval-top_others x xs zs h.1)

adjust-step : (y b bx l i ix : K) → y ⊗ (b ⊕ ⊖ bx ⊗ l) ⊕ (i ⊕ ⊖ ix ⊗ l) ≡ (y ⊗ b ⊕ i) ⊕ ⊖ (y ⊗ bx ⊕ ix) ⊗ l
adjust-step y b bx l i ix = rw (← dv y, ← dv b, ← dv bx, ← dv l, ← dv i, ← dv ix) (simp ring (dif_path _ _ _ _ (omega arith)))

adjust_base : (l : K) → 𝟎 ≡ 𝟎 ⊕ ⊖ 𝟎 ⊗ l
adjust_base l = rw (← dv l) (simp ring (dif_path _ _ _ _ (omega arith)))

eval-adjust : (x : K) (l b : List K) (z : K) → eval (adjust x l b) z ≡ eval b z ⊕ ⊖ (eval b x) ⊗ eval l z
unfolding adjust
eval-adjust x l b z = eval_add b (scale (⊖ (eval b x)) l) z ∙ ap (λ (t : K). eval b z ⊕ t) (eval-scale (⊖ (eval b x)) l z)

-- the combination of the adjusted basis
comb-adjust : (x : K) (l : List K) (ys : List K) (bs : List (List K)) (z : K) → eval (comb ys (map (adjust x l) bs)) z ≡ eval (comb ys bs) z ⊕ ⊖ (eval (comb ys bs) x) ⊗ eval l z
unfolding comb eval
comb-adjust x l [] bs z = adjust_base (eval l z)
comb-adjust x l (y ∷ ys) [] z = adjust_base (eval l z)
comb-adjust x l (y ∷ ys) (b ∷ bs) z = simp (eval_add, eval-scale, eval-adjust, comb-adjust x l ys bs z) (adjust-step y (eval b z) (eval b x) (eval l z) (eval (comb ys bs) z) (eval (comb ys bs) x))

-- one more point: the polynomial through the other points, and a multiple of the new basis element
interp-cons : (x : K) (xs : List K) (y : K) (ys : List K) (z : K) → eval (interp (x ∷ xs) (y ∷ ys)) z ≡ y ⊗ eval (top x xs) z ⊕ (eval (interp xs ys) z ⊕ ⊖ (eval (interp xs ys) x) ⊗ eval (top x xs) z)
unfolding interp bases comb
interp-cons x xs y ys z = eval_add (scale y (top x xs)) _ z ∙ ap₂ ◌⊕◌ (eval-scale y (top x xs) z) (comb-adjust x (top x xs) ys (bases xs) z)

at_own : (y i : K) → y ⊗ 𝟏 ⊕ (i ⊕ ⊖ i ⊗ 𝟏) ≡ y
at_own y i = rw (← dv y, ← dv i) (simp ring (dif_path _ _ _ _ (omega arith)))

at_other : (y i ix : K) → y ⊗ 𝟎 ⊕ (i ⊕ ⊖ ix ⊗ 𝟎) ≡ i
at_other y i ix = rw (← dv y, ← dv i, ← dv ix) (simp ring (dif_path _ _ _ _ (omega arith)))

at_others : (x : K) (xs : List K) (y : K) (ys zs : List K) → All (λ (z : K). eval (top x xs) z ≡ 𝟎) zs → map (λ (z : K). eval (interp (x ∷ xs) (y ∷ ys)) z) zs ≡ map (λ (z : K). eval (interp xs ys) z) zs
at_others x xs y ys [] h = refl
at_others x xs y ys (z ∷ zs) h = ap₂ (λ (c : K) (t : List K). c ∷ t) (interp-cons x xs y ys z ∙ rw h.0 (at_other y _ _)) (at_others x xs y ys zs h.1)

-- it takes the values
pub interp_values : (xs ys : List K) → length ys ≡ length xs → Distinct xs → map (λ (z : K). eval (interp xs ys) z) xs ≡ ys
interp_values [] [] l d = refl
interp_values [] (y ∷ ys) l d = absurd (suc-ne-zero _ l)
interp_values (x ∷ xs) [] l d = absurd (suc-ne-zero _ (sym l))
interp_values (x ∷ xs) (y ∷ ys) l d =
    ap₂ (λ (c : K) (t : List K). c ∷ t) (interp-cons x xs y ys x ∙ rw (eval-top_own x xs d.0) (at_own y _))
    (at_others x xs y ys xs (eval-top_others x xs xs (prod-zero xs)) ∙ interp_values xs ys (suc_inj l) d.1)

-- ---- its length
sized-adjust : (n : ℕ) (x : K) (l : List K) (bs : List (List K)) → length l ≡ suc n → Sized n bs → Sized (suc n) (map (adjust x l) bs)
unfolding adjust
sized-adjust n x l [] e s = tt
sized-adjust n x l (b ∷ bs) e s = (length-add_v b _ (omega (arith, length-scale (⊖ (eval b x)) l, s.0)) ∙ length-scale _ l ∙ e, sized-adjust n x l bs e s.1)

sized-bases : (xs : List K) → Sized (length xs) (bases xs)
unfolding bases
sized-bases [] = tt
sized-bases (x ∷ xs) = (length-top x xs, sized-adjust (length xs) x (top x xs) (bases xs) (length-top x xs) (sized-bases xs))

pub length-bases : (xs : List K) → length (bases xs) ≡ length xs
unfolding bases
length-bases [] = refl
length-bases (x ∷ xs) = ap suc (length-map (bases xs) (adjust x (top x xs)) ∙ length-bases xs)

pub length-interp : (xs ys : List K) → length ys ≡ length xs → length (interp xs ys) ≡ length xs
unfolding interp bases comb
length-interp [] [] l = refl
length-interp [] (y ∷ ys) l = refl
length-interp (x ∷ xs) [] l = absurd (suc-ne-zero _ (sym l))
length-interp (x ∷ xs) (y ∷ ys) l = length-comb (suc (length xs)) y ys (top x xs) (map (adjust x (top x xs)) (bases xs)) (sized-bases (x ∷ xs))

-- ---- any polynomial is the one through its values
pub values_all : (p r : List K) (xs : List K) → map (λ (z : K). eval p z) xs ≡ map (λ (z : K). eval r z) xs → All (λ (z : K). eval p z ≡ eval r z) xs
values_all p r [] h = tt
values_all p r (x ∷ xs) h = (cc, values_all p r xs (cc))

pub interp_of_values : (xs p : List K) → length p ≡ length xs → Distinct xs → interp xs (map (λ (z : K). eval p z) xs) ≡ p
interp_of_values xs p l d =
    unique xs _ p (length-interp xs _ (length-map xs _) ∙ sym l) (le_of_eq l) d
    (values_all _ p xs (interp_values xs _ (length-map xs _) d))

-- ---- extraction: the rows behind batched answers
-- row j of the polynomials behind the answers rs to the challenges gs
pub row : List K → List (List K) → ℕ → List K
row gs rs j = comb (map (λ (b : List K). get_or b j 𝟎) (bases gs)) rs

-- as long as the answers
pub length-row : (gs : List K) (rs : List (List K)) (n j : ℕ) → length rs ≡ length gs → 0 < length gs → Sized n rs → length (row gs rs j) ≡ n
unfolding row bases
length-row [] rs n j l p s = absurd (not-suc-le-zero p)
length-row (g ∷ gs) [] n j l p s = absurd (suc-ne-zero _ (sym l))
length-row (g ∷ gs) (r ∷ rs) n j l p s = length-comb n _ _ r rs s

-- Where each answer, at x, is v's value at its challenge, the coefficient j of v is the value at x of row j.
pub extract : (gs : List K) (rs : List (List K)) (v : List K) (x : K) → length v ≡ length gs → Distinct gs
    → map (λ (r : List K). eval r x) rs ≡ map (λ (g : K). eval v g) gs
    → (j : ℕ) → eval (row gs rs j) x ≡ get_or v j 𝟎
unfolding row interp
extract gs rs v x l d h j =
    eval-comb _ rs x
    ∙ dot_comm _ _
    ∙ ap (λ (t : List K). dot t (map (λ (b : List K). get_or b j 𝟎) (bases gs))) h
    ∙ sym (coeff_comb (map (λ (g : K). eval v g) gs) (bases gs) j)
    ∙ ap (λ (t : List K). get_or t j 𝟎) (interp_of_values gs v l d)
