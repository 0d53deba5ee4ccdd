-- Polynomials over the field: lists of coefficients, lowest first.
use Rattle.std.specs.Prelude.{◌≡◌, refl, ◌≢◌, List, [], ◌∷◌, ℕ, zero, suc, ◌≤◌, length, get_or}
use Rattle.std.proofs.Common.{sym, ◌∙◌, ap, ap₂, suc-ne-zero, not-suc-le-zero, arith}
use Rattle.std.proofs.Math.Nat.{suc_inj}
use Rattle.lists.specs.All.{All, Distinct}
use Rattle.algebra.specs.Field.{K, ◌⊕◌, ◌⊗◌, ◌⊝◌, ⊖, 𝟎, 𝟏, dv, ring, dif_path, ⊕-zero, ⊕-neg, ⊗-zero, ⊝-eq, ⊝-ne-zero, factor-zero, product_ne_zero, one_ne_zero}

-- the value at x
unfoldable pub eval : List K → K → K
eval [] x = 𝟎
eval (c ∷ cs) x = c ⊕ x ⊗ eval cs x

-- the sum, the shorter list being read as followed by zeros
unfoldable pub add_v : List K → List K → List K
add_v [] r = r
add_v (a ∷ p) [] = a ∷ p
add_v (a ∷ p) (b ∷ r) = (a ⊕ b) ∷ add_v p r

unfoldable pub scale : K → List K → List K
scale k [] = []
scale k (a ∷ p) = (k ⊗ a) ∷ scale k p

-- ---- evaluation is linear
zero_left : (a : K) → a ≡ 𝟎 ⊕ a
zero_left a = rw (← dv a) (simp ring (dif_path _ _ _ _ (omega arith)))

step-add : (a b x u v : K) → (a ⊕ b) ⊕ x ⊗ (u ⊕ v) ≡ (a ⊕ x ⊗ u) ⊕ (b ⊕ x ⊗ v)
step-add a b x u v = rw (← dv a, ← dv b, ← dv x, ← dv u, ← dv v) (simp ring (dif_path _ _ _ _ (omega arith)))

step_scale : (k a x u : K) → k ⊗ a ⊕ x ⊗ (k ⊗ u) ≡ k ⊗ (a ⊕ x ⊗ u)
step_scale k a x u = rw (← dv k, ← dv a, ← dv x, ← dv u) (simp ring (dif_path _ _ _ _ (omega arith)))

pub eval_add : (p r : List K) (x : K) → eval (add_v p r) x ≡ eval p x ⊕ eval r x
unfolding eval add_v
eval_add [] r x = zero_left (eval r x)
eval_add (a ∷ p) [] x = sym (⊕-zero _)
eval_add (a ∷ p) (b ∷ r) x = ap (λ (t : K). (a ⊕ b) ⊕ x ⊗ t) (eval_add p r x) ∙ step-add a b x (eval p x) (eval r x)

pub eval-scale : (k : K) (p : List K) (x : K) → eval (scale k p) x ≡ k ⊗ eval p x
unfolding eval scale
eval-scale k [] x = sym (⊗-zero k)
eval-scale k (a ∷ p) x = ap (λ (t : K). k ⊗ a ⊕ x ⊗ t) (eval-scale k p x) ∙ step_scale k a x (eval p x)

-- ---- lengths
pub length-scale : (k : K) (p : List K) → length (scale k p) ≡ length p
unfolding scale
length-scale k [] = refl
length-scale k (a ∷ p) = ap suc (length-scale k p)

-- the sum is as long as the longer one
pub length-add_v : (p r : List K) → length p ≤ length r → length (add_v p r) ≡ length r
unfolding add_v
length-add_v [] r h = refl
length-add_v (a ∷ p) [] h = omega arith
length-add_v (a ∷ p) (b ∷ r) h = ap suc (length-add_v p r (omega arith))

pub length-add_v_left : (p r : List K) → length r ≤ length p → length (add_v p r) ≡ length p
unfolding add_v
length-add_v_left [] [] h = refl
length-add_v_left [] (b ∷ r) h = omega arith
length-add_v_left (a ∷ p) [] h = refl
length-add_v_left (a ∷ p) (b ∷ r) h = ap suc (length-add_v_left p r (omega arith))

-- ---- coefficients
pub coeff_add : (p r : List K) (i : ℕ) → get_or (add_v p r) i 𝟎 ≡ get_or p i 𝟎 ⊕ get_or r i 𝟎
unfolding add_v
coeff_add [] r i = zero_left _
coeff_add (a ∷ p) [] i = sym (⊕-zero _)
coeff_add (a ∷ p) (b ∷ r) zero = refl
coeff_add (a ∷ p) (b ∷ r) (suc i) = coeff_add p r i

pub coeff_scale : (k : K) (p : List K) (i : ℕ) → get_or (scale k p) i 𝟎 ≡ k ⊗ get_or p i 𝟎
unfolding scale
coeff_scale k [] i = sym (⊗-zero k)
coeff_scale k (a ∷ p) zero = refl
coeff_scale k (a ∷ p) (suc i) = coeff_scale k p i

abbrev Zeros : List K → Type 0
Zeros p = All (λ (a : K). a ≡ 𝟎) p

-- ---- division by X - a: the values at a of the tails
sufs : K → List K → List K
sufs a [] = []
sufs a (c ∷ cs) = eval (c ∷ cs) a ∷ sufs a cs

length-sufs : (a : K) (p : List K) → length (sufs a p) ≡ length p
unfolding sufs
length-sufs a [] = refl
length-sufs a (c ∷ cs) = ap suc (length-sufs a cs)

divide_base : (c a x : K) → c ⊕ x ⊗ 𝟎 ≡ (c ⊕ a ⊗ 𝟎) ⊕ (x ⊝ a) ⊗ 𝟎
divide_base c a x = rw (← dv c, ← dv a, ← dv x) (simp ring (dif_path _ _ _ _ (omega arith)))

divide-step : (c a x u s : K) → c ⊕ x ⊗ (u ⊕ (x ⊝ a) ⊗ s) ≡ (c ⊕ a ⊗ u) ⊕ (x ⊝ a) ⊗ (u ⊕ x ⊗ s)
divide-step c a x u s = rw (← dv c, ← dv a, ← dv x, ← dv u, ← dv s) (simp ring (dif_path _ _ _ _ (omega arith)))

divide : (c : K) (cs : List K) (a x : K) → eval (c ∷ cs) x ≡ eval (c ∷ cs) a ⊕ (x ⊝ a) ⊗ eval (sufs a cs) x
unfolding eval sufs
divide c [] a x = divide_base c a x
divide c (d ∷ ds) a x = ap (λ (t : K). c ⊕ x ⊗ t) (divide d ds a x) ∙ divide-step c a x (eval (d ∷ ds) a) (eval (sufs a ds) x)

eval-zeros : (p : List K) (x : K) → Zeros p → eval p x ≡ 𝟎
unfolding eval
eval-zeros [] x z = refl
eval-zeros (a ∷ p) x z = rw (z.0, eval-zeros p x z.1, ⊗-zero, ⊕-zero)

head-zero : (c a u : K) → u ≡ 𝟎 → c ⊕ a ⊗ u ≡ 𝟎 → c ≡ 𝟎
head-zero c a u e h = sym (rw (e, ⊗-zero, ⊕-zero)) ∙ h

sufs-zeros : (a : K) (p : List K) → Zeros (sufs a p) → Zeros p
unfolding sufs eval
sufs-zeros a [] z = tt
sufs-zeros a (c ∷ cs) z = let t : Zeros cs = sufs-zeros a cs z.1 in (head-zero c a (eval cs a) (eval-zeros cs a t) z.0, t)

-- ---- as many roots as coefficients: all coefficients are 0
quotient_root : (c : K) (cs : List K) (a x : K) → x ≢ a → eval (c ∷ cs) a ≡ 𝟎 → eval (c ∷ cs) x ≡ 𝟎 → eval (sufs a cs) x ≡ 𝟎
quotient_root c cs a x n e f = factor-zero (x ⊝ a) _ (⊝-ne-zero x a n) (zero_left _ ∙ ap (λ (t : K). t ⊕ (x ⊝ a) ⊗ eval (sufs a cs) x) (sym e) ∙ sym (divide c cs a x) ∙ f)

quotient_roots : (c : K) (cs : List K) (a : K) (xs : List K) → eval (c ∷ cs) a ≡ 𝟎 → All (λ (y : K). y ≢ a) xs → All (λ (x : K). eval (c ∷ cs) x ≡ 𝟎) xs → All (λ (x : K). eval (sufs a cs) x ≡ 𝟎) xs
quotient_roots c cs a [] e n r = tt
quotient_roots c cs a (x ∷ xs) e n r = (quotient_root c cs a x n.0 e r.0, quotient_roots c cs a xs e n.1 r.1)

value_cons : (c : K) (cs : List K) (a : K) → eval (c ∷ cs) a ≡ 𝟎 → c ⊕ a ⊗ eval cs a ≡ 𝟎
unfolding eval
value_cons c cs a e = e

roots : (xs p : List K) → length p ≤ length xs → Distinct xs → All (λ (x : K). eval p x ≡ 𝟎) xs → Zeros p
roots [] [] l d r = tt
roots [] (c ∷ cs) l d r = absurd (not-suc-le-zero l)
roots (a ∷ xs) [] l d r = tt
roots (a ∷ xs) (c ∷ cs) l d r =
    let z : Zeros cs = sufs-zeros a cs (roots xs (sufs a cs) (omega (arith, length-sufs a cs)) d.1 (quotient_roots c cs a xs r.0 d.0 r.1)) in
    (head-zero c a (eval cs a) (eval-zeros cs a z) (value_cons c cs a r.0), z)

-- ---- the difference of two lists
neg_scale : (a : K) → ⊖ 𝟏 ⊗ a ≡ ⊖ a
neg_scale a = rw (← dv a) (simp ring (dif_path _ _ _ _ (omega arith)))

abbrev sub_v : List K → List K → List K
sub_v p r = add_v p (scale (⊖ 𝟏) r)

eval_sub : (p r : List K) (x : K) → eval (sub_v p r) x ≡ eval p x ⊝ eval r x
eval_sub p r x = eval_add p (scale (⊖ 𝟏) r) x ∙ ap (λ (t : K). eval p x ⊕ t) (eval-scale (⊖ 𝟏) r x ∙ neg_scale (eval r x))

sub-zeros : (p r : List K) → length p ≡ length r → Zeros (sub_v p r) → p ≡ r
unfolding add_v scale
sub-zeros [] [] l z = refl
sub-zeros [] (b ∷ r) l z = absurd (suc-ne-zero _ (sym l))
sub-zeros (a ∷ p) [] l z = absurd (suc-ne-zero _ l)
sub-zeros (a ∷ p) (b ∷ r) l z = ap₂ (λ (c : K) (t : List K). c ∷ t) (⊝-eq a b (ap (λ (t : K). a ⊕ t) (sym (neg_scale b)) ∙ z.0)) (sub-zeros p r (suc_inj l) z.1)

agree_roots : (xs p r : List K) → All (λ (x : K). eval p x ≡ eval r x) xs → All (λ (x : K). eval (sub_v p r) x ≡ 𝟎) xs
agree_roots [] p r h = tt
agree_roots (x ∷ xs) p r h = (eval_sub p r x ∙ ap (λ (t : K). t ⊝ eval r x) h.0 ∙ ⊕-neg (eval r x), agree_roots xs p r h.1)

-- two lists of the same number of coefficients, which agree at as many different points or more, are equal
pub unique : (xs p r : List K) → length p ≡ length r → length r ≤ length xs → Distinct xs → All (λ (x : K). eval p x ≡ eval r x) xs → p ≡ r
unique xs p r l m d h =
    sub-zeros p r l
    (roots xs (sub_v p r) (omega (arith, length-add_v p (scale (⊖ 𝟏) r) (omega (arith, length-scale (⊖ 𝟏) r)), length-scale (⊖ 𝟏) r)) d (agree_roots xs p r h))

-- ---- the product of the X - a over a list
unfoldable pub mul_lin : K → List K → List K
mul_lin a p = add_v (scale (⊖ a) p) (𝟎 ∷ p)

length-mul_lin : (a : K) (p : List K) → length (mul_lin a p) ≡ suc (length p)
unfolding mul_lin
length-mul_lin a p = length-add_v (scale (⊖ a) p) (𝟎 ∷ p) (omega (arith, length-scale (⊖ a) p))

mul_lin-step : (a x u : K) → ⊖ a ⊗ u ⊕ (𝟎 ⊕ x ⊗ u) ≡ (x ⊝ a) ⊗ u
mul_lin-step a x u = rw (← dv a, ← dv x, ← dv u) (simp ring (dif_path _ _ _ _ (omega arith)))

eval-mul_lin : (a : K) (p : List K) (x : K) → eval (mul_lin a p) x ≡ (x ⊝ a) ⊗ eval p x
unfolding mul_lin eval
eval-mul_lin a p x = eval_add (scale (⊖ a) p) (𝟎 ∷ p) x ∙ ap (λ (t : K). t ⊕ (𝟎 ⊕ x ⊗ eval p x)) (eval-scale (⊖ a) p x) ∙ mul_lin-step a x (eval p x)

unfoldable pub vanish : List K → List K
vanish [] = 𝟏 ∷ []
vanish (a ∷ bs) = mul_lin a (vanish bs)

pub length-vanish : (xs : List K) → length (vanish xs) ≡ suc (length xs)
unfolding vanish
length-vanish [] = refl
length-vanish (a ∷ bs) = length-mul_lin a (vanish bs) ∙ ap suc (length-vanish bs)

-- the product of the x - a over a list
unfoldable pub prod : List K → K → K
prod [] x = 𝟏
prod (a ∷ bs) x = (x ⊝ a) ⊗ prod bs x

one_coeff : (x : K) → 𝟏 ⊕ x ⊗ 𝟎 ≡ 𝟏
one_coeff x = rw (← dv x) (simp ring (dif_path _ _ _ _ (omega arith)))

pub eval-vanish : (xs : List K) (x : K) → eval (vanish xs) x ≡ prod xs x
unfolding vanish prod eval
eval-vanish [] x = one_coeff x
eval-vanish (a ∷ bs) x = eval-mul_lin a (vanish bs) x ∙ ap (λ (t : K). (x ⊝ a) ⊗ t) (eval-vanish bs x)

pub prod_ne_zero : (xs : List K) (x : K) → All (λ (y : K). y ≢ x) xs → prod xs x ≢ 𝟎
unfolding prod
prod_ne_zero [] x n = one_ne_zero
prod_ne_zero (a ∷ bs) x n = product_ne_zero _ _ (⊝-ne-zero x a (λ (e : x ≡ a). n.0 (sym e))) (prod_ne_zero bs x n.1)

-- the product is 0 at each of the points
prod-zero_more : (a : K) (bs xs : List K) → All (λ (x : K). prod bs x ≡ 𝟎) xs → All (λ (x : K). prod (a ∷ bs) x ≡ 𝟎) xs
unfolding prod
prod-zero_more a bs [] h = tt
prod-zero_more a bs (x ∷ xs) h = (rw h.0 (⊗-zero _), prod-zero_more a bs xs h.1)

pub self_factor : (a u : K) → (a ⊝ a) ⊗ u ≡ 𝟎
self_factor a u = rw (← dv a, ← dv u) (simp ring (dif_path _ _ _ _ (omega arith)))

pub prod-zero : (xs : List K) → All (λ (x : K). prod xs x ≡ 𝟎) xs
unfolding prod
prod-zero [] = tt
prod-zero (a ∷ bs) = (self_factor a (prod bs a), prod-zero_more a bs bs (prod-zero bs))
