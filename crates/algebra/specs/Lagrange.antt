-- Lagrange's form of the interpolation, and its weights over consecutive points from a table of inverse factorials.
use Rattle.std.specs.Prelude.{◌≡◌, refl, ◌≢◌, List, [], ◌∷◌, ◌++◌, map, ℕ, zero, suc, ◌+◌, ◌≤◌, ◌<◌, ◌%◌, length}
use Rattle.std.proofs.Common.{sym, ◌∙◌, ap, ap₂, subst, suc-ne-zero, le_of_eq, mod-eq_of_lt, lt_trans, add-suc, suc-add, zero-add, add-zero, add-one, arith, length-append}
use Rattle.std.proofs.Math.Path.{fun_ext}
use Rattle.std.proofs.Math.Nat.{suc_inj}
use Rattle.algebra.specs.Prime.{q}
use Rattle.lists.specs.All.{All, Distinct}
use Rattle.algebra.specs.Field.{K, of, of_inj, of_add, ◌⊕◌, ◌⊗◌, ◌⊝◌, ⊖, 𝟎, 𝟏, dv, ring, dif_path, ⊕-zero, ⊗-assoc, ⊗-one, ⊗-zero}
use Rattle.algebra.specs.Poly.{eval, add_v, scale, eval_add, eval-scale, length-add_v_left, length-scale, unique, vanish, length-vanish, eval-vanish, prod, prod-zero, self_factor}
use Rattle.algebra.specs.Interp.{interp, interp_values, length-interp, values_all}

-- ---- factorials as elements
fact : ℕ → K
fact zero = 𝟏
fact (suc n) = of (suc n) ⊗ fact n

unfoldable pub sign : ℕ → K
sign zero = 𝟏
sign (suc n) = ⊖ (sign n)

-- a, a + 1, .., a + n - 1
unfoldable pub elements_from : ℕ → ℕ → List K
elements_from a zero = []
elements_from a (suc n) = of a ∷ elements_from (suc a) n

-- a + n - 1, .., a
unfoldable pub down_to : ℕ → ℕ → List K
down_to a zero = []
down_to a (suc n) = of (a + n) ∷ down_to a n

pub of_sub : (m n : ℕ) → of (m + n) ⊝ of m ≡ of n
of_sub m n = ap (λ (t : K). t ⊝ of m) (sym (of_add m n)) ∙ cancel (of m) (of n)
  where
    cancel : (a b : K) → a ⊕ b ⊕ ⊖ a ≡ b
    cancel a b = rw (← dv a, ← dv b) (simp ring (dif_path _ _ _ _ (omega arith)))

pub of_sub_neg : (m n : ℕ) → of m ⊝ of (m + n) ≡ ⊖ (of n)
of_sub_neg m n = ap (λ (t : K). of m ⊝ t) (sym (of_add m n)) ∙ cancel (of m) (of n)
  where
    cancel : (a b : K) → a ⊕ ⊖ (a ⊕ b) ≡ ⊖ b
    cancel a b = rw (← dv a, ← dv b) (simp ring (dif_path _ _ _ _ (omega arith)))

-- the product over the points below, from the nearest: 1, 2, .., n after the point a + n + k
-- rising k n = k (k+1) .. (k+n-1)
rising : ℕ → ℕ → K
rising k zero = 𝟏
rising k (suc n) = of k ⊗ rising (suc k) n

rising-fact : (k n : ℕ) → fact k ⊗ rising (suc k) n ≡ fact (k + n)
unfolding rising fact
rising-fact k zero = rw add-zero (⊗-one (fact k))
rising-fact k (suc n) = swap (fact k) (of (suc k)) (rising (suc (suc k)) n) ∙ rising-fact (suc k) n ∙ ap fact (suc-add k n ∙ sym (add-suc k n))
  where
    swap : (a b c : K) → a ⊗ (b ⊗ c) ≡ b ⊗ a ⊗ c
    swap a b c = rw (← dv a, ← dv b, ← dv c) (simp ring (dif_path _ _ _ _ (omega arith)))

prod_above_from : (b k n : ℕ) → prod (elements_from (b + k) n) (of b) ≡ sign n ⊗ rising k n
unfolding prod elements_from rising sign
prod_above_from b k zero = sym (⊗-one 𝟏)
prod_above_from b k (suc n) =
    ap₂ ◌⊗◌ (of_sub_neg b k) (ap (λ (m : ℕ). prod (elements_from m n) (of b)) (sym (add-suc b k)) ∙ prod_above_from b (suc k) n)
    ∙ swap (of k) (sign n) (rising (suc k) n)
  where
    swap : (a b c : K) → ⊖ a ⊗ (b ⊗ c) ≡ ⊖ b ⊗ (a ⊗ c)
    swap a b c = rw (← dv a, ← dv b, ← dv c) (simp ring (dif_path _ _ _ _ (omega arith)))

prod_below_from : (a k n : ℕ) → prod (down_to a n) (of (a + n + k)) ≡ rising (suc k) n
unfolding prod down_to rising
prod_below_from a k zero = refl
prod_below_from a k (suc n) =
    let e : a + suc n + k ≡ a + n + suc k = omega arith in
    rw e (ap₂ ◌⊗◌ (of_sub (a + n) (suc k)) (prod_below_from a (suc k) n))

one_left : (a : K) → a ≡ 𝟏 ⊗ a
one_left a = rw (← dv a) (simp ring (dif_path _ _ _ _ (omega arith)))

rising_one : (n : ℕ) → rising 1 n ≡ fact n
unfolding fact
rising_one n = one_left _ ∙ rising-fact 0 n ∙ ap fact (zero-add n)

-- the products over the n points below a + n, and over the n points above b
prod_below : (a n : ℕ) → prod (down_to a n) (of (a + n)) ≡ fact n
prod_below a n = ap (λ (m : ℕ). prod (down_to a n) (of m)) (sym (add-zero (a + n))) ∙ prod_below_from a 0 n ∙ rising_one n

prod_above : (b n : ℕ) → prod (elements_from (suc b) n) (of b) ≡ sign n ⊗ fact n
prod_above b n = ap (λ (m : ℕ). prod (elements_from m n) (of b)) (sym (add-one b)) ∙ prod_above_from b 1 n ∙ ap (λ (t : K). sign n ⊗ t) (rising_one n)

-- ---- the weights, from a table of inverse factorials
sign_square : (n : ℕ) → sign n ⊗ sign n ≡ 𝟏
unfolding sign
sign_square zero = ⊗-one 𝟏
sign_square (suc n) = both (sign n) ∙ sign_square n
  where
    both : (a : K) → ⊖ a ⊗ ⊖ a ≡ a ⊗ a
    both a = rw (← dv a) (simp ring (dif_path _ _ _ _ (omega arith)))

-- a table of inverse factorials: entry 0 is 1, and entry t times t is entry t - 1
pub record Table (T : ℕ → K) (size : ℕ) : Type 0 where
  pub first : T 0 ≡ 𝟏
  pub next : (t : ℕ) → suc t < size → T (suc t) ⊗ of (suc t) ≡ T t

table-fact : (T : ℕ → K) (size : ℕ) → Table T size → (t : ℕ) → t < size → T t ⊗ fact t ≡ 𝟏
unfolding fact
table-fact T size h zero l = rw h.first (⊗-one 𝟏)
table-fact T size h (suc t) l = sym (⊗-assoc _ _ _) ∙ rw (h.next t l) (table-fact T size h t (omega arith))

unfoldable pub weight : (ℕ → K) → ℕ → ℕ → K
weight T i m = T i ⊗ T m ⊗ sign m

-- the weight of the point with i points below and m above: the product of its differences to them, times the weight, is 1
weight_right : (T : ℕ → K) (size : ℕ) → Table T size → (a i m : ℕ) → i < size → m < size
    → (prod (down_to a i) (of (a + i)) ⊗ prod (elements_from (suc (a + i)) m) (of (a + i))) ⊗ weight T i m ≡ 𝟏
unfolding weight
weight_right T size h a i m li lm =
    rw (prod_below, prod_above)
    (shuffle (fact i) (sign m) (fact m) (T i) (T m)
    ∙ rw (table-fact T size h i li, table-fact T size h m lm, sign_square m) (simp ⊗-one))
  where
    shuffle : (fi s fm ti tm : K) → (fi ⊗ (s ⊗ fm)) ⊗ (ti ⊗ tm ⊗ s) ≡ (ti ⊗ fi) ⊗ (tm ⊗ fm) ⊗ (s ⊗ s)
    shuffle a b c d e = rw (← dv a, ← dv b, ← dv c, ← dv d, ← dv e) (simp ring (dif_path _ _ _ _ (omega arith)))

-- ---- Lagrange's sum, by weights. Each point is taken with the points before it, the nearest first, and those after it
-- each weight, times the product of its point's differences to the others, is 1
abbrev pub Weights : List K → List K → List K → Type 0
Weights [] pre [] = Unit {0}
Weights [] pre (x ∷ post) = ⊥
Weights (w ∷ ws) pre [] = ⊥
Weights (w ∷ ws) pre (x ∷ post) = ((prod pre x ⊗ prod post x) ⊗ w ≡ 𝟏) × Weights ws (x ∷ pre) post

unfoldable pub lsum : List K → List K → List K → List K → K → K
lsum pre [] ws ys z = 𝟎
lsum pre (x ∷ post) [] ys z = 𝟎
lsum pre (x ∷ post) (w ∷ ws) [] z = 𝟎
lsum pre (x ∷ post) (w ∷ ws) (y ∷ ys) z = y ⊗ w ⊗ (prod pre z ⊗ prod post z) ⊕ lsum (x ∷ pre) post ws ys z

-- its polynomial
lpoly : List K → List K → List K → List K → List K
lpoly pre [] ws ys = []
lpoly pre (x ∷ post) [] ys = []
lpoly pre (x ∷ post) (w ∷ ws) [] = []
lpoly pre (x ∷ post) (w ∷ ws) (y ∷ ys) = add_v (scale (y ⊗ w) (vanish (pre ++ post))) (lpoly (x ∷ pre) post ws ys)

prod-append : (xs ys : List K) (z : K) → prod (xs ++ ys) z ≡ prod xs z ⊗ prod ys z
unfolding prod
prod-append [] ys z = one_left _
prod-append (x ∷ xs) ys z = ap (λ (t : K). (z ⊝ x) ⊗ t) (prod-append xs ys z) ∙ sym (⊗-assoc _ _ _)

eval-lpoly : (pre post ws ys : List K) (z : K) → eval (lpoly pre post ws ys) z ≡ lsum pre post ws ys z
unfolding lpoly lsum eval
eval-lpoly pre [] ws ys z = refl
eval-lpoly pre (x ∷ post) [] ys z = refl
eval-lpoly pre (x ∷ post) (w ∷ ws) [] z = refl
eval-lpoly pre (x ∷ post) (w ∷ ws) (y ∷ ys) z = eval_add _ _ z ∙ ap₂ ◌⊕◌ (eval-scale _ _ z ∙ ap (λ (t : K). y ⊗ w ⊗ t) (eval-vanish _ z ∙ prod-append pre post z)) (eval-lpoly (x ∷ pre) post ws ys z)

length-head : (pre post : List K) (c : K) (n : ℕ) → suc (length pre + length post) ≡ n → length (scale c (vanish (pre ++ post))) ≡ n
length-head pre post c n e = length-scale c _ ∙ length-vanish (pre ++ post) ∙ ap suc (length-append pre post) ∙ e

length-lpoly_le : (pre post ws ys : List K) (n : ℕ) → length pre + length post ≡ n → length (lpoly pre post ws ys) ≤ n
unfolding lpoly
length-lpoly_le pre [] ws ys n e = omega arith
length-lpoly_le pre (x ∷ post) [] ys n e = omega arith
length-lpoly_le pre (x ∷ post) (w ∷ ws) [] n e = omega arith
length-lpoly_le pre (x ∷ post) (w ∷ ws) (y ∷ ys) n e =
    let f : length (scale (y ⊗ w) (vanish (pre ++ post))) ≡ n = length-head pre post (y ⊗ w) n (omega arith) in
    let g : length (lpoly (x ∷ pre) post ws ys) ≤ n = length-lpoly_le (x ∷ pre) post ws ys n (omega arith) in
    le_of_eq (length-add_v_left _ _ (omega arith) ∙ f)

length-lpoly : (post ws ys : List K) → length ys ≡ length post → Weights ws [] post → length (lpoly [] post ws ys) ≡ length post
unfolding lpoly
length-lpoly [] ws ys l h = refl
length-lpoly (x ∷ post) [] ys l h = absurd h
length-lpoly (x ∷ post) (w ∷ ws) [] l h = absurd (suc-ne-zero _ (sym l))
length-lpoly (x ∷ post) (w ∷ ws) (y ∷ ys) l h =
    let f : length (scale (y ⊗ w) (vanish ([] ++ post))) ≡ suc (length post) = length-head [] post (y ⊗ w) (suc (length post)) (omega arith) in
    let g : length (lpoly (x ∷ []) post ws ys) ≤ suc (length post) = length-lpoly_le (x ∷ []) post ws ys (suc (length post)) (omega arith) in
    length-add_v_left _ _ (omega arith) ∙ f

-- where the product over the points before vanishes, so does the sum
lsum-zero : (pre post ws ys : List K) (z : K) → prod pre z ≡ 𝟎 → lsum pre post ws ys z ≡ 𝟎
unfolding lsum prod
lsum-zero pre [] ws ys z h = refl
lsum-zero pre (x ∷ post) [] ys z h = refl
lsum-zero pre (x ∷ post) (w ∷ ws) [] z h = refl
lsum-zero pre (x ∷ post) (w ∷ ws) (y ∷ ys) z h = ap₂ ◌⊕◌ (rw h (none (y ⊗ w) (prod post z))) (lsum-zero (x ∷ pre) post ws ys z (rw h (⊗-zero _))) ∙ ⊕-zero 𝟎
  where
    none : (a b : K) → a ⊗ (𝟎 ⊗ b) ≡ 𝟎
    none a b = rw (← dv a, ← dv b) (simp ring)

lsum_own : (pre post ws ys : List K) (x w y : K) → (prod pre x ⊗ prod post x) ⊗ w ≡ 𝟏 → lsum pre (x ∷ post) (w ∷ ws) (y ∷ ys) x ≡ y
unfolding lsum prod
lsum_own pre post ws ys x w y h = ap₂ ◌⊕◌ (group y w (prod pre x ⊗ prod post x) ∙ rw h (⊗-one y)) (lsum-zero (x ∷ pre) post ws ys x (self_factor x (prod pre x))) ∙ ⊕-zero y
  where
    group : (a b c : K) → a ⊗ b ⊗ c ≡ a ⊗ (c ⊗ b)
    group a b c = rw (← dv a, ← dv b, ← dv c) (simp ring (dif_path _ _ _ _ (omega arith)))

lsum_others : (pre post ws ys : List K) (x w y : K) (zs : List K) → All (λ (z : K). prod post z ≡ 𝟎) zs
    → map (λ (z : K). lsum pre (x ∷ post) (w ∷ ws) (y ∷ ys) z) zs ≡ map (λ (z : K). lsum (x ∷ pre) post ws ys z) zs
unfolding lsum
lsum_others pre post ws ys x w y [] h = refl
lsum_others pre post ws ys x w y (z ∷ zs) h = ap₂ (λ (c : K) (t : List K). c ∷ t) (rw h.0 (none (y ⊗ w) (prod pre z) _)) (lsum_others pre post ws ys x w y zs h.1)
  where
    none : (a b c : K) → a ⊗ (b ⊗ 𝟎) ⊕ c ≡ c
    none a b c = rw (← dv a, ← dv b, ← dv c) (simp ring)

lsum_values : (pre post ws ys : List K) → length ys ≡ length post → Weights ws pre post → map (λ (z : K). lsum pre post ws ys z) post ≡ ys
lsum_values pre [] ws [] l h = refl
lsum_values pre [] ws (y ∷ ys) l h = absurd (suc-ne-zero _ l)
lsum_values pre (x ∷ post) ws [] l h = absurd (suc-ne-zero _ (sym l))
lsum_values pre (x ∷ post) [] (y ∷ ys) l h = absurd h
lsum_values pre (x ∷ post) (w ∷ ws) (y ∷ ys) l h =
    ap₂ (λ (c : K) (t : List K). c ∷ t) (lsum_own pre post ws ys x w y h.0)
    (lsum_others pre post ws ys x w y post (prod-zero post) ∙ lsum_values (x ∷ pre) post ws ys (suc_inj l) h.1)

-- Lagrange's form: the value of the interpolation at any z
pub lagrange : (xs ws ys : List K) → length ys ≡ length xs → Distinct xs → Weights ws [] xs → (z : K) → eval (interp xs ys) z ≡ lsum [] xs ws ys z
lagrange xs ws ys l d h z = ap (λ (p : List K). eval p z) same ∙ eval-lpoly [] xs ws ys z
  where
    same : interp xs ys ≡ lpoly [] xs ws ys
    same =
        unique xs _ _ (length-interp xs ys l ∙ sym (length-lpoly xs ws ys l h)) (le_of_eq (length-lpoly xs ws ys l h)) d
        (values_all _ _ xs
        (interp_values xs ys l d ∙ sym (lsum_values [] xs ws ys l h) ∙ ap (λ (f : K → K). map f xs) (fun_ext (λ (t : K). sym (eval-lpoly [] xs ws ys t)))))

-- ---- over consecutive points
unfoldable pub weights : (ℕ → K) → ℕ → ℕ → List K
weights T i zero = []
weights T i (suc m) = weight T i m ∷ weights T (suc i) m

weights_right : (T : ℕ → K) (size : ℕ) → Table T size → (a i m : ℕ) → i + m ≤ size → Weights (weights T i m) (down_to a i) (elements_from (a + i) m)
unfolding weights elements_from down_to
weights_right T size h a i zero l = tt
weights_right T size h a i (suc m) l =
    (weight_right T size h a i m (omega arith) (omega arith), subst (λ (p : ℕ). Weights (weights T (suc i) m) (down_to a (suc i)) (elements_from p m)) (add-suc a i) (weights_right T size h a (suc i) m (omega arith)))

of_ne : (a b : ℕ) → a < b → b < q → of b ≢ of a
of_ne a b l u e = let f : b % q ≡ a % q = of_inj b a e in omega (arith, mod-eq_of_lt u, mod-eq_of_lt (lt_trans l u))

elements_from_apart : (a b n : ℕ) → a < b → b + n ≤ q → All (λ (y : K). y ≢ of a) (elements_from b n)
unfolding elements_from
elements_from_apart a b zero l u = tt
elements_from_apart a b (suc n) l u = (of_ne a b l (omega arith), elements_from_apart a (suc b) n (omega arith) (omega arith))

pub elements_from_distinct : (a n : ℕ) → a + n ≤ q → Distinct (elements_from a n)
unfolding elements_from
elements_from_distinct a zero u = tt
elements_from_distinct a (suc n) u = (elements_from_apart a (suc a) n (omega arith) (omega arith), elements_from_distinct (suc a) n (omega arith))

pub from_zero : (T : ℕ → K) (size : ℕ) → Table T size → (a n : ℕ) → n ≤ size → Weights (weights T 0 n) [] (elements_from a n)
unfolding down_to
from_zero T size h a n l = subst (λ (p : ℕ). Weights (weights T 0 n) [] (elements_from p n)) (add-zero a) (weights_right T size h a 0 n (omega arith))
