-- Rows behind batched answers and evaluation answers: the algebra of the three layers.
use Rattle.std.specs.Prelude.{◌≡◌, refl, List, [], ◌∷◌, ◌++◌, map, ℕ, zero, suc, ◌+◌, ◌*◌, ◌≤◌, ◌<◌, length, get_or}
use Rattle.std.proofs.Common.{sym, ◌∙◌, ap, ap₂, suc-ne-zero, not-suc-le-zero, add-suc, suc-add, add-zero, zero-add, mul-zero, one-add, arith}
use Rattle.std.proofs.Math.Nat.{suc_inj}
use Rattle.lists.specs.All.{All, Distinct, Sized}
use Rattle.algebra.specs.Field.{K, ◌⊕◌, ◌⊗◌, 𝟎, 𝟏, dv, ring, dif_path, ⊗-assoc}
use Rattle.algebra.specs.Poly.{eval, add_v, scale, eval_add, eval-scale, length-add_v_left, length-scale, unique}
use Rattle.algebra.specs.Interp.{interp, interp_values, interp_of_values, length-interp, row, length-row, extract}

-- ---- a batch of polynomials: P₀ + z P₁ + z² P₂ + ..
unfoldable pub batch : K → List (List K) → List K
batch z [] = []
batch z (p ∷ ps) = add_v p (scale z (batch z ps))

-- the values of several polynomials at x
unfoldable pub values_at : List (List K) → K → List K
values_at [] x = []
values_at (p ∷ ps) x = eval p x ∷ values_at ps x

pub eval-batch : (z : K) (ps : List (List K)) (x : K) → eval (batch z ps) x ≡ eval (values_at ps x) z
unfolding batch values_at eval
eval-batch z [] x = refl
eval-batch z (p ∷ ps) x = eval_add p _ x ∙ ap (λ (t : K). eval p x ⊕ t) (eval-scale z _ x ∙ ap (λ (t : K). z ⊗ t) (eval-batch z ps x))

length-batch_le : (z : K) (ps : List (List K)) (n : ℕ) → Sized n ps → length (batch z ps) ≤ n
unfolding batch
length-batch_le z [] n s = omega arith
length-batch_le z (p ∷ ps) n s = omega (arith, length-add_v_left p (scale z (batch z ps)) (omega (arith, length-scale z (batch z ps), length-batch_le z ps n s.1)))

pub length-batch : (z : K) (ps : List (List K)) (n : ℕ) → 0 < length ps → Sized n ps → length (batch z ps) ≡ n
unfolding batch
length-batch z [] n l s = absurd (not-suc-le-zero l)
length-batch z (p ∷ ps) n l s = length-add_v_left p (scale z (batch z ps)) (omega (arith, length-scale z (batch z ps), length-batch_le z ps n s.1)) ∙ s.0

-- ---- an evaluation answer that passes at n different leaves
agree_batch : (ps : List (List K)) (z : K) (t : List K) (es : List K) → All (λ (e : K). eval t e ≡ eval (values_at ps e) z) es → All (λ (e : K). eval t e ≡ eval (batch z ps) e) es
agree_batch ps z t [] h = tt
agree_batch ps z t (e ∷ es) h = (h.0 ∙ sym (eval-batch z ps e), agree_batch ps z t es h.1)

-- the polynomial through the answer is the batch of the rows
answer_batch : (ps : List (List K)) (n : ℕ) → 0 < length ps → Sized n ps → (z : K) (pts vs es : List K)
    → length pts ≡ n → length vs ≡ n → n ≤ length es → Distinct es
    → All (λ (e : K). eval (interp pts vs) e ≡ eval (values_at ps e) z) es → interp pts vs ≡ batch z ps
answer_batch ps n l s z pts vs es lp lv le d h =
    unique es _ _ (length-interp pts vs (lv ∙ sym lp) ∙ lp ∙ sym (length-batch z ps n l s)) (omega (arith, length-batch z ps n l s)) d
    (agree_batch ps z _ es h)

map-batch : (ps : List (List K)) (z : K) (xs : List K) → map (λ (x : K). eval (batch z ps) x) xs ≡ map (λ (x : K). eval (values_at ps x) z) xs
map-batch ps z [] = refl
map-batch ps z (x ∷ xs) = ap₂ (λ (c : K) (t : List K). c ∷ t) (eval-batch z ps x) (map-batch ps z xs)

-- so each of its values is the true one
pub answer_true : (ps : List (List K)) (n : ℕ) → 0 < length ps → Sized n ps → (z : K) (pts vs es : List K)
    → length pts ≡ n → length vs ≡ n → n ≤ length es → Distinct es → Distinct pts
    → All (λ (e : K). eval (interp pts vs) e ≡ eval (values_at ps e) z) es → vs ≡ map (λ (x : K). eval (values_at ps x) z) pts
answer_true ps n l s z pts vs es lp lv le d dp h =
    sym (interp_values pts vs (lv ∙ sym lp) dp)
    ∙ ap (λ (t : List K). map (λ (x : K). eval t x) pts) (answer_batch ps n l s z pts vs es lp lv le d h)
    ∙ map-batch ps z pts

-- the honest answer: the batch's values at the points give the batch back
pub answer_honest : (ps : List (List K)) (n : ℕ) → 0 < length ps → Sized n ps → (z : K) (pts : List K) → length pts ≡ n → Distinct pts
    → interp pts (map (λ (x : K). eval (values_at ps x) z) pts) ≡ batch z ps
answer_honest ps n l s z pts lp d =
    ap (λ (t : List K). interp pts t) (sym (map-batch ps z pts)) ∙ interp_of_values pts (batch z ps) (length-batch z ps n l s ∙ sym lp) d

-- ---- polynomials cut into columns
unfoldable pub power : K → ℕ → K
power x zero = 𝟏
power x (suc n) = x ⊗ power x n

one_more : (x : K) → x ≡ 𝟏 ⊗ x
one_more x = rw (← dv x) (simp ring (dif_path _ _ _ _ (omega arith)))

power-add : (x : K) (m n : ℕ) → power x (m + n) ≡ power x m ⊗ power x n
unfolding power
power-add x zero n = ap (power x) (zero-add n) ∙ one_more (power x n)
power-add x (suc m) n = ap (power x) (suc-add m n) ∙ ap (λ (t : K). x ⊗ t) (power-add x m n) ∙ sym (⊗-assoc x (power x m) (power x n))

pub power-mul : (x : K) (m n : ℕ) → power (power x m) n ≡ power x (m * n)
unfolding power
power-mul x m zero = ap (power x) (sym (mul-zero m))
power-mul x m (suc n) =
    let e : m + m * n ≡ m * suc n = omega arith in
    ap (λ (t : K). power x m ⊗ t) (power-mul x m n) ∙ sym (power-add x m (m * n)) ∙ ap (power x) e

pub eval-append : (p r : List K) (x : K) → eval (p ++ r) x ≡ eval p x ⊕ power x (length p) ⊗ eval r x
unfolding eval power
eval-append [] r x = first (eval r x)
  where
    first : (a : K) → a ≡ 𝟎 ⊕ 𝟏 ⊗ a
    first a = rw (← dv a) (simp ring (dif_path _ _ _ _ (omega arith)))
eval-append (c ∷ p) r x = ap (λ (t : K). c ⊕ x ⊗ t) (eval-append p r x) ∙ step c x (eval p x) (power x (length p)) (eval r x)
  where
    step : (c x a w b : K) → c ⊕ x ⊗ (a ⊕ w ⊗ b) ≡ c ⊕ x ⊗ a ⊕ x ⊗ w ⊗ b
    step c x a w b = rw (← dv c, ← dv x, ← dv a, ← dv w, ← dv b) (simp ring (dif_path _ _ _ _ (omega arith)))

unfoldable pub concat : List (List K) → List K
concat [] = []
concat (c ∷ cs) = c ++ concat cs

-- the value of the whole from the values of its columns of m coefficients each
pub eval-concat : (m : ℕ) (cs : List (List K)) (z : K) → Sized m cs → eval (concat cs) z ≡ eval (values_at cs z) (power z m)
unfolding concat values_at eval
eval-concat m [] z s = refl
eval-concat m (c ∷ cs) z s = eval-append c (concat cs) z ∙ ap₂ (λ (k : ℕ) (t : K). eval c z ⊕ power z k ⊗ t) s.0 (eval-concat m cs z s.1)

-- ---- the rows
unfoldable pub rows_from : List K → List (List K) → ℕ → ℕ → List (List K)
rows_from gs rs i zero = []
rows_from gs rs i (suc m) = row gs rs i ∷ rows_from gs rs (suc i) m

rows_values : (gs : List K) (rs : List (List K)) (x : K) (i : ℕ) (w : List K) → ((k : ℕ) → eval (row gs rs (i + k)) x ≡ get_or w k 𝟎) → values_at (rows_from gs rs i (length w)) x ≡ w
unfolding values_at rows_from
rows_values gs rs x i [] h = refl
rows_values gs rs x i (a ∷ w) h =
    ap₂ (λ (c : K) (t : List K). c ∷ t) (ap (λ (m : ℕ). eval (row gs rs m) x) (sym (add-zero i)) ∙ h 0)
    (rows_values gs rs x (suc i) w (λ (k : ℕ). ap (λ (m : ℕ). eval (row gs rs m) x) (suc-add i k ∙ sym (add-suc i k)) ∙ h (suc k)))

pub sized_rows : (gs : List K) (rs : List (List K)) (n i m : ℕ) → length rs ≡ length gs → 0 < length gs → Sized n rs → Sized n (rows_from gs rs i m)
unfolding rows_from
sized_rows gs rs n i zero l p s = tt
sized_rows gs rs n i (suc m) l p s = (length-row gs rs n i l p s, sized_rows gs rs n (suc i) m l p s)

pub length-rows : (gs : List K) (rs : List (List K)) (i m : ℕ) → length (rows_from gs rs i m) ≡ m
unfolding rows_from
length-rows gs rs i zero = refl
length-rows gs rs i (suc m) = ap suc (length-rows gs rs (suc i) m)

values_map : (rs : List (List K)) (x : K) → values_at rs x ≡ map (λ (r : List K). eval r x) rs
unfolding values_at
values_map [] x = refl
values_map (r ∷ rs) x = ap (λ (t : List K). eval r x ∷ t) (values_map rs x)

-- the rows behind the answers take, at x, the values opened there: m the mask's, ps the rows'
pub rows_take : (gs : List K) (rs : List (List K)) (x m : K) (ps : List K) → length gs ≡ suc (length ps) → Distinct gs
    → values_at rs x ≡ map (λ (g : K). eval (m ∷ ps) g) gs → values_at (rows_from gs rs 1 (length ps)) x ≡ ps
rows_take gs rs x m ps l d h = rows_values gs rs x 1 ps (λ (k : ℕ). ap (λ (i : ℕ). eval (row gs rs i) x) (one-add k) ∙ extract gs rs (m ∷ ps) x (sym l) d (sym (values_map rs x) ∙ h) (suc k))

heads : (p u : List K) (ps us : List (List K)) (es : List K) → All (λ (e : K). values_at (p ∷ ps) e ≡ values_at (u ∷ us) e) es → All (λ (e : K). eval p e ≡ eval u e) es
unfolding values_at
heads p u ps us [] h = tt
heads p u ps us (e ∷ es) h = (let f = h.0 in cc, heads p u ps us es h.1)

tails : (p u : List K) (ps us : List (List K)) (es : List K) → All (λ (e : K). values_at (p ∷ ps) e ≡ values_at (u ∷ us) e) es → All (λ (e : K). values_at ps e ≡ values_at us e) es
unfolding values_at
tails p u ps us [] h = tt
tails p u ps us (e ∷ es) h = (let f = h.0 in cc, tails p u ps us es h.1)

-- and they are the only ones of their degree that do so at as many leaves
pub rows-unique : (ps us : List (List K)) (n : ℕ) (es : List K) → length ps ≡ length us → Sized n ps → Sized n us → n ≤ length es → Distinct es
    → All (λ (e : K). values_at ps e ≡ values_at us e) es → ps ≡ us
rows-unique [] [] n es l s t m d h = refl
rows-unique [] (u ∷ us) n es l s t m d h = absurd (suc-ne-zero _ (sym l))
rows-unique (p ∷ ps) [] n es l s t m d h = absurd (suc-ne-zero _ l)
rows-unique (p ∷ ps) (u ∷ us) n es l s t m d h =
    ap₂ (λ (c : List K) (r : List (List K)). c ∷ r) (unique es p u (s.0 ∙ sym t.0) (omega arith) d (heads p u ps us es h))
    (rows-unique ps us n es (suc_inj l) s.1 t.1 m d (tails p u ps us es h))
