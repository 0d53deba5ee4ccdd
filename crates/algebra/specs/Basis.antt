-- The values at a place of the basis of interpolation: at n points, the polynomials that are 1 at one point and 0 at the others. Over consecutive points by the table.
use Rattle.std.specs.Prelude.{◌≡◌, refl, List, [], ◌∷◌, map, ℕ, zero, suc, ◌+◌, ◌≤◌, ◌<◌, length, get_or, replicate}
use Rattle.std.proofs.Common.{sym, ◌∙◌, ap, ap₂, not-suc-le-zero, suc-ne-zero, add-suc, arith}
use Rattle.std.proofs.Math.Nat.{suc_inj}
use Rattle.std.proofs.lemmas.List.{length-map, length-replicate}
use Rattle.lists.specs.All.{Distinct}
use Rattle.algebra.specs.Prime.{q}
use Rattle.algebra.specs.Field.{K, of, of_one, ◌⊕◌, ◌⊗◌, 𝟎, 𝟏, dv, ring, dif_path, ⊗-assoc}
use Rattle.algebra.specs.Poly.{eval, prod}
use Rattle.algebra.specs.Interp.{dot, bases, length-bases, eval-interp, interp, interp_of_values}
use Rattle.algebra.specs.Lagrange.{elements_from, down_to, weight, Weights, lsum, lagrange, weights, elements_from_distinct}
use Rattle.algebra.specs.Numbers.{eval_n, of_eval_n, ofs, ofs-vals, interp_n}
use Rattle.lists.specs.Range.{up_from, length-up_from}

-- ---- Lagrange's values: each weight times the differences of z to the other points
pub lvals : List K → List K → List K → K → List K
lvals pre [] ws z = []
lvals pre (x ∷ post) [] z = []
lvals pre (x ∷ post) (w ∷ ws) z = (w ⊗ (prod pre z ⊗ prod post z)) ∷ lvals (x ∷ pre) post ws z

lsum-dot : (pre post ws ys : List K) (z : K) → lsum pre post ws ys z ≡ dot ys (lvals pre post ws z)
unfolding lsum lvals dot
lsum-dot pre [] ws [] z = refl
lsum-dot pre [] ws (y ∷ ys) z = refl
lsum-dot pre (x ∷ post) [] [] z = refl
lsum-dot pre (x ∷ post) [] (y ∷ ys) z = refl
lsum-dot pre (x ∷ post) (w ∷ ws) [] z = refl
lsum-dot pre (x ∷ post) (w ∷ ws) (y ∷ ys) z = ap₂ ◌⊕◌ (⊗-assoc y w _) (lsum-dot (x ∷ pre) post ws ys z)

length-lvals : (pre post ws : List K) (z : K) → Weights ws pre post → length (lvals pre post ws z) ≡ length post
unfolding lvals
length-lvals pre [] ws z h = refl
length-lvals pre (x ∷ post) [] z h = absurd h
length-lvals pre (x ∷ post) (w ∷ ws) z h = ap suc (length-lvals (x ∷ pre) post ws z h.1)

-- two lists with the same products with every list are one
dot-zeros : (n : ℕ) (bs : List K) → dot (replicate n 𝟎) bs ≡ 𝟎
unfolding dot
dot-zeros zero bs = refl
dot-zeros (suc n) [] = refl
dot-zeros (suc n) (b ∷ bs) = ap (λ (t : K). 𝟎 ⊗ b ⊕ t) (dot-zeros n bs) ∙ none b
  where
    none : (b : K) → 𝟎 ⊗ b ⊕ 𝟎 ≡ 𝟎
    none b = rw (← dv b) (simp ring)

dot_ext : (bs cs : List K) → length bs ≡ length cs → ((ys : List K) → length ys ≡ length bs → dot ys bs ≡ dot ys cs) → bs ≡ cs
unfolding dot
dot_ext [] [] l h = refl
dot_ext [] (c ∷ cs) l h = absurd (suc-ne-zero _ (sym l))
dot_ext (b ∷ bs) [] l h = absurd (suc-ne-zero _ l)
dot_ext (b ∷ bs) (c ∷ cs) l h =
    ap₂ (λ (k : K) (t : List K). k ∷ t) (head b c bs cs (h (𝟏 ∷ replicate (length bs) 𝟎) (ap suc (length-replicate (length bs) 𝟎))))
    (dot_ext bs cs (suc_inj l) (λ (ys : List K) (e : length ys ≡ length bs). tail b c ys bs cs (h (𝟎 ∷ ys) (ap suc e))))
  where
    one : (b : K) → 𝟏 ⊗ b ⊕ 𝟎 ≡ b
    one b = rw (← dv b) (simp ring (dif_path _ _ _ _ (omega arith)))

    none : (b d : K) → 𝟎 ⊗ b ⊕ d ≡ d
    none b d = rw (← dv b, ← dv d) (simp ring)

    head : (b c : K) (bs cs : List K) → dot (𝟏 ∷ replicate (length bs) 𝟎) (b ∷ bs) ≡ dot (𝟏 ∷ replicate (length bs) 𝟎) (c ∷ cs) → b ≡ c
    head b c bs cs e = sym (ap (λ (t : K). 𝟏 ⊗ b ⊕ t) (dot-zeros (length bs) bs) ∙ one b) ∙ e ∙ ap (λ (t : K). 𝟏 ⊗ c ⊕ t) (dot-zeros (length bs) cs) ∙ one c

    tail : (b c : K) (ys bs cs : List K) → dot (𝟎 ∷ ys) (b ∷ bs) ≡ dot (𝟎 ∷ ys) (c ∷ cs) → dot ys bs ≡ dot ys cs
    tail b c ys bs cs e = sym (none b (dot ys bs)) ∙ e ∙ none c (dot ys cs)

pub basis_values : (xs ws : List K) (z : K) → Distinct xs → Weights ws [] xs → map (λ (b : List K). eval b z) (bases xs) ≡ lvals [] xs ws z
basis_values xs ws z d h =
    dot_ext _ _ (len ∙ sym (length-lvals [] xs ws z h))
    (λ (ys : List K) (e : length ys ≡ length (map (λ (b : List K). eval b z) (bases xs))). sym (eval-interp xs ys z) ∙ lagrange xs ws ys (e ∙ len) d h z ∙ lsum-dot [] xs ws ys z)
  where
    len : length (map (λ (b : List K). eval b z) (bases xs)) ≡ length xs
    len = length-map (bases xs) (λ (b : List K). eval b z) ∙ length-bases xs

-- ---- over consecutive points: j points below, r above
pub lvals_at : (T : ℕ → K) (a i m k : ℕ) (z : K) (j r : ℕ) → j ≡ i + k → r + suc k ≡ m
    → get_or (lvals (down_to a i) (elements_from (a + i) m) (weights T i m) z) k 𝟎 ≡ weight T j r ⊗ (prod (down_to a j) z ⊗ prod (elements_from (suc (a + j)) r) z)
unfolding lvals elements_from weights down_to
lvals_at T a i zero k z j r e f = absurd (suc-ne-zero (r + k) (sym (add-suc r k) ∙ f))
lvals_at T a i (suc m) zero z j r e f =
    let e' : i ≡ j = omega arith in
    let f' : m ≡ r = omega arith in
    ap₂ (λ (s t : ℕ). weight T s t ⊗ (prod (down_to a s) z ⊗ prod (elements_from (suc (a + s)) t) z)) e' f'
lvals_at T a i (suc m) (suc k) z j r e f =
    ap (λ (p : ℕ). get_or (lvals (down_to a (suc i)) (elements_from p m) (weights T (suc i) m) z) k 𝟎) (sym (add-suc a i))
    ∙ lvals_at T a (suc i) m k z j r (omega arith) (omega arith)

pub ofs-points : (a n : ℕ) → ofs (up_from a n) ≡ elements_from a n
unfolding up_from elements_from
ofs-points a zero = refl
ofs-points a (suc n) = ap (λ (t : List K). of a ∷ t) (ofs-points (suc a) n)

-- ---- the values 1 have the polynomial 1
eval_none : (k : ℕ) (z : K) → eval (replicate k 𝟎) z ≡ 𝟎
unfolding eval
eval_none zero z = refl
eval_none (suc k) z = ap (λ (t : K). 𝟎 ⊕ z ⊗ t) (eval_none k z) ∙ none z
  where
    none : (z : K) → 𝟎 ⊕ z ⊗ 𝟎 ≡ 𝟎
    none z = rw (← dv z) (simp ring)

eval-constant : (k : ℕ) (z : K) → eval (𝟏 ∷ replicate k 𝟎) z ≡ 𝟏
unfolding eval
eval-constant k z = ap (λ (t : K). 𝟏 ⊕ z ⊗ t) (eval_none k z) ∙ one z
  where
    one : (z : K) → 𝟏 ⊕ z ⊗ 𝟎 ≡ 𝟏
    one z = rw (← dv z) (simp ring)

ones : (p : List K) → ((z : K) → eval p z ≡ 𝟏) → (xs : List K) → ofs (replicate (length xs) 1) ≡ map (λ (z : K). eval p z) xs
ones p h [] = refl
ones p h (x ∷ xs) = ap₂ (λ (k : K) (t : List K). k ∷ t) (of_one ∙ sym (h x)) (ones p h xs)

pub value_of_ones : (a n x : ℕ) → 0 < n → a + n ≤ q → of (eval_n (interp_n (up_from a n) (replicate n 1)) x) ≡ 𝟏
unfolding interp_n
value_of_ones a zero x l u = absurd (not-suc-le-zero {n = 0} l)
value_of_ones a (suc k) x l u =
    of_eval_n _ x
    ∙ ap (λ (t : List K). eval t (of x)) (ofs-vals (interp (ofs (up_from a (suc k))) (ofs (replicate (suc k) 1)))
    ∙ ap₂ (λ (s : List K) (j : ℕ). interp s (ofs (replicate j 1))) (ofs-points a (suc k)) (sym long)
    ∙ ap (interp (elements_from a (suc k))) (ones (𝟏 ∷ replicate k 𝟎) (eval-constant k) (elements_from a (suc k)))
    ∙ interp_of_values (elements_from a (suc k)) (𝟏 ∷ replicate k 𝟎) (ap suc (length-replicate k 𝟎) ∙ sym long) (elements_from_distinct a (suc k) u))
    ∙ eval-constant k (of x)
  where
    long : length (elements_from a (suc k)) ≡ suc k
    long = ap length (sym (ofs-points a (suc k))) ∙ length-map (up_from a (suc k)) of ∙ length-up_from a (suc k)
