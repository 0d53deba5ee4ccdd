-- Polynomials stacked one above the other: the sum over t of X^(tμ) times polynomial t.
use Rattle.std.specs.Prelude.{◌≡◌, refl, List, [], ◌∷◌, ◌++◌, ℕ, zero, suc, ◌+◌, ◌*◌, ◌%◌, ◌≤◌, ◌<◌, length, replicate}
use Rattle.std.proofs.Common.{sym, ap, ap₂, ◌∙◌, append-nil, mod-lt, arith, lit<, length-append}
use Rattle.std.proofs.Math.Nat.{mod-mod}
use Rattle.std.proofs.lemmas.List.{length-replicate}
use Rattle.lists.specs.All.{All, Sized, all_append}
use Rattle.algebra.specs.Prime.{q}
use Rattle.algebra.specs.Field.{K, of, of_path, of_add, of_mul, of_one, of_zero, ◌⊕◌, ◌⊗◌, 𝟎, 𝟏, dv, ring, dif_path}
use Rattle.algebra.specs.Poly.{eval, add_v, eval_add}
use Rattle.algebra.specs.Numbers.{eval_n, eval_n_below, of_eval_n, of_injective, ofs, values_at_n, Elements}
use Rattle.algebra.specs.Columns.{pow_n}

-- the sum of two polynomials
unfoldable pub add_n : List ℕ → List ℕ → List ℕ
add_n [] ys = ys
add_n (x ∷ xs) [] = x ∷ xs
add_n (x ∷ xs) (y ∷ ys) = (x + y) % q ∷ add_n xs ys

-- the sum over t of X^(tμ) times polynomial t
unfoldable pub stacked : ℕ → List (List ℕ) → List ℕ
stacked μ [] = []
stacked μ (c ∷ cs) = add_n c (replicate μ 0 ++ stacked μ cs)

-- ---- laws

ofs-add : (p r : List ℕ) → ofs (add_n p r) ≡ add_v (ofs p) (ofs r)
unfolding add_n add_v
ofs-add [] r = refl
ofs-add (a ∷ p) [] = refl
ofs-add (a ∷ p) (b ∷ r) = ap₂ (λ (c : K) (t : List K). c ∷ t) (of_path _ (a + b) (mod-mod _ q) ∙ sym (of_add a b)) (ofs-add p r)

shift-step : (z p e : K) → 𝟎 ⊕ z ⊗ (p ⊗ e) ≡ (z ⊗ p) ⊗ e
shift-step z p e = rw (← dv z, ← dv p, ← dv e) (simp ring (dif_path _ _ _ _ (omega arith)))

shift_none : (e : K) → e ≡ 𝟏 ⊗ e
shift_none e = rw (← dv e) (simp ring (dif_path _ _ _ _ (omega arith)))

eval-shift : (m : ℕ) (p : List ℕ) (z : ℕ) → eval (ofs (replicate m 0 ++ p)) (of z) ≡ of (pow_n z m) ⊗ eval (ofs p) (of z)
unfolding eval pow_n
eval-shift zero p z = shift_none (eval (ofs p) (of z)) ∙ ap (λ (t : K). t ⊗ eval (ofs p) (of z)) (sym of_one)
eval-shift (suc m) p z =
    ap₂ (λ (a b : K). a ⊕ of z ⊗ b) of_zero (eval-shift m p z)
    ∙ shift-step (of z) (of (pow_n z m)) (eval (ofs p) (of z))
    ∙ ap (λ (t : K). t ⊗ eval (ofs p) (of z)) (of_mul z (pow_n z m) ∙ sym (of_path _ (z * pow_n z m) (mod-mod _ q)))

of_stacked : (m : ℕ) (cs : List (List ℕ)) (z : ℕ) → eval (ofs (stacked m cs)) (of z) ≡ eval (ofs (values_at_n cs z)) (of (pow_n z m))
unfolding stacked values_at_n eval
of_stacked m [] z = refl
of_stacked m (c ∷ cs) z =
    ap (λ (t : List K). eval t (of z)) (ofs-add c (replicate m 0 ++ stacked m cs))
    ∙ eval_add (ofs c) (ofs (replicate m 0 ++ stacked m cs)) (of z)
    ∙ ap₂ ◌⊕◌ (sym (of_eval_n c z)) (eval-shift m (stacked m cs) z ∙ ap (λ (t : K). of (pow_n z m) ⊗ t) (of_stacked m cs z))

-- the sum over t of z^(tm) times the value of column t is the value of the stacked polynomial
pub stacked_value : (m : ℕ) (cs : List (List ℕ)) (z : ℕ) → eval_n (values_at_n cs z) (pow_n z m) ≡ eval_n (stacked m cs) z
stacked_value m cs z =
    of_injective _ _ (eval_n_below (values_at_n cs z) (pow_n z m)) (eval_n_below (stacked m cs) z)
    (of_eval_n (values_at_n cs z) (pow_n z m) ∙ sym (of_stacked m cs z) ∙ sym (of_eval_n (stacked m cs) z))

-- ---- lengths and elements

length-add_n : (xs ys : List ℕ) → length xs ≤ length ys → length (add_n xs ys) ≡ length ys
unfolding add_n
length-add_n [] ys l = refl
length-add_n (x ∷ xs) [] l = absurd (omega arith)
length-add_n (x ∷ xs) (y ∷ ys) l = ap suc (length-add_n xs ys (omega arith))

length-add_n_left : (xs ys : List ℕ) → length ys ≤ length xs → length (add_n xs ys) ≡ length xs
unfolding add_n
length-add_n_left [] [] l = refl
length-add_n_left [] (y ∷ ys) l = absurd (omega arith)
length-add_n_left (x ∷ xs) [] l = refl
length-add_n_left (x ∷ xs) (y ∷ ys) l = ap suc (length-add_n_left xs ys (omega arith))

add_n_below : (xs ys : List ℕ) → Elements xs → Elements ys → Elements (add_n xs ys)
unfolding add_n
add_n_below [] ys h k = k
add_n_below (x ∷ xs) [] h k = h
add_n_below (x ∷ xs) (y ∷ ys) h k = (mod-lt _ (lit< tt), add_n_below xs ys h.1 k.1)

zeros_below : (n : ℕ) → Elements (replicate n 0)
zeros_below zero = tt
zeros_below (suc n) = (lit< tt, zeros_below n)

pub stacked_below : (m : ℕ) (cs : List (List ℕ)) → All Elements cs → Elements (stacked m cs)
unfolding stacked
stacked_below m [] h = tt
stacked_below m (c ∷ cs) h = add_n_below c _ h.0 (all_append (λ (x : ℕ). x < q) (replicate m 0) (stacked m cs) (zeros_below m) (stacked_below m cs h.1))

-- n + 1 columns of m + b elements
pub stacked-length : (m b n : ℕ) (cs : List (List ℕ)) → length cs ≡ suc n → Sized (m + b) cs → length (stacked m cs) ≡ m * suc n + b
unfolding stacked
stacked-length m b n [] e h = absurd (omega arith)
stacked-length m b zero (c ∷ []) e h =
    length-add_n_left c (replicate m 0 ++ []) (omega (arith, h.0, ap length (append-nil (replicate {A = ℕ} m 0)), length-replicate {A = ℕ} m 0)) ∙ h.0 ∙ omega arith
stacked-length m b zero (c ∷ c' ∷ cs) e h = absurd (omega arith)
stacked-length m b (suc n) (c ∷ cs) e h =
    let i : length (stacked m cs) ≡ m * suc n + b = stacked-length m b n cs (omega arith) h.1 in
    let l : length (replicate m 0 ++ stacked m cs) ≡ m * suc (suc n) + b = length-append (replicate m 0) (stacked m cs) ∙ omega (arith, i, length-replicate {A = ℕ} m 0) in
    length-add_n c (replicate m 0 ++ stacked m cs) (omega (arith, l, h.0)) ∙ l
