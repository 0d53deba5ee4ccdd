-- Interpolation as a program does it, in place: first the coefficients of Newton's form, c₀ + (X - x₀)(c₁ + (X - x₁)(c₂ + ..)), then its expansion.
use Rattle.std.specs.Prelude.{◌≡◌, refl, ◌≢◌, List, [], ◌∷◌, ◌++◌, map, ℕ, zero, suc, ◌+◌, ◌*◌, ◌-◌, ◌/◌, ◌%◌, ◌≤◌, ◌<◌, max, length, get_or, take, drop, set}
use Rattle.std.proofs.Common.{sym, ◌∙◌, ap, ap₂, subst, ⊎_elim, append-nil, suc-ne-zero, not-suc-le-zero, le_of_suc-le-suc, mod-lt, pos_of_ne-zero, zero-add, le_of_eq, le_of_lt, add-sub_of_le, add-one, arith, lit<, length-drop, length-append, take-append-drop, drop-cons, take-suc, length-take-le, get_or-take, get_or-append-add, get_or-drop, take-suc-set, take_at, drop_at}
use Rattle.std.proofs.Math.Nat.{suc_inj, mod-mod, le-suc_iff, div-add-mod}
use Rattle.std.proofs.lemmas.List.{length-map}
use Rattle.std.proofs.Math.ListN.{get_or-map}
use Rattle.std.proofs.Math.Seq.{drop-length, take-length, paste-suc, append_snoc}
use Rattle.lists.specs.All.{All, Distinct, all_from, all_at, all_map, distinct_at}
use Rattle.algebra.specs.Prime.{q}
use Rattle.algebra.specs.Field.{K, of, of_path, same_mod, of_add, of_mul, of_neg, of_zero, of_one, ◌⊕◌, ◌⊗◌, ◌⊝◌, ⊖, 𝟎, 𝟏, dv, ring, dif_path}
use Rattle.algebra.specs.Poly.{eval, prod, prod-zero, prod_ne_zero}
use Rattle.algebra.specs.Numbers.{ofs-append, eval_n, eval_n_below, of_eval_n, of_injective, ofs, Elements, unique_n, interp_n, interp_n_below, interp_n-length, interp_n_values}

-- ---- in the field
lin : K → K → List K → List K
lin x c [] = c ∷ []
lin x c (a ∷ p) = (c ⊝ x ⊗ a) ∷ lin x a p

eval-lin : (x c : K) (p : List K) (z : K) → eval (lin x c p) z ≡ c ⊕ (z ⊝ x) ⊗ eval p z
unfolding lin eval
eval-lin x c [] z = base x c z
  where
    base : (x c z : K) → c ⊕ z ⊗ 𝟎 ≡ c ⊕ (z ⊝ x) ⊗ 𝟎
    base x c z = rw (← dv x, ← dv c, ← dv z) (simp ring (dif_path _ _ _ _ (omega arith)))
eval-lin x c (a ∷ p) z = ap (λ (t : K). c ⊝ x ⊗ a ⊕ z ⊗ t) (eval-lin x a p z) ∙ step x c a z (eval p z)
  where
    step : (x c a z e : K) → c ⊝ x ⊗ a ⊕ z ⊗ (a ⊕ (z ⊝ x) ⊗ e) ≡ c ⊕ (z ⊝ x) ⊗ (a ⊕ z ⊗ e)
    step x c a z e = rw (← dv x, ← dv c, ← dv a, ← dv z, ← dv e) (simp ring (dif_path _ _ _ _ (omega arith)))

-- Newton's form, evaluated
nev : List K → List K → K → K
nev [] cs z = 𝟎
nev (x ∷ xs) [] z = 𝟎
nev (x ∷ xs) (c ∷ cs) z = c ⊕ (z ⊝ x) ⊗ nev xs cs z

nev-snoc : (xs cs : List K) (x c z : K) → length cs ≡ length xs → nev (xs ++ (x ∷ [])) (cs ++ (c ∷ [])) z ≡ nev xs cs z ⊕ prod xs z ⊗ c
unfolding nev prod
nev-snoc [] [] x c z l = base x c z
  where
    base : (x c z : K) → c ⊕ (z ⊝ x) ⊗ 𝟎 ≡ 𝟎 ⊕ 𝟏 ⊗ c
    base x c z = rw (← dv x, ← dv c, ← dv z) (simp ring (dif_path _ _ _ _ (omega arith)))
nev-snoc [] (b ∷ cs) x c z l = absurd (suc-ne-zero _ l)
nev-snoc (a ∷ xs) [] x c z l = absurd (suc-ne-zero _ (sym l))
nev-snoc (a ∷ xs) (b ∷ cs) x c z l = ap (λ (t : K). b ⊕ (z ⊝ a) ⊗ t) (nev-snoc xs cs x c z (suc_inj l)) ∙ step b (z ⊝ a) (nev xs cs z) (prod xs z) c
  where
    step : (b d n p c : K) → b ⊕ d ⊗ (n ⊕ p ⊗ c) ≡ b ⊕ d ⊗ n ⊕ d ⊗ p ⊗ c
    step b d n p c = rw (← dv b, ← dv d, ← dv n, ← dv p, ← dv c) (simp ring (dif_path _ _ _ _ (omega arith)))

-- ---- on numbers, as a program computes
-- the difference modulo q, of numbers of which the second is at most q
abbrev pub sub_n : ℕ → ℕ → ℕ
sub_n a b = (a + (q - b)) % q

unfoldable pub prod_n : List ℕ → ℕ → ℕ
prod_n [] z = 1
prod_n (x ∷ xs) z = sub_n z x * prod_n xs z % q

unfoldable pub nev_n : List ℕ → List ℕ → ℕ → ℕ
nev_n [] cs z = 0
nev_n (x ∷ xs) [] z = 0
nev_n (x ∷ xs) (c ∷ cs) z = (c + sub_n z x * nev_n xs cs z % q) % q

unfoldable pub lin_n : ℕ → ℕ → List ℕ → List ℕ
lin_n x c [] = c ∷ []
lin_n x c (a ∷ p) = sub_n c (x * a % q) ∷ lin_n x a p

unfoldable pub nform_n : List ℕ → List ℕ → List ℕ
nform_n [] cs = []
nform_n (x ∷ xs) [] = []
nform_n (x ∷ xs) (c ∷ cs) = lin_n x c (nform_n xs cs)

-- the bridges
pub of_mod : (n : ℕ) → of (n % q) ≡ of n
of_mod n = of_path (n % q) n (mod-mod n q)

pub of_sub_n : (a b : ℕ) → b ≤ q → of (sub_n a b) ≡ of a ⊝ of b
of_sub_n a b l = of_mod (a + (q - b)) ∙ sym (of_add a (q - b)) ∙ ap (λ (t : K). of a ⊕ t) (of_q-sub b l)
  where
    of_q-sub : (b : ℕ) → b ≤ q → of (q - b) ≡ ⊖ (of b)
    of_q-sub b l = of_path (q - b) (4294967290 * b) (same_mod (q - b) (4294967290 * b) b 1 (omega arith)) ∙ sym (of_neg b)

of_prod_n : (xs : List ℕ) (z : ℕ) → Elements xs → of (prod_n xs z) ≡ prod (ofs xs) (of z)
unfolding prod_n prod
of_prod_n [] z b = of_one
of_prod_n (x ∷ xs) z b = of_mod _ ∙ sym (of_mul (sub_n z x) (prod_n xs z)) ∙ ap₂ ◌⊗◌ (of_sub_n z x (le_of_lt b.0)) (of_prod_n xs z b.1)

of_nev_n : (xs cs : List ℕ) (z : ℕ) → Elements xs → of (nev_n xs cs z) ≡ nev (ofs xs) (ofs cs) (of z)
unfolding nev_n nev
of_nev_n [] cs z b = of_zero
of_nev_n (x ∷ xs) [] z b = of_zero
of_nev_n (x ∷ xs) (c ∷ cs) z b =
    of_mod _ ∙ sym (of_add c (sub_n z x * nev_n xs cs z % q))
    ∙ ap (λ (t : K). of c ⊕ t) (of_mod _ ∙ sym (of_mul (sub_n z x) (nev_n xs cs z)) ∙ ap₂ ◌⊗◌ (of_sub_n z x (le_of_lt b.0)) (of_nev_n xs cs z b.1))

ofs-lin_n : (x c : ℕ) (p : List ℕ) → ofs (lin_n x c p) ≡ lin (of x) (of c) (ofs p)
unfolding lin_n lin
ofs-lin_n x c [] = refl
ofs-lin_n x c (a ∷ p) =
    ap₂ (λ (k : K) (t : List K). k ∷ t)
    (of_sub_n c (x * a % q) (le_of_lt (mod-lt (x * a) (lit< tt))) ∙ ap (λ (t : K). of c ⊝ t) (of_mod (x * a) ∙ sym (of_mul x a))) (ofs-lin_n x a p)

pub nev_n_below : (xs cs : List ℕ) (z : ℕ) → nev_n xs cs z < q
unfolding nev_n
nev_n_below [] cs z = lit< tt
nev_n_below (x ∷ xs) [] z = lit< tt
nev_n_below (x ∷ xs) (c ∷ cs) z = mod-lt _ (lit< tt)

pub prod_n_below : (xs : List ℕ) (z : ℕ) → prod_n xs z < q
unfolding prod_n
prod_n_below [] z = lit< tt
prod_n_below (x ∷ xs) z = mod-lt _ (lit< tt)

-- the expansion has the same values
eval_nform : (xs cs : List ℕ) (z : ℕ) → Elements xs → eval (ofs (nform_n xs cs)) (of z) ≡ nev (ofs xs) (ofs cs) (of z)
unfolding nform_n nev eval
eval_nform [] cs z b = refl
eval_nform (x ∷ xs) [] z b = refl
eval_nform (x ∷ xs) (c ∷ cs) z b = ap (λ (t : List K). eval t (of z)) (ofs-lin_n x c (nform_n xs cs)) ∙ eval-lin (of x) (of c) (ofs (nform_n xs cs)) (of z) ∙ ap (λ (t : K). of c ⊕ (of z ⊝ of x) ⊗ t) (eval_nform xs cs z b.1)

eval_n-nform_n : (xs cs : List ℕ) (z : ℕ) → Elements xs → eval_n (nform_n xs cs) z ≡ nev_n xs cs z
eval_n-nform_n xs cs z b = of_injective _ _ (eval_n_below _ z) (nev_n_below xs cs z) (of_eval_n (nform_n xs cs) z ∙ eval_nform xs cs z b ∙ sym (of_nev_n xs cs z b))

-- ---- the coefficients of Newton's form, found one by one
-- the first k give the values at the first k points
abbrev pub Good : List ℕ → List ℕ → List ℕ → ℕ → Type 0
Good xs ys cs k = (j : ℕ) → j < k → nev_n (take k xs) (take k cs) (get_or xs j 0) ≡ get_or ys j 0

below_append : (p r : List ℕ) → Elements p → Elements r → Elements (p ++ r)
below_append [] r h k = k
below_append (a ∷ p) r h k = (h.0, below_append p r h.1 k)

pub below_take : (n : ℕ) (p : List ℕ) → Elements p → Elements (take n p)
below_take zero p h = tt
below_take (suc n) [] h = tt
below_take (suc n) (a ∷ p) h = (h.0, below_take n p h.1)

nev_n-snoc : (xs cs : List ℕ) (x c z : ℕ) → Elements xs → x < q → length cs ≡ length xs → of (nev_n (xs ++ (x ∷ [])) (cs ++ (c ∷ [])) z) ≡ of (nev_n xs cs z) ⊕ of (prod_n xs z) ⊗ of c
nev_n-snoc xs cs x c z b u l =
    of_nev_n (xs ++ (x ∷ [])) (cs ++ (c ∷ [])) z (below_append xs (x ∷ []) b (u, tt))
    ∙ ap₂ (λ (s t : List K). nev s t (of z)) (ofs-append xs (x ∷ [])) (ofs-append cs (c ∷ []))
    ∙ nev-snoc (ofs xs) (ofs cs) (of x) (of c) (of z) (length-map cs of ∙ l ∙ sym (length-map xs of))
    ∙ sym (ap₂ (λ (s t : K). s ⊕ t ⊗ of c) (of_nev_n xs cs z b) (of_prod_n xs z b))

pub prod_n_at : (xs : List ℕ) → Elements xs → (j : ℕ) → j < length xs → of (prod_n xs (get_or xs j 0)) ≡ 𝟎
prod_n_at xs b j l =
    of_prod_n xs (get_or xs j 0) b
    ∙ ap (prod (ofs xs)) (sym (get_or-map of xs j 0))
    ∙ all_at (λ (x : K). prod (ofs xs) x ≡ 𝟎) (of 0) (ofs xs) (prod-zero (ofs xs)) j (omega (arith, length-map xs of))

own : (n y w p : K) → w ⊗ p ≡ 𝟏 → n ⊕ p ⊗ ((y ⊝ n) ⊗ w) ≡ y
own n y w p h = group n y w p ∙ rw h (last n y)
  where
    group : (n y w p : K) → n ⊕ p ⊗ ((y ⊝ n) ⊗ w) ≡ n ⊕ (y ⊝ n) ⊗ (w ⊗ p)
    group n y w p = rw (← dv n, ← dv y, ← dv w, ← dv p) (simp ring (dif_path _ _ _ _ (omega arith)))

    last : (n y : K) → n ⊕ (y ⊝ n) ⊗ 𝟏 ≡ y
    last n y = rw (← dv n, ← dv y) (simp ring (dif_path _ _ _ _ (omega arith)))

kept : (n p c : K) → p ≡ 𝟎 → n ⊕ p ⊗ c ≡ n
kept n p c h = rw h (none n c)
  where
    none : (n c : K) → n ⊕ 𝟎 ⊗ c ≡ n
    none n c = rw (← dv n, ← dv c) (simp ring)

-- one more coefficient: w is the inverse of the product over the points before
abbrev next_n : List ℕ → List ℕ → List ℕ → ℕ → ℕ → ℕ
next_n xs ys cs k w = sub_n (get_or ys k 0) (nev_n (take k xs) (take k cs) (get_or xs k 0)) * w % q

module _ (xs ys cs : List ℕ) (k w : ℕ) (bx : Elements xs) (by : Elements ys) (lc : length cs ≡ length xs) (ly : length ys ≡ length xs) (lk : k < length xs) where
  pub more : (z c : ℕ) → of (nev_n (take (suc k) xs) (take k cs ++ (c ∷ [])) z) ≡ of (nev_n (take k xs) (take k cs) z) ⊕ of (prod_n (take k xs) z) ⊗ of c
  more z c =
      ap (λ (t : List ℕ). of (nev_n t (take k cs ++ (c ∷ [])) z)) (take-suc xs k 0 lk)
      ∙ nev_n-snoc (take k xs) (take k cs) (get_or xs k 0) c z (below_take k xs bx) (all_at (λ (a : ℕ). a < q) 0 xs bx k lk)
      (length-take-le k cs (omega arith) ∙ sym (length-take-le k xs (omega arith)))

  of_next : of (next_n xs ys cs k w) ≡ (of (get_or ys k 0) ⊝ of (nev_n (take k xs) (take k cs) (get_or xs k 0))) ⊗ of w
  of_next = of_mod _ ∙ sym (of_mul _ w) ∙ ap (λ (t : K). t ⊗ of w) (of_sub_n _ _ (le_of_lt (nev_n_below (take k xs) (take k cs) (get_or xs k 0))))

  last_value : (w * prod_n (take k xs) (get_or xs k 0)) % q ≡ 1 → nev_n (take (suc k) xs) (take k cs ++ ((next_n xs ys cs k w) ∷ [])) (get_or xs k 0) ≡ get_or ys k 0
  last_value h =
      of_injective _ _ (nev_n_below (take (suc k) xs) (take k cs ++ ((next_n xs ys cs k w) ∷ [])) (get_or xs k 0)) (all_at (λ (a : ℕ). a < q) 0 ys by k (omega arith))
      (more (get_or xs k 0) (next_n xs ys cs k w)
      ∙ ap (λ (t : K). of (nev_n (take k xs) (take k cs) (get_or xs k 0)) ⊕ of (prod_n (take k xs) (get_or xs k 0)) ⊗ t) of_next
      ∙ own _ _ (of w) _ (of_mul w _ ∙ of_path _ 1 h ∙ of_one))

  old_value : (j c : ℕ) → j < k → nev_n (take (suc k) xs) (take k cs ++ (c ∷ [])) (get_or xs j 0) ≡ nev_n (take k xs) (take k cs) (get_or xs j 0)
  old_value j c l =
      of_injective _ _ (nev_n_below (take (suc k) xs) (take k cs ++ (c ∷ [])) (get_or xs j 0)) (nev_n_below (take k xs) (take k cs) (get_or xs j 0))
      (more (get_or xs j 0) c
      ∙ kept _ _ (of c) (ap (λ (m : ℕ). of (prod_n (take k xs) m)) (sym (get_or-take k xs j 0 l)) ∙ prod_n_at (take k xs) (below_take k xs bx) j (omega (arith, length-take-le k xs (omega arith)))))

  good_next : (cs' : List ℕ) → take (suc k) cs' ≡ take k cs ++ ((next_n xs ys cs k w) ∷ []) → (w * prod_n (take k xs) (get_or xs k 0)) % q ≡ 1 → Good xs ys cs k → Good xs ys cs' (suc k)
  good_next cs' e h g j l =
      ap (λ (t : List ℕ). nev_n (take (suc k) xs) t (get_or xs j 0)) e
      ∙ ⊎_elim (λ (m : suc j ≤ k). old_value j (next_n xs ys cs k w) m ∙ g j m)
      (λ (f : suc j ≡ suc k). subst (λ (i : ℕ). nev_n (take (suc k) xs) (take k cs ++ ((next_n xs ys cs k w) ∷ [])) (get_or xs i 0) ≡ get_or ys i 0) (suc_inj (sym f)) (last_value h))
      (le-suc_iff.0 l)

-- ---- the expansion is the interpolation
pub length-lin_n : (x c : ℕ) (p : List ℕ) → length (lin_n x c p) ≡ suc (length p)
unfolding lin_n
length-lin_n x c [] = refl
length-lin_n x c (a ∷ p) = ap suc (length-lin_n x a p)

below_lin_n : (x c : ℕ) (p : List ℕ) → c < q → Elements p → Elements (lin_n x c p)
unfolding lin_n
below_lin_n x c [] l b = (l, tt)
below_lin_n x c (a ∷ p) l b = (mod-lt _ (lit< tt), below_lin_n x a p b.0 b.1)

pub length-nform_n : (xs cs : List ℕ) → length cs ≡ length xs → length (nform_n xs cs) ≡ length xs
unfolding nform_n
length-nform_n [] cs l = refl
length-nform_n (x ∷ xs) [] l = l
length-nform_n (x ∷ xs) (c ∷ cs) l = length-lin_n x c (nform_n xs cs) ∙ ap suc (length-nform_n xs cs (suc_inj l))

below_nform_n : (xs cs : List ℕ) → Elements cs → Elements (nform_n xs cs)
unfolding nform_n
below_nform_n [] cs b = tt
below_nform_n (x ∷ xs) [] b = tt
below_nform_n (x ∷ xs) (c ∷ cs) b = below_lin_n x c (nform_n xs cs) b.0 (below_nform_n xs cs b.1)

get_or-map-eval : (p xs : List ℕ) (j : ℕ) → j < length xs → get_or (map (λ (x : ℕ). eval_n p x) xs) j 0 ≡ eval_n p (get_or xs j 0)
get_or-map-eval p [] j l = absurd (not-suc-le-zero l)
get_or-map-eval p (x ∷ xs) zero l = refl
get_or-map-eval p (x ∷ xs) (suc j) l = get_or-map-eval p xs j (le_of_suc-le-suc l)

pub nform_n-interp_n : (xs ys cs : List ℕ) → Elements xs → Distinct xs → Elements ys → Elements cs → length cs ≡ length xs → length ys ≡ length xs → Good xs ys cs (length xs) → nform_n xs cs ≡ interp_n xs ys
nform_n-interp_n xs ys cs bx d by bc lc ly g =
    unique_n xs (nform_n xs cs) (interp_n xs ys) bx d (below_nform_n xs cs bc) (interp_n_below xs ys) (length-nform_n xs cs lc ∙ sym (interp_n-length xs ys ly)) (le_of_eq (interp_n-length xs ys ly))
    (all_from (λ (x : ℕ). eval_n (nform_n xs cs) x ≡ eval_n (interp_n xs ys) x) 0 xs
    (λ (j : ℕ) (l : j < length xs).
    eval_n-nform_n xs cs (get_or xs j 0) bx
    ∙ ap₂ (λ (s t : List ℕ). nev_n s t (get_or xs j 0)) (sym (take-length xs)) (sym (take-length cs) ∙ ap (λ (m : ℕ). take m cs) lc)
    ∙ g j l
    ∙ ap (λ (t : List ℕ). get_or t j 0) (sym (interp_n_values xs ys bx d by ly))
    ∙ get_or-map-eval (interp_n xs ys) xs j l))

-- ---- the expansion in place: each sweep multiplies what stands behind a coefficient by X - x and adds the coefficient
unfoldable pub sweep_n : ℕ → List ℕ → List ℕ
sweep_n x [] = []
sweep_n x (c ∷ p) = lin_n x c p

pub length-sweep_n : (x : ℕ) (s : List ℕ) → length (sweep_n x s) ≡ length s
unfolding sweep_n
length-sweep_n x [] = refl
length-sweep_n x (c ∷ p) = length-lin_n x c p

lin_n_at : (x c : ℕ) (p : List ℕ) (i : ℕ) → i < length p → get_or (lin_n x c p) i 0 ≡ sub_n (get_or (c ∷ p) i 0) (x * get_or (c ∷ p) (suc i) 0 % q)
unfolding lin_n
lin_n_at x c [] i l = absurd (not-suc-le-zero l)
lin_n_at x c (a ∷ p) zero l = refl
lin_n_at x c (a ∷ p) (suc i) l = lin_n_at x a p i (le_of_suc-le-suc l)

pub sweep_n_at : (x : ℕ) (s : List ℕ) (i : ℕ) → suc i < length s → get_or (sweep_n x s) i 0 ≡ sub_n (get_or s i 0) (x * get_or s (suc i) 0 % q)
unfolding sweep_n
sweep_n_at x [] i l = absurd (not-suc-le-zero l)
sweep_n_at x (c ∷ p) i l = lin_n_at x c p i (le_of_suc-le-suc l)

lin_n-last : (x c : ℕ) (p : List ℕ) → drop (length p) (lin_n x c p) ≡ drop (length p) (c ∷ p)
unfolding lin_n
lin_n-last x c [] = refl
lin_n-last x c (a ∷ p) = lin_n-last x a p

lin_n_end : (x c : ℕ) (p : List ℕ) → get_or (lin_n x c p) (length p) 0 ≡ get_or (c ∷ p) (length p) 0
unfolding lin_n
lin_n_end x c [] = refl
lin_n_end x c (a ∷ p) = lin_n_end x a p

pub sweep_n_end : (x : ℕ) (s : List ℕ) (i : ℕ) → suc i ≡ length s → get_or (sweep_n x s) i 0 ≡ get_or s i 0
unfolding sweep_n
sweep_n_end x [] i l = absurd (suc-ne-zero i l)
sweep_n_end x (c ∷ p) i l = subst (λ (k : ℕ). get_or (lin_n x c p) k 0 ≡ get_or (c ∷ p) k 0) (sym (suc_inj l)) (lin_n_end x c p)

-- the part that a loop has passed is new, the rest old
abbrev pub stage : List ℕ → List ℕ → ℕ → List ℕ
stage r s i = take i r ++ drop i s

pub stage_get : (r s : List ℕ) (i j : ℕ) → length r ≡ length s → i ≤ length s → i ≤ j → get_or (stage r s i) j 0 ≡ get_or s j 0
stage_get r s i j e l m =
    let t : length (take i r) ≡ i = length-take-le i r (omega arith) in
    ap (λ (k : ℕ). get_or (stage r s i) k 0) (omega arith)
    ∙ get_or-append-add (take i r) (drop i s) (j - i) 0
    ∙ get_or-drop i s (j - i) 0
    ∙ ap (λ (k : ℕ). get_or s k 0) (omega arith)

pub stage-set : (r s : List ℕ) (i v : ℕ) → length r ≡ length s → i < length s → v ≡ get_or r i 0 → set (stage r s i) i v ≡ stage r s (suc i)
stage-set r s i v e l h = ap (set (stage r s i) i) h ∙ simp zero-add at (paste-suc s 0 r i 0 (omega arith) (omega arith))

sweep_end : (x : ℕ) (s : List ℕ) (i : ℕ) → i < length s → length s ≤ suc i → stage (sweep_n x s) s i ≡ sweep_n x s
unfolding sweep_n
sweep_end x [] i l m = absurd (not-suc-le-zero l)
sweep_end x (c ∷ p) i l m =
    let e : length p ≡ i = omega arith in
    ap (λ (t : List ℕ). take i (lin_n x c p) ++ t) (subst (λ (k : ℕ). drop k (c ∷ p) ≡ drop k (lin_n x c p)) e (sym (lin_n-last x c p)))
    ∙ take-append-drop i (lin_n x c p)

-- a sweep of the part from k on
nform_n-drop : (xs s0 : List ℕ) (k : ℕ) → length s0 ≡ length xs → k < length xs → sweep_n (get_or xs k 0) (get_or s0 k 0 ∷ nform_n (drop (suc k) xs) (drop (suc k) s0)) ≡ nform_n (drop k xs) (drop k s0)
unfolding nform_n sweep_n
nform_n-drop xs s0 k e l = sym (ap₂ nform_n (drop-cons xs k 0 l) (drop-cons s0 k 0 (omega arith)))

-- a turn of the sweep, at the places j and j + 1
turn : (s now : List ℕ) (x j t v : ℕ) → suc j < length s → now ≡ stage (sweep_n x s) s j → t ≡ x * get_or now (suc j) 0 % q → v ≡ sub_n (get_or now j 0) t → set now j v ≡ stage (sweep_n x s) s (suc j)
turn s now x j t v l e f g =
    let r : List ℕ = sweep_n x s in
    let a : get_or now j 0 ≡ get_or s j 0 = ap (λ (u : List ℕ). get_or u j 0) e ∙ stage_get r s j j (length-sweep_n x s) (omega arith) (omega arith) in
    let b : get_or now (suc j) 0 ≡ get_or s (suc j) 0 = ap (λ (u : List ℕ). get_or u (suc j) 0) e ∙ stage_get r s j (suc j) (length-sweep_n x s) (omega arith) (omega arith) in
    let h : v ≡ get_or r j 0 = g ∙ ap₂ sub_n a (f ∙ ap (λ (m : ℕ). x * m % q) b) ∙ sym (sweep_n_at x s j l) in
    ap (λ (u : List ℕ). set u j v) e ∙ stage-set r s j v (length-sweep_n x s) (omega arith) h

pub sweep_turn : (s now : List ℕ) (x i t v : ℕ) → 1 ≤ i → i < length s → now ≡ stage (sweep_n x s) s (i - 1) → t ≡ x * get_or now i 0 % q → v ≡ sub_n (get_or now (i - 1) 0) t → set now (i - 1) v ≡ stage (sweep_n x s) s (i + 1 - 1)
sweep_turn s now x i t v l m e f g =
    let k : suc (i - 1) ≡ i = omega arith in
    let k' : suc (i - 1) ≡ i + 1 - 1 = omega arith in
    turn s now x (i - 1) t v (omega arith) e (subst (λ (n : ℕ). t ≡ x * get_or now n 0 % q) (sym k) f) g ∙ ap (stage (sweep_n x s) s) k'

pub sweep_done : (s now : List ℕ) (x i : ℕ) → 1 ≤ i → i ≤ max (length s) 1 → length s ≤ i → now ≡ stage (sweep_n x s) s (i - 1) → now ≡ sweep_n x s
unfolding sweep_n
sweep_done [] now x i l u m e = let z : i - 1 ≡ 0 = omega arith in e ∙ ap (stage [] []) z
sweep_done (c ∷ p) now x i l u m e = e ∙ sweep_end x (c ∷ p) (i - 1) (omega arith) (omega arith)

-- a turn of the expansion: the part from k on is swept
abbrev pub expanded : List ℕ → List ℕ → ℕ → List ℕ
expanded xs s k = take k s ++ nform_n (drop k xs) (drop k s)

pub expand_turn : (xs s : List ℕ) (k : ℕ) → length s ≡ length xs → k < length xs
    → take k (expanded xs s (suc k)) ++ sweep_n (get_or xs k 0) (drop k (expanded xs s (suc k))) ≡ expanded xs s k
expand_turn xs s k e l =
    let f : expanded xs s (suc k) ≡ take k s ++ (get_or s k 0 ∷ nform_n (drop (suc k) xs) (drop (suc k) s)) =
    ap (λ (t : List ℕ). t ++ nform_n (drop (suc k) xs) (drop (suc k) s)) (take-suc s k 0 (omega arith)) ∙ append_snoc (take k s) (get_or s k 0) (nform_n (drop (suc k) xs) (drop (suc k) s)) in
    let h : length (take k s) ≡ k = length-take-le k s (omega arith) in
    ap₂ (λ (t u : List ℕ). t ++ sweep_n (get_or xs k 0) u)
    (ap (take k) f ∙ take_at (take k s) (get_or s k 0 ∷ nform_n (drop (suc k) xs) (drop (suc k) s)) k h)
    (ap (drop k) f ∙ drop_at (take k s) (get_or s k 0 ∷ nform_n (drop (suc k) xs) (drop (suc k) s)) k h)
    ∙ ap (λ (t : List ℕ). take k s ++ t) (nform_n-drop xs s k e l)

pub expand_start : (xs s : List ℕ) → length s ≡ length xs → s ≡ expanded xs s (length xs)
unfolding nform_n
expand_start xs s e = sym (ap₂ (λ (t u : List ℕ). t ++ nform_n u (drop (length xs) s)) (ap (λ (n : ℕ). take n s) (sym e) ∙ take-length s) (drop-length xs) ∙ append-nil s)

pub length-expanded : (xs s : List ℕ) (k : ℕ) → length s ≡ length xs → k ≤ length xs → length (expanded xs s k) ≡ length s
length-expanded xs s k e l =
    length-append (take k s) (nform_n (drop k xs) (drop k s))
    ∙ omega (arith, length-take-le k s (omega arith), length-nform_n (drop k xs) (drop k s) (omega (arith, length-drop k xs, length-drop k s)), length-drop k xs)

-- the product over the points before is not 0, where the points differ
pub prod_n_pos : (xs : List ℕ) (k : ℕ) → Elements xs → Distinct xs → k < length xs → 0 < prod_n (take k xs) (get_or xs k 0)
prod_n_pos xs k b d l = pos_of_ne-zero (λ (e : prod_n (take k xs) (get_or xs k 0) ≡ 0). prod_ne_zero (ofs (take k xs)) (of (get_or xs k 0)) apart (sym (of_prod_n (take k xs) (get_or xs k 0) (below_take k xs b)) ∙ ap of e ∙ of_zero))
  where
    len : length (take k xs) ≡ k
    len = length-take-le k xs (omega arith)

    below : (i : ℕ) → i < length xs → get_or xs i 0 < q
    below i m = all_at (λ (a : ℕ). a < q) 0 xs b i m

    one : (i : ℕ) → i < length (take k xs) → of (get_or (take k xs) i 0) ≢ of (get_or xs k 0)
    one i m e =
        let m' : i < k = omega (arith, len) in
        distinct_at 0 xs d i k m' l (sym (sym (get_or-take k xs i 0 m') ∙ of_injective (get_or (take k xs) i 0) (get_or xs k 0) (subst (λ (t : ℕ). t < q) (sym (get_or-take k xs i 0 m')) (below i (omega arith))) (below k l) e))

    apart : All (λ (y : K). y ≢ of (get_or xs k 0)) (ofs (take k xs))
    apart = all_map of (λ (y : K). y ≢ of (get_or xs k 0)) (take k xs) (all_from (λ (a : ℕ). of a ≢ of (get_or xs k 0)) 0 (take k xs) one)

-- a turn of the loop that finds the coefficients
pub newton_turn : (xs ys out : List ℕ) (k a w t v : ℕ) → Elements xs → Elements ys → length out ≡ length xs → length ys ≡ length xs → k < length xs
    → a ≡ nev_n (take k xs) (take k out) (get_or xs k 0) → (w * prod_n (take k xs) (get_or xs k 0)) % q ≡ 1 → t ≡ sub_n (get_or ys k 0) a → v ≡ t * w % q
    → Elements (take k out) → Good xs ys out k → Elements (take (k + 1) (set out k v)) × Good xs ys (set out k v) (k + 1)
newton_turn xs ys out k a w t v bx by lo ly lk ha hw ht hv bo g =
    let f : v ≡ next_n xs ys out k w = hv ∙ ap (λ (m : ℕ). m * w % q) (ht ∙ ap (sub_n (get_or ys k 0)) ha) in
    let e : take (suc k) (set out k v) ≡ take k out ++ (v ∷ []) = take-suc-set out k v (omega arith) in
    let b : v < q = subst (λ (m : ℕ). m < q) (sym hv) (mod-lt (t * w) (lit< tt)) in
    subst (λ (n : ℕ). Elements (take n (set out k v)) × Good xs ys (set out k v) n) (sym (add-one k)) (
      subst (λ (l : List ℕ). Elements l) (sym e) (below_append (take k out) (v ∷ []) bo (b, tt)),
      good_next xs ys out k w bx by lo ly lk (set out k v) (e ∙ ap (λ (m : ℕ). take k out ++ (m ∷ [])) f) hw g,
    )

-- the loop done, and the expansion after it
pub newton_done : (xs ys cs r : List ℕ) (k : ℕ) → Elements xs → Distinct xs → Elements ys → length cs ≡ length xs → length ys ≡ length xs → k ≡ length xs → Elements (take k cs) → Good xs ys cs k → r ≡ nform_n xs cs → r ≡ interp_n xs ys
newton_done xs ys cs r k bx d by lc ly e b g h =
    h ∙ nform_n-interp_n xs ys cs bx d by (subst (λ (l : List ℕ). Elements l) (ap (λ (n : ℕ). take n cs) (e ∙ sym lc) ∙ take-length cs) b) lc ly (subst (λ (n : ℕ). Good xs ys cs n) e g)

-- a - b c, reduced once
expand_product : (a b c d m k r : ℕ) → b + d ≡ q → m ≡ b * c → q * k + r ≡ m → r ≤ q → a + d * c + q * (k + 1) ≡ a + (q - r) + q * c
expand_product a b c d m k r e f g h = omega (arith, ap (λ (t : ℕ). t * c) e)

pub sub_product : (a b c : ℕ) → b ≤ q → (a + (q - b) * c) % q ≡ sub_n a (b * c % q)
sub_product a b c l = same_mod (a + (q - b) * c) (a + (q - b * c % q)) (b * c / q + 1) c (expand_product a b c (q - b) (b * c) (b * c / q) (b * c % q) (add-sub_of_le l) refl (div-add-mod (b * c) q) (le_of_lt (mod-lt (b * c) (lit< tt))))
