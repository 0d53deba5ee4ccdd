-- The same for numbers: what programs compute on lists of numbers below q, and the field's theorems about it.
use Rattle.std.specs.Prelude.{◌≡◌, refl, ◌≢◌, List, [], ◌∷◌, ◌++◌, map, ℕ, zero, suc, ◌+◌, ◌*◌, ◌-◌, ◌%◌, ◌≤◌, ◌<◌, length, get_or, drop, set}
use Rattle.std.proofs.Common.{sym, ◌∙◌, ap, ap₂, suc-le-suc, zero-lt-suc, suc-ne-zero, mod-lt, mod-eq_of_lt, arith, lit<, drop-cons}
use Rattle.std.proofs.Math.Nat.{suc_inj, mod-mod, add-mod-mod}
use Rattle.std.proofs.lemmas.List.{length-map}
use Rattle.std.proofs.Math.Seq.{drop-length}
use Rattle.lists.specs.All.{All, Below, Distinct, all_imp, all_map, Sized}
use Rattle.algebra.specs.Prime.{q}
use Rattle.algebra.specs.Field.{K, of, val_of, of_val, of_inj, of_path, of_add, of_mul, of_zero, ◌⊕◌, ◌⊗◌}
use Rattle.algebra.specs.Poly.{eval, unique}
use Rattle.algebra.specs.Interp.{interp, interp_values, length-interp}
use Rattle.algebra.specs.Rows.{values_at, rows_from, rows_take, rows-unique, sized_rows, length-rows, answer_true}

-- ---- the value of a polynomial, by Horner's rule
unfoldable pub eval_n : List ℕ → ℕ → ℕ
eval_n [] x = 0
eval_n (c ∷ cs) x = (c + x * eval_n cs x) % q

abbrev pub Elements : List ℕ → Type 0
Elements p = Below q p

pub elements_at : (p : List ℕ) → Elements p → (i : ℕ) → get_or p i 0 < q
elements_at [] b i = lit< tt
elements_at (a ∷ p) b zero = b.0
elements_at (a ∷ p) b (suc i) = elements_at p b.1 i

pub elements-set : (p : List ℕ) (i v : ℕ) → v < q → Elements p → Elements (set p i v)
elements-set [] i v l b = tt
elements-set (a ∷ p) zero v l b = (l, b.1)
elements-set (a ∷ p) (suc i) v l b = (b.0, elements-set p i v l b.1)

abbrev pub ofs : List ℕ → List K
ofs p = map of p

abbrev pub vals : List K → List ℕ
vals p = map (λ (a : K). a.val) p

pub eval_n_below : (p : List ℕ) (x : ℕ) → eval_n p x < q
unfolding eval_n
eval_n_below [] x = lit< tt
eval_n_below (c ∷ cs) x = mod-lt _ (lit< tt)

-- one step of a loop that goes from the last coefficient to the first
eval_n-step : (p : List ℕ) (x i j : ℕ) → suc j ≡ i → j < length p → (get_or p j 0 + x * eval_n (drop i p) x % q) % q ≡ eval_n (drop j p) x
unfolding eval_n
eval_n-step p x i j e l =
    ap (λ (k : ℕ). (get_or p j 0 + x * eval_n (drop k p) x % q) % q) (sym e)
    ∙ add-mod-mod (get_or p j 0) (x * eval_n (drop (suc j) p) x) q
    ∙ sym (ap (λ (t : List ℕ). eval_n t x) (drop-cons p j 0 l))

pub eval_n_turn : (p : List ℕ) (x i : ℕ) → 0 < i → i ≤ length p → (get_or p (i - 1) 0 + x * eval_n (drop i p) x) % q ≡ eval_n (drop (i - 1) p) x
eval_n_turn p x i l m =
    let e : suc (i - 1) ≡ i = omega arith in
    sym (add-mod-mod (get_or p (i - 1) 0) (x * eval_n (drop i p) x) q) ∙ eval_n-step p x i (i - 1) e (omega arith)

pub eval_n_end : (p : List ℕ) (x : ℕ) → eval_n (drop (length p) p) x ≡ 0
unfolding eval_n
eval_n_end p x = ap (λ (t : List ℕ). eval_n t x) (drop-length p)

-- the one bridge: Horner's rule on numbers is evaluation in the field
pub of_eval_n : (p : List ℕ) (x : ℕ) → of (eval_n p x) ≡ eval (ofs p) (of x)
unfolding eval_n eval
of_eval_n [] x = of_zero
of_eval_n (c ∷ cs) x =
    of_path _ (c + x * eval_n cs x) (mod-mod _ q)
    ∙ sym (of_add c (x * eval_n cs x))
    ∙ ap (λ (t : K). of c ⊕ t) (sym (of_mul x (eval_n cs x)) ∙ ap (λ (t : K). of x ⊗ t) (of_eval_n cs x))

pub of_injective : (m n : ℕ) → m < q → n < q → of m ≡ of n → m ≡ n
of_injective m n l u e = sym (mod-eq_of_lt l) ∙ of_inj m n e ∙ mod-eq_of_lt u

pub val_of_below : (m : ℕ) → m < q → (of m).val ≡ m
val_of_below m l = val_of m ∙ mod-eq_of_lt l

vals-ofs : (p : List ℕ) → Elements p → vals (ofs p) ≡ p
vals-ofs [] h = refl
vals-ofs (a ∷ p) h = ap₂ (λ (c : ℕ) (t : List ℕ). c ∷ t) (val_of_below a h.0) (vals-ofs p h.1)

pub ofs-vals : (p : List K) → ofs (vals p) ≡ p
ofs-vals [] = refl
ofs-vals (a ∷ p) = ap₂ (λ (c : K) (t : List K). c ∷ t) (of_val a) (ofs-vals p)

vals_below : (p : List K) → Elements (vals p)
vals_below [] = tt
vals_below (a ∷ p) = (a.below, vals_below p)

ofs_injective : (p r : List ℕ) → Elements p → Elements r → ofs p ≡ ofs r → p ≡ r
ofs_injective p r h k e = sym (vals-ofs p h) ∙ ap vals e ∙ vals-ofs r k

apart_ofs : (x : ℕ) (xs : List ℕ) → x < q → Elements xs → All (λ (y : ℕ). y ≢ x) xs → All (λ (y : K). y ≢ of x) (ofs xs)
apart_ofs x [] l b h = tt
apart_ofs x (y ∷ ys) l b h = (λ (e : of y ≡ of x). h.0 (of_injective y x b.0 l e), apart_ofs x ys l b.1 h.1)

pub distinct_ofs : (xs : List ℕ) → Elements xs → Distinct xs → Distinct (ofs xs)
distinct_ofs [] b d = tt
distinct_ofs (x ∷ xs) b d = (apart_ofs x xs b.0 b.1 d.0, distinct_ofs xs b.1 d.1)

-- ---- uniqueness
pub unique_n : (xs p r : List ℕ) → Elements xs → Distinct xs → Elements p → Elements r → length p ≡ length r → length r ≤ length xs
    → All (λ (x : ℕ). eval_n p x ≡ eval_n r x) xs → p ≡ r
unique_n xs p r bx d bp br l m h =
    ofs_injective p r bp br
    (unique (ofs xs) (ofs p) (ofs r) (length-map p of ∙ l ∙ sym (length-map r of)) (omega (arith, length-map r of, length-map xs of)) (distinct_ofs xs bx d)
    (all_map of (λ (x : K). eval (ofs p) x ≡ eval (ofs r) x) xs (all_imp (λ (x : ℕ) (e : eval_n p x ≡ eval_n r x). sym (of_eval_n p x) ∙ ap of e ∙ of_eval_n r x) xs h)))

-- ---- interpolation
unfoldable pub interp_n : List ℕ → List ℕ → List ℕ
interp_n xs ys = vals (interp (ofs xs) (ofs ys))

pub interp_n_below : (xs ys : List ℕ) → Elements (interp_n xs ys)
unfolding interp_n
interp_n_below xs ys = vals_below (interp (ofs xs) (ofs ys))

pub interp_n-length : (xs ys : List ℕ) → length ys ≡ length xs → length (interp_n xs ys) ≡ length xs
unfolding interp_n
interp_n-length xs ys l = length-map (interp (ofs xs) (ofs ys)) (λ (a : K). a.val) ∙ length-interp (ofs xs) (ofs ys) (length-map ys of ∙ l ∙ sym (length-map xs of)) ∙ length-map xs of

eval_n-vals : (p : List K) (x : ℕ) → eval_n (vals p) x ≡ (eval p (of x)).val
eval_n-vals p x =
    sym (val_of_below _ (eval_n_below (vals p) x))
    ∙ ap (λ (t : K). t.val) (of_eval_n (vals p) x ∙ ap (λ (t : List K). eval t (of x)) (ofs-vals p))

map-eval_n-vals : (p : List K) (xs : List ℕ) → map (λ (x : ℕ). eval_n (vals p) x) xs ≡ vals (map (λ (x : K). eval p x) (ofs xs))
map-eval_n-vals p [] = refl
map-eval_n-vals p (x ∷ xs) = ap₂ (λ (c : ℕ) (t : List ℕ). c ∷ t) (eval_n-vals p x) (map-eval_n-vals p xs)

pub interp_n_values : (xs ys : List ℕ) → Elements xs → Distinct xs → Elements ys → length ys ≡ length xs → map (λ (x : ℕ). eval_n (interp_n xs ys) x) xs ≡ ys
unfolding interp_n
interp_n_values xs ys bx d by l =
    map-eval_n-vals (interp (ofs xs) (ofs ys)) xs
    ∙ ap vals (interp_values (ofs xs) (ofs ys) (length-map ys of ∙ l ∙ sym (length-map xs of)) (distinct_ofs xs bx d))
    ∙ vals-ofs ys by

-- ---- several polynomials
unfoldable pub values_at_n : List (List ℕ) → ℕ → List ℕ
values_at_n [] x = []
values_at_n (p ∷ ps) x = eval_n p x ∷ values_at_n ps x

pub ofs-values_at_n : (ps : List (List ℕ)) (x : ℕ) → ofs (values_at_n ps x) ≡ values_at (map ofs ps) (of x)
unfolding values_at_n values_at
ofs-values_at_n [] x = refl
ofs-values_at_n (p ∷ ps) x = ap₂ (λ (c : K) (t : List K). c ∷ t) (of_eval_n p x) (ofs-values_at_n ps x)

values_at_n-vals : (ps : List (List K)) (x : ℕ) → values_at_n (map vals ps) x ≡ vals (values_at ps (of x))
unfolding values_at_n values_at
values_at_n-vals [] x = refl
values_at_n-vals (p ∷ ps) x = ap₂ (λ (c : ℕ) (t : List ℕ). c ∷ t) (eval_n-vals p x) (values_at_n-vals ps x)

-- lists of n numbers below q
abbrev pub Polys : ℕ → List (List ℕ) → Type 0
Polys n ps = All (λ (p : List ℕ). (length p ≡ n) × Elements p) ps

pub sized-ofs : (n : ℕ) (ps : List (List ℕ)) → Polys n ps → Sized n (map ofs ps)
sized-ofs n [] h = tt
sized-ofs n (p ∷ ps) h = (length-map p of ∙ h.0.0, sized-ofs n ps h.1)

polys_vals : (n : ℕ) (ps : List (List K)) → Sized n ps → Polys n (map vals ps)
polys_vals n [] h = tt
polys_vals n (p ∷ ps) h = ((length-map p _ ∙ h.0, vals_below p), polys_vals n ps h.1)

-- ---- the rows behind the answers rs to the challenges gs
pub rows_n : List ℕ → List (List ℕ) → ℕ → List (List ℕ)
rows_n gs rs m = map vals (rows_from (ofs gs) (map ofs rs) 1 m)

map-ofs-eval : (ps : List ℕ) (gs : List ℕ) → map (λ (g : K). eval (ofs ps) g) (ofs gs) ≡ ofs (map (λ (g : ℕ). eval_n ps g) gs)
map-ofs-eval ps [] = refl
map-ofs-eval ps (g ∷ gs) = ap₂ (λ (c : K) (t : List K). c ∷ t) (sym (of_eval_n ps g)) (map-ofs-eval ps gs)

pub rows_n_polys : (gs : List ℕ) (rs : List (List ℕ)) (n m : ℕ) → length rs ≡ length gs → 0 < length gs → Polys n rs → Polys n (rows_n gs rs m)
unfolding rows_n
rows_n_polys gs rs n m l p h = polys_vals n (rows_from (ofs gs) (map ofs rs) 1 m) (sized_rows (ofs gs) (map ofs rs) n 1 m (length-map rs ofs ∙ l ∙ sym (length-map gs of)) (omega (arith, length-map gs of)) (sized-ofs n rs h))

pub rows_n-length : (gs : List ℕ) (rs : List (List ℕ)) (m : ℕ) → length (rows_n gs rs m) ≡ m
unfolding rows_n
rows_n-length gs rs m = length-map (rows_from (ofs gs) (map ofs rs) 1 m) vals ∙ length-rows (ofs gs) (map ofs rs) 1 m

-- Where each answer's value at x is the batch of the values opened there, the rows take the values opened.
pub rows_n-take : (gs : List ℕ) (rs : List (List ℕ)) (x m : ℕ) (ps : List ℕ) → Elements gs → Distinct gs → Elements ps → length gs ≡ suc (length ps)
    → values_at_n rs x ≡ map (λ (g : ℕ). eval_n (m ∷ ps) g) gs → values_at_n (rows_n gs rs (length ps)) x ≡ ps
unfolding rows_n
rows_n-take gs rs x m ps bg d bp l h =
    values_at_n-vals _ x
    ∙ ap vals (ap (λ (k : ℕ). values_at (rows_from (ofs gs) (map ofs rs) 1 k) (of x)) (sym (length-map ps of))
    ∙ rows_take (ofs gs) (map ofs rs) (of x) (of m) (ofs ps) (length-map gs of ∙ l ∙ ap suc (sym (length-map ps of))) (distinct_ofs gs bg d)
    (sym (ofs-values_at_n rs x) ∙ ap ofs h ∙ sym (map-ofs-eval (m ∷ ps) gs)))
    ∙ vals-ofs ps bp

map-ofs_injective : (n : ℕ) (ps us : List (List ℕ)) → Polys n ps → Polys n us → map ofs ps ≡ map ofs us → ps ≡ us
map-ofs_injective n [] [] h k e = refl
map-ofs_injective n [] (u ∷ us) h k e = absurd (suc-ne-zero _ (sym (ap length e)))
map-ofs_injective n (p ∷ ps) [] h k e = absurd (suc-ne-zero _ (ap length e))
map-ofs_injective n (p ∷ ps) (u ∷ us) h k e = ap₂ (λ (c : List ℕ) (t : List (List ℕ)). c ∷ t) (ofs_injective p u h.0.1 k.0.1 (cc)) (map-ofs_injective n ps us h.1 k.1 (cc))

pub rows_n-unique : (ps us : List (List ℕ)) (n : ℕ) (es : List ℕ) → length ps ≡ length us → Polys n ps → Polys n us → n ≤ length es → Elements es → Distinct es
    → All (λ (e : ℕ). values_at_n ps e ≡ values_at_n us e) es → ps ≡ us
rows_n-unique ps us n es l h k m b d a =
    map-ofs_injective n ps us h k
    (rows-unique (map ofs ps) (map ofs us) n (ofs es) (length-map ps ofs ∙ l ∙ sym (length-map us ofs)) (sized-ofs n ps h) (sized-ofs n us k) (omega (arith, length-map es of)) (distinct_ofs es b d)
    (all_map of (λ (e : K). values_at (map ofs ps) e ≡ values_at (map ofs us) e) es (all_imp (λ (e : ℕ) (f : values_at_n ps e ≡ values_at_n us e). sym (ofs-values_at_n ps e) ∙ ap ofs f ∙ ofs-values_at_n us e) es a)))

-- ---- an evaluation answer vs, at the points pts, that passes at n different leaves
pub map-ofs_values : (ps : List (List ℕ)) (z : ℕ) (xs : List ℕ) → map (λ (x : K). eval (values_at (map ofs ps) x) (of z)) (ofs xs) ≡ ofs (map (λ (x : ℕ). eval_n (values_at_n ps x) z) xs)
map-ofs_values ps z [] = refl
map-ofs_values ps z (x ∷ xs) = ap₂ (λ (c : K) (t : List K). c ∷ t) (ap (λ (t : List K). eval t (of z)) (sym (ofs-values_at_n ps x)) ∙ sym (of_eval_n (values_at_n ps x) z)) (map-ofs_values ps z xs)

map_below : (f : ℕ → List ℕ) (z : ℕ) (xs : List ℕ) → Elements (map (λ (x : ℕ). eval_n (f x) z) xs)
map_below f z [] = tt
map_below f z (x ∷ xs) = (eval_n_below (f x) z, map_below f z xs)

pub answer_n_true : (ps : List (List ℕ)) (n : ℕ) → 0 < length ps → Polys n ps → (z : ℕ) (pts vs es : List ℕ)
    → length pts ≡ n → length vs ≡ n → n ≤ length es → Elements es → Distinct es → Elements pts → Distinct pts → Elements vs
    → All (λ (e : ℕ). eval_n (interp_n pts vs) e ≡ eval_n (values_at_n ps e) z) es → vs ≡ map (λ (x : ℕ). eval_n (values_at_n ps x) z) pts
unfolding interp_n
answer_n_true ps n l h z pts vs es lp lv le be de bp dp bv a =
    ofs_injective vs _ bv (map_below (values_at_n ps) z pts)
    (answer_true (map ofs ps) n (omega (arith, length-map ps ofs)) (sized-ofs n ps h) (of z) (ofs pts) (ofs vs) (ofs es)
    (length-map pts of ∙ lp) (length-map vs of ∙ lv) (omega (arith, length-map es of)) (distinct_ofs es be de) (distinct_ofs pts bp dp)
    (all_map of (λ (e : K). eval (interp (ofs pts) (ofs vs)) e ≡ eval (values_at (map ofs ps) e) (of z)) es (all_imp one es a))
    ∙ map-ofs_values ps z pts)
  where
    one : (e : ℕ) → eval_n (vals (interp (ofs pts) (ofs vs))) e ≡ eval_n (values_at_n ps e) z → eval (interp (ofs pts) (ofs vs)) (of e) ≡ eval (values_at (map ofs ps) (of e)) (of z)
    one e f =
        ap (λ (t : List K). eval t (of e)) (sym (ofs-vals _))
        ∙ sym (of_eval_n (vals (interp (ofs pts) (ofs vs))) e)
        ∙ ap of f
        ∙ of_eval_n (values_at_n ps e) z
        ∙ ap (λ (t : List K). eval t (of z)) (ofs-values_at_n ps e)

-- the answers' values at e, challenge by challenge
pub values_from : (v : List ℕ) (e : ℕ) (gs : List ℕ) (rs : List (List ℕ)) → length rs ≡ length gs
    → ((c : ℕ) → c < length gs → eval_n (get_or rs c []) e ≡ eval_n v (get_or gs c 0)) → values_at_n rs e ≡ map (λ (g : ℕ). eval_n v g) gs
unfolding values_at_n
values_from v e [] [] l h = refl
values_from v e [] (r ∷ rs) l h = absurd (suc-ne-zero _ l)
values_from v e (g ∷ gs) [] l h = absurd (suc-ne-zero _ (sym l))
values_from v e (g ∷ gs) (r ∷ rs) l h =
    ap₂ (λ (a : ℕ) (t : List ℕ). a ∷ t) (h 0 (zero-lt-suc _))
    (values_from v e gs rs (suc_inj l) (λ (c : ℕ) (k : c < length gs). h (suc c) (suc-le-suc k)))

pub ofs-append : (p r : List ℕ) → ofs (p ++ r) ≡ ofs p ++ ofs r
ofs-append [] r = refl
ofs-append (a ∷ p) r = ap (λ (t : List K). of a ∷ t) (ofs-append p r)
