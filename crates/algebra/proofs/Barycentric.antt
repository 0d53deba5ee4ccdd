-- Interpolation over consecutive points in the barycentric form: what the computed weights, inverses and cofactors are, and that the test of a value is that of the polynomial's.
use Rattle.std.specs.Prelude.{◌≡◌, refl, ◌≢◌, eqb, length, take, drop, replicate}
use Rattle.std.proofs.Common.{sym, ◌∙◌, subst, mod-lt, mod-eq_of_lt, mul-one, le_of_lt, add-zero, zero-add, add-suc, lit<, length-drop, length-take-le, get_or-take, get_or-drop}
use Rattle.std.proofs.Math.Path.{ap, ap₂}
use mathlib.Core.List.{List, map}
use Prim.Native.Nat.{ℕ, zero, suc, ◌+◌, ◌*◌, ◌-◌, ◌%◌, ◌≤◌, ◌<◌}
use native.Mathlib.Omega.{arith}
use Rattle.std.proofs.Math.ListN.{get_or, length-map}
use Rattle.std.proofs.lemmas.List.{get_or-replicate}
use Rattle.algebra.specs.Prime.{q}
use Rattle.algebra.specs.Field.{K, of, of_inj, of_mul, of_one, of_zero, of_path, ◌⊗◌, ◌⊝◌, ⊖, 𝟎, 𝟏, dv, ring, dif_path, ⊗-assoc, ⊗-comm, ⊗-one, ⊗-zero, cancel, product_ne_zero, one_ne_zero}
use Rattle.algebra.specs.Inverse.{inv_n, inv_n_right}
use Rattle.algebra.specs.Poly.{eval, prod}
use Rattle.algebra.specs.Interp.{dot_comm, interp, bases, length-bases, eval-interp}
use Rattle.algebra.specs.Lagrange.{sign, elements_from, down_to, weight, of_sub_neg}
use Rattle.algebra.specs.Numbers.{eval_n, eval_n_below, of_eval_n, of_injective, ofs, ofs-vals, interp_n}
use Rattle.algebra.specs.Divided.{of_sub_n, of_mod}
use Rattle.algebra.specs.Table.{table_size, inverse_factorials, inverse_factorial, inverse_factorial_is}
use Rattle.algebra.specs.Dot.{dot_n, dot_n_below}
use Rattle.algebra.specs.Basis.{value_of_ones}
use Rattle.algebra.specs.Places.{sum_to, sum_ext, sum-scale, dot-sum, at_ofs, of_dot-sum}
use Rattle.lists.specs.Choice.{eqb_both}
use Rattle.lists.specs.Number.{mul-mod-mod, mod-mul-mod}
use Rattle.lists.specs.Range.{up_from, length-up_from}
use Rattle.lists.specs.Fill.{Filled}
use Rattle.lists.specs.Tabulate.{get_d_tabulate, length-tabulate, tabulate_is}
use Rattle.algebra.specs.Barycentric.{sign_n, weight_n, weights_n, weighed_n, rise_n, fall_n, above_n, cofactors_n, inverses_from, has_value}
use Rattle.algebra.proofs.Basis.{basis_at}

-- ---- cofactors
rise_n_below : (k c : ℕ) → rise_n k c < q
unfolding rise_n
rise_n_below k zero = lit< tt
rise_n_below k (suc c) = mod-lt _ (lit< tt)

-- the distances below place c and those from it on are all
rise_fall : (k n m c : ℕ) → c + m ≡ n → rise_n k c * fall_n (k + n) m % q ≡ rise_n k n
unfolding rise_n fall_n
rise_fall k n zero c e =
    let f : c ≡ n = omega arith in
    ap (λ (t : ℕ). t % q) (mul-one (rise_n k c)) ∙ mod-eq_of_lt (rise_n_below k c) ∙ ap (rise_n k) f
rise_fall k n (suc m) c e =
    let f : k + n - suc m ≡ k + c = omega arith in
    ap (λ (t : ℕ). rise_n k c * (fall_n (k + n) m * t % q) % q) f
    ∙ mul-mod-mod (rise_n k c) (fall_n (k + n) m * (k + c)) q
    ∙ ap (λ (t : ℕ). t % q) (turn (rise_n k c) (fall_n (k + n) m) (k + c))
    ∙ sym (mod-mul-mod (rise_n k c * (k + c)) (fall_n (k + n) m) q)
    ∙ rise_fall k n m (suc c) (omega arith)
  where
    turn : (a b d : ℕ) → a * (b * d) ≡ a * d * b
    turn a b d = omega arith

-- each cofactor times its distance is the product of all
cofactor_times : (k n c : ℕ) → c < n → above_n k n c * rise_n k c % q * (k + c) % q ≡ rise_n k n
unfolding above_n rise_n
cofactor_times k n c l =
    mod-mul-mod (fall_n (k + n) (n - suc c) * rise_n k c) (k + c) q
    ∙ ap (λ (t : ℕ). t % q) (turn (fall_n (k + n) (n - suc c)) (rise_n k c) (k + c))
    ∙ sym (mod-mul-mod (rise_n k c * (k + c)) (fall_n (k + n) (n - suc c)) q)
    ∙ rise_fall k n (n - suc c) (suc c) (omega arith)
  where
    turn : (a b d : ℕ) → a * b * d ≡ b * d * a
    turn a b d = omega arith

of_positive : (a : ℕ) → 0 < a → a < q → of a ≢ 𝟎
of_positive a l u e = let f : a % q ≡ 0 % q = of_inj a 0 (e ∙ sym of_zero) in omega (arith, mod-eq_of_lt u)

rise_nonzero : (k n : ℕ) → 0 < k → k + n ≤ q → of (rise_n k n) ≢ 𝟎
unfolding rise_n
rise_nonzero k zero l u e = one_ne_zero (sym of_one ∙ e)
rise_nonzero k (suc n) l u e =
    product_ne_zero (of (rise_n k n)) (of (k + n)) (rise_nonzero k n l (omega arith)) (of_positive (k + n) (omega arith) (omega arith))
    (of_mul (rise_n k n) (k + n) ∙ sym (of_mod _) ∙ e)

-- ---- a run of the table of inverses
pub run_is : (k n : ℕ) (s : List ℕ) → 0 < k → k + n ≤ length s → Filled inv_n s 1 (length s) → take n (drop k s) ≡ inverses_from k n
unfolding inverses_from
run_is k n s l u h =
    tabulate_is n _ (take n (drop k s)) (length-take-le n (drop k s) (omega (arith, length-drop k s)))
    (λ c m. get_or-take n (drop k s) c 0 m ∙ get_or-drop k s c 0 ∙ h (k + c) (omega arith) (omega arith))

-- ---- lengths and bounds
pub sign_n_below : (r : ℕ) → sign_n r < q
unfolding sign_n
sign_n_below zero = lit< tt
sign_n_below (suc r) = mod-lt _ (lit< tt)

pub length-weighed_n : (ws ys : List ℕ) → length (weighed_n ws ys) ≡ length ws
unfolding weighed_n
length-weighed_n ws ys = length-tabulate (length ws) _

pub length-weights_n : (n : ℕ) → length (weights_n n) ≡ n
unfolding weights_n
length-weights_n n = length-tabulate n (weight_n inverse_factorials n)

-- ---- inverses and weights as elements
length_inverses : (k n : ℕ) → length (inverses_from k n) ≡ n
unfolding inverses_from
length_inverses k n = length-tabulate n (λ c. inv_n (k + c))

length_cofactors : (k n : ℕ) → length (cofactors_n k n) ≡ n
unfolding cofactors_n
length_cofactors k n = length-tabulate n _

at_cofactors : (k n c : ℕ) → c < n → get_or (cofactors_n k n) c 0 ≡ above_n k n c * rise_n k c % q
unfolding cofactors_n
at_cofactors k n c l = get_d_tabulate n _ c l

at_inverses : (k n c : ℕ) → c < n → get_or (inverses_from k n) c 0 ≡ inv_n (k + c)
unfolding inverses_from
at_inverses k n c l = get_d_tabulate n (λ c. inv_n (k + c)) c l

of_inverse : (d : ℕ) → 0 < d → d < q → of (inv_n d) ⊗ of d ≡ 𝟏
of_inverse d l u = of_mul _ _ ∙ of_path _ 1 (inv_n_right d l u) ∙ of_one

of_sign_n : (r : ℕ) → of (sign_n r) ≡ sign r
unfolding sign_n sign
of_sign_n zero = of_one
of_sign_n (suc r) = of_sub_n 0 (sign_n r) (le_of_lt (sign_n_below r)) ∙ ap₂ ◌⊝◌ of_zero (of_sign_n r) ∙ minus (sign r)
  where
    minus : (s : K) → 𝟎 ⊝ s ≡ ⊖ s
    minus s = rw (← dv s) (simp ring (dif_path _ _ _ _ (omega arith)))

of_weight_n : (n c : ℕ) → of (weight_n inverse_factorials n c) ≡ weight inverse_factorial c (n - suc c)
unfolding weight_n weight
of_weight_n n c =
    of_mod _ ∙ sym (of_mul _ _)
    ∙ ap₂ ◌⊗◌ (sym (inverse_factorial_is c)) (of_mod _ ∙ sym (of_mul _ _) ∙ ap₂ ◌⊗◌ (sym (inverse_factorial_is (n - suc c))) (of_sign_n (n - suc c)))
    ∙ sym (⊗-assoc (inverse_factorial c) (inverse_factorial (n - suc c)) (sign (n - suc c)))

weight_n_below : (n c : ℕ) → weight_n inverse_factorials n c < q
unfolding weight_n
weight_n_below n c = mod-lt _ (lit< tt)

at_weights : (n c : ℕ) → c < n → get_or (weights_n n) c 0 ≡ weight_n inverse_factorials n c
unfolding weights_n
at_weights n c l = get_d_tabulate n (weight_n inverse_factorials n) c l

of_weighed : (n c : ℕ) (ys : List ℕ) → c < n → of (get_or (weighed_n (weights_n n) ys) c 0) ≡ weight inverse_factorial c (n - suc c) ⊗ of (get_or ys c 0)
unfolding weighed_n
of_weighed n c ys l =
    ap of (get_d_tabulate (length (weights_n n)) _ c (subst (λ (k : ℕ). c < k) (sym (length-weights_n n)) l))
    ∙ of_mod _ ∙ sym (of_mul _ _)
    ∙ ap (λ (t : K). t ⊗ of (get_or ys c 0)) (ap of (at_weights n c l) ∙ of_weight_n n c)

-- values that are 1 are weighed to the weights
weighed_ones : (n : ℕ) → weighed_n (weights_n n) (replicate n 1) ≡ weights_n n
unfolding weighed_n
weighed_ones n =
    sym (tabulate_is (length (weights_n n)) _ (weights_n n) refl (λ c l.
    let m : c < n = subst (λ (k : ℕ). c < k) (length-weights_n n) l in
    at_weights n c m ∙ sym (ap₂ (λ (s t : ℕ). s * t % q) (at_weights n c m) (get_or-replicate n c 1 0 m) ∙ ap (λ (t : ℕ). t % q) (mul-one _) ∙ mod-eq_of_lt (weight_n_below n c))))

-- ---- the basis
split : (a c m : ℕ) (z : K) → prod (down_to a c) z ⊗ prod (elements_from (a + c) m) z ≡ prod (elements_from a (c + m)) z
unfolding prod down_to elements_from
split a zero m z = first _ ∙ ap₂ (λ (i j : ℕ). prod (elements_from i j) z) (add-zero a) (sym (zero-add m))
  where
    first : (p : K) → 𝟏 ⊗ p ≡ p
    first p = ⊗-comm 𝟏 p ∙ ⊗-one p
split a (suc c) m z =
    let k : c + suc m ≡ suc c + m = omega arith in
    ap (λ (i : ℕ). ((z ⊝ of (a + c)) ⊗ prod (down_to a c) z) ⊗ prod (elements_from i m) z) (add-suc a c)
    ∙ swap (z ⊝ of (a + c)) (prod (down_to a c) z) (prod (elements_from (suc (a + c)) m) z)
    ∙ split a c (suc m) z
    ∙ ap (λ (i : ℕ). prod (elements_from a i) z) k
  where
    swap : (u p s : K) → (u ⊗ p) ⊗ s ≡ p ⊗ (u ⊗ s)
    swap u p s = ap (λ (t : K). t ⊗ s) (⊗-comm u p) ∙ ⊗-assoc p u s

-- n points from x + k on
module _ (x k n : ℕ) (near : 0 < k) (few : n ≤ table_size) (high : x + k + n ≤ q) where
  -- the product of all differences to x, with the other sign
  factor : K
  factor = ⊖ (prod (elements_from (x + k) n) (of x))

  values : List K
  values = map (λ (b : List K). eval b (of x)) (bases (ofs (up_from (x + k) n)))

  length_values : length values ≡ n
  unfolding values
  length_values = length-map (bases (ofs (up_from (x + k) n))) (λ (b : List K). eval b (of x)) ∙ length-bases (ofs (up_from (x + k) n)) ∙ length-map (up_from (x + k) n) of ∙ length-up_from (x + k) n

  entry : (c : ℕ) → c < n → factor ⊗ (of (inv_n (k + c)) ⊗ weight inverse_factorial c (n - suc c)) ≡ get_or values c 𝟎
  unfolding factor values prod elements_from
  entry c l =
      ap (λ (s : K). ⊖ s ⊗ (of (inv_n (k + c)) ⊗ weight inverse_factorial c (n - suc c))) whole
      ∙ regroup (prod (down_to (x + k) c) (of x)) (of (k + c)) (prod (elements_from (suc (x + k + c)) (n - suc c)) (of x)) (weight inverse_factorial c (n - suc c)) (of (inv_n (k + c)))
      ∙ ap₂ ◌⊗◌ (of_inverse (k + c) (omega arith) (omega arith)) (sym (basis_at (x + k) x n c l few high))
      ∙ ⊗-comm 𝟏 _ ∙ ⊗-one _
    where
      apart : x + k + c ≡ x + (k + c)
      apart = omega arith

      count : n ≡ c + suc (n - suc c)
      count = omega arith

      whole : prod (elements_from (x + k) n) (of x) ≡ prod (down_to (x + k) c) (of x) ⊗ (⊖ (of (k + c)) ⊗ prod (elements_from (suc (x + k + c)) (n - suc c)) (of x))
      whole =
          ap (λ (i : ℕ). prod (elements_from (x + k) i) (of x)) count
          ∙ sym (split (x + k) c (suc (n - suc c)) (of x))
          ∙ ap (λ (t : K). prod (down_to (x + k) c) (of x) ⊗ (t ⊗ prod (elements_from (suc (x + k + c)) (n - suc c)) (of x))) (ap (λ (i : ℕ). of x ⊝ of i) apart ∙ of_sub_neg x (k + c))

      regroup : (p d s w i : K) → ⊖ (p ⊗ (⊖ d ⊗ s)) ⊗ (i ⊗ w) ≡ (i ⊗ d) ⊗ (w ⊗ (p ⊗ s))
      regroup p d s w i = rw (← dv p, ← dv d, ← dv s, ← dv w, ← dv i) (simp ring (dif_path _ _ _ _ (omega arith)))

  abbrev value : List ℕ → ℕ
  value ys = eval_n (interp_n (up_from (x + k) n) ys) x

  value_sum : (ys : List ℕ) → of (value ys) ≡ sum_to n (λ c. get_or values c 𝟎 ⊗ of (get_or ys c 0))
  unfolding interp_n values
  value_sum ys =
      of_eval_n (interp_n (up_from (x + k) n) ys) x
      ∙ ap (λ (t : List K). eval t (of x)) (ofs-vals (interp (ofs (up_from (x + k) n)) (ofs ys)))
      ∙ eval-interp (ofs (up_from (x + k) n)) (ofs ys) (of x)
      ∙ dot_comm _ _
      ∙ dot-sum values (ofs ys)
      ∙ ap (λ (i : ℕ). sum_to i (λ c. get_or values c 𝟎 ⊗ get_or (ofs ys) c 𝟎)) length_values
      ∙ sum_ext n _ _ (λ c l. ap (λ (t : K). get_or values c 𝟎 ⊗ t) (at_ofs ys c))

  -- the dot product with weighed values, times the factor
  by_factor : (ys : List ℕ) → factor ⊗ of (dot_n (inverses_from k n) (weighed_n (weights_n n) ys)) ≡ of (value ys)
  by_factor ys =
      ap (λ (t : K). factor ⊗ t) (of_dot-sum n (inverses_from k n) (weighed_n (weights_n n) ys) (length_inverses k n))
      ∙ sum-scale factor n _
      ∙ sum_ext n _ _ (λ c l.
      ap₂ (λ (s t : K). factor ⊗ (s ⊗ t)) (ap of (at_inverses k n c l)) (of_weighed n c ys l)
      ∙ around factor (of (inv_n (k + c))) (weight inverse_factorial c (n - suc c)) (of (get_or ys c 0))
      ∙ ap (λ (t : K). t ⊗ of (get_or ys c 0)) (entry c l))
      ∙ sym (value_sum ys)
    where
      around : (e v w y : K) → e ⊗ (v ⊗ (w ⊗ y)) ≡ (e ⊗ (v ⊗ w)) ⊗ y
      around e v w y = rw (← dv e, ← dv v, ← dv w, ← dv y) (simp ring (dif_path _ _ _ _ (omega arith)))

-- ---- the test of a value
-- Weighed values have the value v exactly where the polynomial through the values has it at x: n points from a on, the first k places after x.
pub value_test : (a x k n : ℕ) (ys : List ℕ) (v : ℕ) → x + k ≡ a → 0 < k → 0 < n → n ≤ table_size → a + n ≤ q → v < q
    → has_value (inverses_from k n) (weights_n n) (weighed_n (weights_n n) ys) v ≡ eqb (eval_n (interp_n (up_from a n) ys) x) v
unfolding has_value
value_test a x k n ys v e near some few high below =
    eqb_both left (total * v % q) y v there back ∙ ap (λ (i : ℕ). eqb (eval_n (interp_n (up_from i n) ys) x) v) e
  where
    high' : x + k + n ≤ q
    high' = omega arith

    left : ℕ
    left = dot_n (inverses_from k n) (weighed_n (weights_n n) ys)

    total : ℕ
    total = dot_n (inverses_from k n) (weights_n n)

    y : ℕ
    y = eval_n (interp_n (up_from (x + k) n) ys) x

    g : K
    g = factor x k n near few high'

    unit : g ⊗ of total ≡ 𝟏
    unit =
        ap (λ (t : List ℕ). g ⊗ of (dot_n (inverses_from k n) t)) (sym (weighed_ones n))
        ∙ by_factor x k n near few high' (replicate n 1)
        ∙ value_of_ones (x + k) n x some high'

    of_left : of left ≡ of total ⊗ of y
    of_left =
        sym (⊗-one (of left)) ∙ ap (λ (t : K). of left ⊗ t) (sym unit) ∙ turn (of left) g (of total)
        ∙ ap (λ (t : K). of total ⊗ t) (by_factor x k n near few high' ys)
      where
        turn : (l e t : K) → l ⊗ (e ⊗ t) ≡ t ⊗ (e ⊗ l)
        turn l e t = rw (← dv l, ← dv e, ← dv t) (simp ring (dif_path _ _ _ _ (omega arith)))

    of_right : of (total * v % q) ≡ of total ⊗ of v
    of_right = of_mod _ ∙ sym (of_mul total v)

    total_nonzero : of total ≢ 𝟎
    total_nonzero z = one_ne_zero (sym unit ∙ ap (λ (t : K). g ⊗ t) z ∙ ⊗-zero g)

    there : left ≡ total * v % q → y ≡ v
    there h = of_injective y v (eval_n_below _ x) below (cancel (of total) _ _ total_nonzero (sym of_left ∙ ap of h ∙ of_right))

    back : y ≡ v → left ≡ total * v % q
    back h = of_injective left (total * v % q) (dot_n_below _ _) (mod-lt _ (lit< tt)) (of_left ∙ ap (λ (t : ℕ). of total ⊗ of t) h ∙ sym of_right)

-- The cofactors do in place of the inverses: all have the factor that is the product of all distances.
pub cofactors_test : (k n : ℕ) (ws ys : List ℕ) (v : ℕ) → 0 < k → k + n ≤ q → has_value (cofactors_n k n) ws ys v ≡ has_value (inverses_from k n) ws ys v
unfolding has_value
cofactors_test k n ws ys v near high = eqb_both _ _ _ _ there back
  where
    f : K
    f = of (rise_n k n)

    one : (c : ℕ) → c < n → of (get_or (cofactors_n k n) c 0) ≡ f ⊗ of (get_or (inverses_from k n) c 0)
    one c l =
        ap of (at_cofactors k n c l)
        ∙ sym (⊗-one _)
        ∙ ap (λ (t : K). of (above_n k n c * rise_n k c % q) ⊗ t) (sym (of_inverse (k + c) (omega arith) (omega arith)))
        ∙ turn (of (above_n k n c * rise_n k c % q)) (of (inv_n (k + c))) (of (k + c))
        ∙ ap₂ ◌⊗◌ (of_mul _ _ ∙ sym (of_mod _) ∙ ap of (cofactor_times k n c l)) (ap of (sym (at_inverses k n c l)))
      where
        turn : (u i d : K) → u ⊗ (i ⊗ d) ≡ (u ⊗ d) ⊗ i
        turn u i d = rw (← dv u, ← dv i, ← dv d) (simp ring (dif_path _ _ _ _ (omega arith)))

    dots : (zs : List ℕ) → of (dot_n (cofactors_n k n) zs) ≡ f ⊗ of (dot_n (inverses_from k n) zs)
    dots zs =
        of_dot-sum n (cofactors_n k n) zs (length_cofactors k n)
        ∙ sum_ext n _ _ (λ c l. ap (λ (t : K). t ⊗ of (get_or zs c 0)) (one c l) ∙ ⊗-assoc f _ _)
        ∙ sym (sum-scale f n _)
        ∙ ap (λ (t : K). f ⊗ t) (sym (of_dot-sum n (inverses_from k n) zs (length_inverses k n)))

    products : (zs : List ℕ) → of (dot_n (cofactors_n k n) zs * v % q) ≡ f ⊗ of (dot_n (inverses_from k n) zs * v % q)
    products zs =
        of_mod _ ∙ sym (of_mul _ v) ∙ ap (λ (t : K). t ⊗ of v) (dots zs) ∙ ⊗-assoc f _ (of v)
        ∙ ap (λ (t : K). f ⊗ t) (of_mul _ v ∙ sym (of_mod _))

    there : dot_n (cofactors_n k n) ys ≡ dot_n (cofactors_n k n) ws * v % q → dot_n (inverses_from k n) ys ≡ dot_n (inverses_from k n) ws * v % q
    there h = of_injective _ _ (dot_n_below _ _) (mod-lt _ (lit< tt)) (cancel f _ _ (rise_nonzero k n near high) (sym (dots ys) ∙ ap of h ∙ products ws))

    back : dot_n (inverses_from k n) ys ≡ dot_n (inverses_from k n) ws * v % q → dot_n (cofactors_n k n) ys ≡ dot_n (cofactors_n k n) ws * v % q
    back h = of_injective _ _ (dot_n_below _ _) (mod-lt _ (lit< tt)) (dots ys ∙ ap (λ (t : ℕ). f ⊗ of t) h ∙ sym (products ws))
