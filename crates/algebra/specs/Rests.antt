-- Newton's form over any points, its coefficients found one by one with what is left of every value at hand, so that places do not wait for one another.
use Rattle.std.specs.Prelude.{◌≡◌, refl, ◌≢◌, true, false, List, [], ◌∷◌, ◌++◌, map, ℕ, suc, ◌+◌, ◌*◌, ◌-◌, ◌%◌, ◌≤◌, ◌<◌, length, get_or, take, set}
use Rattle.std.proofs.Common.{sym, ◌∙◌, ap, ap₂, subst, ⊎_elim, mod-lt, zero-add, mul_assoc, mul_comm, not-suc-le-zero, le_of_lt, le_refl, pos_of_ne-zero, ne_of_gt, add-one, arith, lit<, length-set, take-suc, take-suc-set, length-take-le, get_or-take, get_or-set_other, get_or-append-add}
use Rattle.std.proofs.lemmas.Bool.{false≢true}
use Rattle.std.proofs.lemmas.List.{length-map}
use Rattle.std.proofs.Math.ListN.{get_or-append}
use Rattle.lists.specs.All.{Distinct, distinct_from, all_from}
use Rattle.lists.specs.Number.{mul-mod-mod, mod-mul-mod, order}
use Rattle.lists.specs.Choice.{tested}
use Rattle.lists.specs.Differ.{differ, differ_true}
use Rattle.lists.specs.Maps.{get_or-map_in}
use Rattle.lists.specs.Tabulate.{tabulate, length-tabulate, get_d_tabulate}
use Rattle.lists.specs.Fill.{Filled}
use Rattle.algebra.specs.Prime.{q}
use Rattle.algebra.specs.Field.{K, of, of_path, of_add, of_mul, of_zero, ◌⊕◌, ◌⊗◌, ◌⊝◌, 𝟎, dv, ring, dif_path}
use Rattle.algebra.specs.Numbers.{of_injective, Elements, elements_at, interp_n}
use Rattle.algebra.specs.Fold.{fold_n, most_folded, fold_mod, fold_few}
use Rattle.algebra.specs.Dot.{product_bound}
use Rattle.algebra.specs.Table.{table_size}
use Rattle.algebra.specs.Inverse.{inv_n, inv_n_right}
use Rattle.algebra.specs.Inverses.{invertible, invertible_at, at_invertible}
use Rattle.algebra.specs.Divided.{sub_n, of_sub_n, of_mod, prod_n, prod_n_at, prod_n_below, prod_n_pos, below_take, nev_n, nev_n_below, nform_n, more, Good, newton_turn, newton_done}

-- ---- products of differences

-- of point i, to the first k points
abbrev pub product_n : List ℕ → ℕ → ℕ → ℕ
product_n xs k i = prod_n (take k xs) (get_or xs i 0)

prod_n-snoc : (xs : List ℕ) (x z : ℕ) → prod_n (xs ++ (x ∷ [])) z ≡ prod_n xs z * sub_n z x % q
unfolding prod_n
prod_n-snoc [] x z = ap (λ (m : ℕ). m % q) (mul_comm (sub_n z x) 1)
prod_n-snoc (a ∷ xs) x z =
    ap (λ (m : ℕ). sub_n z a * m % q) (prod_n-snoc xs x z)
    ∙ mul-mod-mod (sub_n z a) (prod_n xs z * sub_n z x) q
    ∙ ap (λ (m : ℕ). m % q) (sym (mul_assoc (sub_n z a) (prod_n xs z) (sub_n z x)))
    ∙ sym (mod-mul-mod (sub_n z a * prod_n xs z) (sub_n z x) q)

-- one point more
pub product_next : (xs : List ℕ) (k i d p r : ℕ) → k < length xs → p ≡ product_n xs k i → d ≡ sub_n (get_or xs i 0) (get_or xs k 0) → r ≡ p * d % q → r ≡ product_n xs (k + 1) i
product_next xs k i d p r l e f g =
    g ∙ ap₂ (λ (s t : ℕ). s * t % q) e f
    ∙ sym (prod_n-snoc (take k xs) (get_or xs k 0) (get_or xs i 0))
    ∙ ap (λ (t : List ℕ). prod_n t (get_or xs i 0)) (sym (take-suc xs k 0 l) ∙ ap (λ (n : ℕ). take n xs) (sym (add-one k)))

product_none : (xs : List ℕ) (i : ℕ) → 1 ≡ product_n xs 0 i
unfolding prod_n
product_none xs i = refl

-- points of which none makes its product 0 differ
products_apart : (xs : List ℕ) → Elements xs → ((j : ℕ) → j < length xs → 0 < product_n xs j j) → Distinct xs
products_apart xs b h = distinct_from 0 xs apart
  where
    apart : (i j : ℕ) → i < j → j < length xs → get_or xs j 0 ≢ get_or xs i 0
    apart i j l m e =
        let t : get_or (take j xs) i 0 ≡ get_or xs j 0 = get_or-take j xs i 0 l ∙ sym e in
        let z : of (product_n xs j j) ≡ 𝟎 =
        ap (λ (x : ℕ). of (prod_n (take j xs) x)) (sym t) ∙ prod_n_at (take j xs) (below_take j xs b) i (omega (arith, length-take-le j xs (omega arith))) in
        ne_of_gt (h j m) (of_injective (product_n xs j j) 0 (prod_n_below (take j xs) (get_or xs j 0)) (lit< tt) (z ∙ sym of_zero))

-- the products of n points from place k on, each to all points before it
abbrev pub block_n : List ℕ → ℕ → ℕ → List ℕ
block_n xs k n = tabulate n (λ i. product_n xs (k + i) (k + i))

-- how many of them are inverted at once
abbrev pub block_size : ℕ
block_size = 8

block_at : (xs : List ℕ) (k n i : ℕ) → i < n → get_or (block_n xs k n) i 0 ≡ product_n xs (k + i) (k + i)
block_at xs k n i l = get_d_tabulate n (λ i. product_n xs (k + i) (k + i)) i l

pub block_below : (xs : List ℕ) (k n : ℕ) → Elements (block_n xs k n)
block_below xs k n =
    all_from (λ (a : ℕ). a < q) 0 (block_n xs k n)
    (λ (i : ℕ) (l : i < length (block_n xs k n)).
    subst (λ (a : ℕ). a < q) (sym (block_at xs k n i (omega (arith, length-tabulate n (λ i. product_n xs (k + i) (k + i)))))) (prod_n_below (take (k + i) xs) (get_or xs (k + i) 0)))

-- none of them is 0 where the points differ
pub block_equal : (xs : List ℕ) (k n : ℕ) → Elements xs → k + n ≤ length xs → invertible (block_n xs k n) ≡ false → differ xs ≡ false
block_equal xs k n b l h =
    ⊎_elim
    (λ (e : differ xs ≡ true). absurd (false≢true (sym h ∙ at_invertible (block_n xs k n) (positive (differ_true xs e)))))
    (λ (e : differ xs ≡ false). e)
    (tested (differ xs))
  where
    positive : Distinct xs → (i : ℕ) → i < length (block_n xs k n) → 0 < get_or (block_n xs k n) i 0
    positive d i m =
        let u : i < n = omega (arith, length-tabulate n (λ i. product_n xs (k + i) (k + i))) in
        subst (λ (a : ℕ). 0 < a) (sym (block_at xs k n i u)) (prod_n_pos xs (k + i) b d (omega arith))

-- the weights from place i below k: inverses of the products of their points
abbrev pub Weights : List ℕ → List ℕ → ℕ → ℕ → Type 0
Weights xs ws i k = (j : ℕ) → i ≤ j → j < k → (get_or ws j 0 * product_n xs j j) % q ≡ 1

-- a block of weights, in the middle of others
pub weights_put : (xs ws front back : List ℕ) (k n : ℕ) → length front ≡ k → invertible (block_n xs k n) ≡ true → ws ≡ front ++ (map inv_n (block_n xs k n) ++ back) → Weights xs ws k (k + n)
weights_put xs ws front back k n l h e j m u =
    let i : ℕ = j - k in
    let f : j ≡ length front + i = omega arith in
    let o : k + i ≡ j = omega arith in
    let v : i < length (block_n xs k n) = omega (arith, length-tabulate n (λ i. product_n xs (k + i) (k + i))) in
    let g : get_or ws j 0 ≡ inv_n (product_n xs j j) =
    ap₂ (λ (t : List ℕ) (a : ℕ). get_or t a 0) e f
    ∙ get_or-append-add front (map inv_n (block_n xs k n) ++ back) i 0
    ∙ get_or-append (map inv_n (block_n xs k n)) back 0 i (omega (arith, length-map (block_n xs k n) inv_n))
    ∙ get_or-map_in inv_n (block_n xs k n) i 0 0 v
    ∙ ap inv_n (block_at xs k n i (omega arith) ∙ ap (λ (a : ℕ). product_n xs a a) o) in
    ap (λ (a : ℕ). a * product_n xs j j % q) g ∙ inv_n_right (product_n xs j j) (positive i v o) (prod_n_below (take j xs) (get_or xs j 0))
  where
    positive : (i : ℕ) → i < length (block_n xs k n) → k + i ≡ j → 0 < product_n xs j j
    positive i v e =
        subst (λ (a : ℕ). 0 < a)
        (block_at xs k n i (omega (arith, length-tabulate n (λ i. product_n xs (k + i) (k + i)))) ∙ ap (λ (a : ℕ). product_n xs a a) e)
        (invertible_at (block_n xs k n) h i v)

-- what has an inverse is not 0
weight_pos : (w p : ℕ) → (w * p) % q ≡ 1 → 0 < p
weight_pos w p e = pos_of_ne-zero (λ (z : p ≡ 0). let n : (w * 0) % q ≡ 1 = subst (λ (t : ℕ). (w * t) % q ≡ 1) z e in omega arith)

-- ---- rests

-- what is left of the value at place i beside the first k coefficients
abbrev pub rest_n : List ℕ → List ℕ → List ℕ → ℕ → ℕ → ℕ
rest_n xs ys cs k i = sub_n (get_or ys i 0) (nev_n (take k xs) (take k cs) (get_or xs i 0))

-- a turn: the coefficient of point k is taken off the rests rs, where m is minus it, and the point into the products ps
abbrev pub rest_turn : ℕ → List ℕ → List ℕ → ℕ → ℕ
rest_turn m rs ps i = get_or rs i 0 + fold_n (m * get_or ps i 0)

abbrev pub product_turn : List ℕ → ℕ → List ℕ → ℕ → ℕ
product_turn xs k ps i = get_or ps i 0 * sub_n (get_or xs i 0) (get_or xs k 0) % q

-- rests are kept modulo q, and grow at each turn
abbrev pub most_rest : ℕ → ℕ
most_rest k = q + most_folded * k

-- so that the next turn fits 64 bits
abbrev pub rest_limit : ℕ
rest_limit = 9223372036854775808

abbrev pub Held : List ℕ → ℕ → ℕ → Type 0
Held rs i k = (j : ℕ) → i ≤ j → j < k → get_or rs j 0 ≤ rest_limit

regroup : (y n c p : K) → y ⊝ n ⊕ (𝟎 ⊝ c) ⊗ p ≡ y ⊝ (n ⊕ p ⊗ c)
regroup y n c p = rw (← dv y, ← dv n, ← dv c, ← dv p) (simp ring (dif_path _ _ _ _ (omega arith)))

of_minus : (c : ℕ) → c ≤ q → of (q - c) ≡ 𝟎 ⊝ of c
of_minus c l = ap of (sym (zero-add (q - c))) ∙ sym (of_mod (0 + (q - c))) ∙ of_sub_n 0 c l ∙ ap (λ (t : K). t ⊝ of c) of_zero

-- before turn k: the first k places have coefficients that give the values at the first k points; from place k on stand the rests, and the products
pub record Divided (xs ys cs rs ps : List ℕ) (k : ℕ) : Type 0 where
  pub count : length cs ≡ length xs
  pub elements : Elements (take k cs)
  pub good : Good xs ys cs k
  pub rests : (i : ℕ) → k ≤ i → i < length xs → get_or rs i 0 % q ≡ rest_n xs ys cs k i
  pub bound : (i : ℕ) → k ≤ i → i < length xs → get_or rs i 0 ≤ most_rest k
  pub products : Filled (product_n xs k) ps k (length xs)
  pub apart : (j : ℕ) → j < k → 0 < product_n xs j j

pub divided_start : (xs ys cs rs ps : List ℕ) → Elements ys → rs ≡ ys → length cs ≡ length xs → Filled (λ i. 1) ps 0 (length xs) → Divided xs ys cs rs ps 0
unfolding nev_n
divided_start xs ys cs rs ps by e lc h = record {
  count = lc;
  elements = tt;
  good = λ j m. absurd (not-suc-le-zero m);
  rests = λ i m u. ap (λ (t : List ℕ). get_or t i 0 % q) e ∙ whole (get_or ys i 0) (elements_at ys by i);
  bound = λ i m u. subst (λ (t : List ℕ). get_or t i 0 ≤ most_rest 0) (sym e) (small (get_or ys i 0) (elements_at ys by i));
  products = λ i m u. h i m u ∙ product_none xs i;
  apart = λ j m. absurd (not-suc-le-zero m);
}
  where
    whole : (y : ℕ) → y < q → y % q ≡ sub_n y 0
    whole y u = omega arith

    small : (y : ℕ) → y < q → y ≤ most_rest 0
    small y u = omega arith

-- the next turn fits 64 bits, and adds no more than it may
pub rests_held : (xs ys cs rs ps : List ℕ) (k : ℕ) → k ≤ table_size → Divided xs ys cs rs ps k → Held rs (k + 1) (length xs)
rests_held xs ys cs rs ps k l d j m u = let b : get_or rs j 0 ≤ most_rest k = d.bound j (omega arith) u in omega arith

pub rests_grow : (xs ys cs rs ps : List ℕ) (k m : ℕ) → m ≤ q → Divided xs ys cs rs ps k → (i : ℕ) → k + 1 ≤ i → i < length xs → rest_turn m rs ps i ≤ most_rest (k + 1)
rests_grow xs ys cs rs ps k m l d i a u =
    let b : get_or rs i 0 ≤ most_rest k = d.bound i (omega arith) u in
    let p : get_or ps i 0 < q = subst (λ (t : ℕ). t < q) (sym (d.products i (omega arith) u)) (prod_n_below (take k xs) (get_or xs i 0)) in
    let f : fold_n (m * get_or ps i 0) ≤ most_folded = fold_few (m * get_or ps i 0) (product_bound m (get_or ps i 0) (omega arith) (omega arith)) in
    omega arith

-- the weights behind place k stay
pub weights_behind : (xs ws : List ℕ) (k n c : ℕ) → Weights xs ws k n → Weights xs (set ws k c) (k + 1) n
weights_behind xs ws k n c h j l u = ap (λ (t : ℕ). t * product_n xs j j % q) (get_or-set_other ws k j c 0 (ne_of_gt (omega arith))) ∙ h j (omega arith) u

-- only the first k coefficients matter
pub divided_front : (xs ys cs ds rs ps : List ℕ) (k : ℕ) → length ds ≡ length xs → take k ds ≡ take k cs → Divided xs ys cs rs ps k → Divided xs ys ds rs ps k
divided_front xs ys cs ds rs ps k l e d = record {
  count = l;
  elements = subst (λ (t : List ℕ). Elements t) (sym e) d.elements;
  good = λ j m. ap (λ (t : List ℕ). nev_n (take k xs) t (get_or xs j 0)) e ∙ d.good j m;
  rests = λ i m u. d.rests i m u ∙ ap (λ (t : List ℕ). sub_n (get_or ys i 0) (nev_n (take k xs) t (get_or xs i 0))) (sym e);
  bound = d.bound;
  products = d.products;
  apart = d.apart;
}

module _ (xs ys cs rs ps : List ℕ) (k w r c m : ℕ) (bx : Elements xs) (by : Elements ys) (ly : length ys ≡ length xs) (lk : k < length xs) (d : Divided xs ys cs rs ps k)
    (hw : (w * product_n xs k k) % q ≡ 1) (hr : r ≡ get_or rs k 0 % q) (hc : c ≡ r * w % q) (hm : m ≡ q - c) where
  found : Elements (take (k + 1) (set cs k c)) × Good xs ys (set cs k c) (k + 1)
  found =
      newton_turn xs ys cs k (nev_n (take k xs) (take k cs) (get_or xs k 0)) w r c bx by d.count ly lk refl hw
      (hr ∙ d.rests k (le_refl k) lk) hc d.elements d.good

  c_below : c < q
  c_below = subst (λ (t : ℕ). t < q) (sym hc) (mod-lt (r * w) (lit< tt))

  rest_next : (i y p : ℕ) → y % q ≡ rest_n xs ys cs k i → p ≡ product_n xs k i → (y + fold_n (m * p)) % q ≡ rest_n xs ys (set cs k c) (k + 1) i
  rest_next i y p h e =
      of_injective _ _ (mod-lt _ (lit< tt)) (mod-lt _ (lit< tt))
      (of_mod (y + fold_n (m * p)) ∙ sym (of_add y (fold_n (m * p)))
      ∙ ap₂ ◌⊕◌ (sym (of_mod y) ∙ ap of h ∙ of_sub_n (get_or ys i 0) old (le_of_lt (nev_n_below (take k xs) (take k cs) (get_or xs i 0))))
      (of_path (fold_n (m * p)) (m * p) (fold_mod (m * p)) ∙ sym (of_mul m p) ∙ ap (λ (t : K). t ⊗ of p) (ap of hm ∙ of_minus c (le_of_lt c_below)))
      ∙ regroup (of (get_or ys i 0)) (of old) (of c) (of p)
      ∙ ap (λ (t : K). of (get_or ys i 0) ⊝ t) (ap (λ (t : ℕ). of old ⊕ of t ⊗ of c) e ∙ sym (more xs ys cs k w bx by d.count ly lk (get_or xs i 0) c) ∙ ap of step)
      ∙ sym (of_sub_n (get_or ys i 0) new (le_of_lt (nev_n_below (take (k + 1) xs) (take (k + 1) (set cs k c)) (get_or xs i 0)))))
    where
      old : ℕ
      old = nev_n (take k xs) (take k cs) (get_or xs i 0)

      new : ℕ
      new = nev_n (take (k + 1) xs) (take (k + 1) (set cs k c)) (get_or xs i 0)

      step : nev_n (take (suc k) xs) (take k cs ++ (c ∷ [])) (get_or xs i 0) ≡ new
      step =
          ap (λ (t : List ℕ). nev_n (take (suc k) xs) t (get_or xs i 0)) (sym (take-suc-set cs k c (omega (arith, d.count))))
          ∙ ap (λ (n : ℕ). nev_n (take n xs) (take n (set cs k c)) (get_or xs i 0)) (sym (add-one k))

  pub divided_turn : (rs' ps' : List ℕ) → Filled (rest_turn m rs ps) rs' (k + 1) (length xs) → ((i : ℕ) → k + 1 ≤ i → i < length xs → rest_turn m rs ps i ≤ most_rest (k + 1))
      → Filled (product_turn xs k ps) ps' (k + 1) (length xs) → Divided xs ys (set cs k c) rs' ps' (k + 1)
  divided_turn rs' ps' back small taken = record {
    count = length-set cs k c ∙ d.count;
    elements = found.0;
    good = found.1;
    rests = λ i l u. ap (λ (t : ℕ). t % q) (back i l u) ∙ rest_next i (get_or rs i 0) (get_or ps i 0) (d.rests i (omega arith) u) (d.products i (omega arith) u);
    bound = λ i l u. subst (λ (t : ℕ). t ≤ most_rest (k + 1)) (sym (back i l u)) (small i l u);
    products = λ i l u. product_next xs k i _ _ _ lk (d.products i (omega arith) u) refl (taken i l u);
    apart = λ j l. pos j (omega arith);
  }
    where
      pos : (j : ℕ) → j ≤ k → 0 < product_n xs j j
      pos j l =
          ⊎_elim
          (λ (a : k ≤ j). let e : k ≡ j = omega arith in subst (λ (t : ℕ). 0 < product_n xs t t) e (weight_pos w (product_n xs k k) hw))
          (λ (a : j < k). d.apart j a)
          (order k j)

-- all turns done: the points differ, and Newton's form is the interpolation
pub divided_done : (xs ys cs rs ps : List ℕ) → Elements xs → Elements ys → length ys ≡ length xs → Divided xs ys cs rs ps (length xs) → Distinct xs × (nform_n xs cs ≡ interp_n xs ys)
divided_done xs ys cs rs ps bx by ly d =
    let a : Distinct xs = products_apart xs bx d.apart in
    (a, newton_done xs ys cs (nform_n xs cs) (length xs) bx a by d.count ly refl d.elements d.good refl)
