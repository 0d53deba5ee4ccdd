-- The walk over the used leaves gives those that are drawn.
use mathlib.Core.Path.{◌≡◌, refl, sym, ap, ◌∙◌, subst}
use mathlib.Core.Bool.{Bool, true, false}
use mathlib.Core.Logic.{◌⊎◌, inl, inr, ⊎_elim}
use mathlib.Core.List.Memᴰ.{cases_cons as in-cons, head as here, not-nil, tail as there}
use mathlib.Core.List.{List, [], ◌∷◌, Memᴰ as Mem}
use Prim.Native.Nat.{ℕ, zero, suc, ◌+◌, ◌-◌, ◌%◌, ◌≤◌, ◌<◌, zero-le}
use native.Mathlib.Nat.{not-suc-le-zero, le_of_suc-le-suc, le_refl, le_trans, lt_trans, lt_irrefl, ne_of_lt, eq-or-lt_of_le, add-zero, add-suc, suc-add, zero-add}
use native.Mathlib.Omega.{arith}
use lib.Dec.{eqb, leb}
use lib.ListN.{length, get_or, drop}
use borrow.Author.Tests.{eq-eqb, ne_eqb, le-leb, lt-leb, lt-ltb, le-ltb}
use Rattle.lists.specs.Choice.{pick}
use Rattle.lists.specs.Range.{up_from, length-up_from, up_from-rising}
use Rattle.lists.specs.Rising.{Rising, rising-unique}
use Rattle.lists.specs.Sorted.{inserted, sorted, inserted_of, inserted_in, inserted_rising, sorted_of, sorted_in, sorted-rising}
use Rattle.lists.specs.Number.{order}
use Rattle.lists.specs.Bytes.{Bytes, doubles}
use Rattle.scheme.specs.Sizes.{Sizes, SizesInOrder, leaves}
use Rattle.fiat_shamir.specs.Draw.{ranks_at, removed, chosen, drawn_indices}
use Rattle.fiat_shamir.specs.Ranks.{ranked, drawn_into}
use Rattle.fiat_shamir.proofs.Drawn.{length-doubles, rank_below, rest_count, rest-enough, chosen_distinct}

-- ---- the unused ones

-- of n numbers from a on, those that are not used
free : ℕ → ℕ → List ℕ → List ℕ
free a zero used = []
free a (suc n) [] = a ∷ free (suc a) n []
free a (suc n) (u ∷ us) = pick (eqb a u) (free (suc a) n us) (a ∷ free (suc a) n (u ∷ us))

free_all : (a n : ℕ) → free a n [] ≡ up_from a n
unfolding free up_from
free_all a zero = refl
free_all a (suc n) = ap (λ (t : List ℕ). a ∷ t) (free_all (suc a) n)

-- used ones from a on, rising
From : ℕ → List ℕ → Type 0
From a used = ((u : ℕ) → Mem u used → a ≤ u) × Rising used

from_none : (a : ℕ) → From a []
unfolding From
from_none a = (λ u m. absurd (not-nil m), tt)

-- the first of them is a, or above a
first_of : (a u : ℕ) (us : List ℕ) → From a (u ∷ us) → (a ≡ u) ⊎ (a < u)
unfolding From
first_of a u us f = eq-or-lt_of_le (f.0 u (here refl))

from_here : (a u : ℕ) (us : List ℕ) → a ≡ u → From a (u ∷ us) → From (suc a) us
unfolding From
from_here a u us e f = (λ v m. subst (λ (k : ℕ). suc k ≤ v) (sym e) (f.1.0 v m), f.1.1)

from_later : (a u : ℕ) (us : List ℕ) → a < u → From a (u ∷ us) → From (suc a) (u ∷ us)
unfolding From
from_later a u us l f = (
  λ v m. ⊎_elim (λ (e : v ≡ u). subst (λ (k : ℕ). suc a ≤ k) (sym e) l) (λ k. omega (arith, f.1.0 v k)) (in-cons m),
  f.1,
)

above_used : {a : ℕ} {xs : List ℕ} → From (suc a) xs → (x : ℕ) → Mem x xs → a < x
unfolding From
above_used f x m = f.0 x m

-- ---- one step of each walk

free-here : (a n u : ℕ) (us : List ℕ) → a ≡ u → free a (suc n) (u ∷ us) ≡ free (suc a) n us
unfolding free
free-here a n u us e = ap (λ (b : Bool). pick b (free (suc a) n us) (a ∷ free (suc a) n (u ∷ us))) (eq-eqb a u e)

free_later : (a n u : ℕ) (us : List ℕ) → a < u → free a (suc n) (u ∷ us) ≡ a ∷ free (suc a) n (u ∷ us)
unfolding free
free_later a n u us l = ap (λ (b : Bool). pick b (free (suc a) n us) (a ∷ free (suc a) n (u ∷ us))) (ne_eqb a u (ne_of_lt l))

free_skips : (a n : ℕ) (xs : List ℕ) → ((x : ℕ) → Mem x xs → a < x) → free a (suc n) xs ≡ a ∷ free (suc a) n xs
unfolding free
free_skips a n [] h = refl
free_skips a n (x ∷ xs) h = free_later a n x xs (h x (here refl))

ranked_past : (k u : ℕ) (us : List ℕ) → u ≤ k → ranked k (u ∷ us) ≡ ranked (suc k) us
unfolding ranked
ranked_past k u us l = ap (λ (b : Bool). pick b (ranked (suc k) us) k) (le-leb u k l)

ranked_stop : (k u : ℕ) (us : List ℕ) → k < u → ranked k (u ∷ us) ≡ k
unfolding ranked
ranked_stop k u us l = ap (λ (b : Bool). pick b (ranked (suc k) us) k) (lt-leb u k l)

ranked-low : (k : ℕ) (us : List ℕ) → k ≤ ranked k us
unfolding ranked
ranked-low k [] = le_refl k
ranked-low k (u ∷ us) = step (ranked-low (suc k) us) (leb u k)
  where
    step : suc k ≤ ranked (suc k) us → (b : Bool) → k ≤ pick b (ranked (suc k) us) k
    step h true = le_trans (omega arith) h
    step h false = le_refl k

inserted_first : (x u : ℕ) (us : List ℕ) → x < u → inserted x (u ∷ us) ≡ x ∷ u ∷ us
unfolding inserted
inserted_first x u us l = ap (λ (b : Bool). pick b (x ∷ u ∷ us) (u ∷ inserted x us)) (lt-ltb x u l)

inserted_later : (x u : ℕ) (us : List ℕ) → u < x → inserted x (u ∷ us) ≡ u ∷ inserted x us
unfolding inserted
inserted_later x u us l = ap (λ (b : Bool). pick b (x ∷ u ∷ us) (u ∷ inserted x us)) (le-ltb x u (omega arith))

next : (a k : ℕ) → suc a + k ≡ a + suc k
next a k = suc-add a k ∙ sym (add-suc a k)

-- ---- the unused one of rank r

free_rank : (a n : ℕ) (used : List ℕ) (r : ℕ) → From a used → r < length (free a n used) → get_or (free a n used) r 0 ≡ ranked (a + r) used
unfolding free ranked
free_rank a zero used r f l = absurd (not-suc-le-zero l)
free_rank a (suc n) [] zero f l = sym (add-zero a)
free_rank a (suc n) [] (suc r) f l = free_rank (suc a) n [] r (from_none (suc a)) (le_of_suc-le-suc l) ∙ next a r
free_rank a (suc n) (u ∷ us) r f l = step (λ xs k. free_rank (suc a) n xs k) (first_of a u us f) r l
  where
    step : ((xs : List ℕ) (k : ℕ) → From (suc a) xs → k < length (free (suc a) n xs) → get_or (free (suc a) n xs) k 0 ≡ ranked (suc a + k) xs)
        → (a ≡ u) ⊎ (a < u) → (k : ℕ) → k < length (free a (suc n) (u ∷ us)) → get_or (free a (suc n) (u ∷ us)) k 0 ≡ ranked (a + k) (u ∷ us)
    step h (inl e) k l =
        ap (λ (t : List ℕ). get_or t k 0) (free-here a n u us e)
        ∙ h us k (from_here a u us e f) (subst (λ (t : List ℕ). k < length t) (free-here a n u us e) l)
        ∙ ap (λ (j : ℕ). ranked j us) (suc-add a k)
        ∙ sym (ranked_past (a + k) u us (omega (arith, e)))
    step h (inr b) zero l = ap (λ (t : List ℕ). get_or t 0 0) (free_later a n u us b) ∙ sym (ranked_stop (a + 0) u us (omega arith) ∙ add-zero a)
    step h (inr b) (suc k) l =
        ap (λ (t : List ℕ). get_or t (suc k) 0) (free_later a n u us b)
        ∙ h (u ∷ us) k (from_later a u us b f) (le_of_suc-le-suc (subst (λ (t : List ℕ). suc k < length t) (free_later a n u us b) l))
        ∙ ap (λ (j : ℕ). ranked j (u ∷ us)) (next a k)

-- taking it leaves the others
free-removed : (a n : ℕ) (used : List ℕ) (r : ℕ) → From a used → removed r (free a n used) ≡ free a n (inserted (ranked (a + r) used) used)
unfolding free ranked removed inserted
free-removed a zero used zero f = refl
free-removed a zero used (suc r) f = refl
free-removed a (suc n) [] zero f = sym (free-here a n (a + zero) [] (sym (add-zero a)))
free-removed a (suc n) [] (suc r) f =
    ap (λ (t : List ℕ). a ∷ t) (free-removed (suc a) n [] r (from_none (suc a)) ∙ ap (λ (j : ℕ). free (suc a) n (j ∷ [])) (next a r))
    ∙ sym (free_later a n (a + suc r) [] (omega arith))
free-removed a (suc n) (u ∷ us) r f = step (λ xs k. free-removed (suc a) n xs k) (first_of a u us f) r
  where
    step : ((xs : List ℕ) (k : ℕ) → From (suc a) xs → removed k (free (suc a) n xs) ≡ free (suc a) n (inserted (ranked (suc a + k) xs) xs))
        → (a ≡ u) ⊎ (a < u) → (k : ℕ) → removed k (free a (suc n) (u ∷ us)) ≡ free a (suc n) (inserted (ranked (a + k) (u ∷ us)) (u ∷ us))
    step h (inl e) k =
        let v : ℕ = ranked (suc (a + k)) us in
        let walk : inserted (ranked (a + k) (u ∷ us)) (u ∷ us) ≡ u ∷ inserted v us =
        ap (λ (j : ℕ). inserted j (u ∷ us)) (ranked_past (a + k) u us (omega (arith, e))) ∙ inserted_later v u us (omega (arith, e, ranked-low (suc (a + k)) us)) in
        ap (removed k) (free-here a n u us e)
        ∙ h us k (from_here a u us e f)
        ∙ ap (λ (j : ℕ). free (suc a) n (inserted (ranked j us) us)) (suc-add a k)
        ∙ sym (free-here a n u (inserted v us) e)
        ∙ ap (free a (suc n)) (sym walk)
    step h (inr b) zero =
        let walk : inserted (ranked (a + 0) (u ∷ us)) (u ∷ us) ≡ (a + 0) ∷ u ∷ us =
        ap (λ (j : ℕ). inserted j (u ∷ us)) (ranked_stop (a + 0) u us (omega arith)) ∙ inserted_first (a + 0) u us (omega arith) in
        ap (removed 0) (free_later a n u us b) ∙ sym (free-here a n (a + 0) (u ∷ us) (sym (add-zero a))) ∙ ap (free a (suc n)) (sym walk)
    step h (inr b) (suc k) =
        let v : ℕ = ranked (suc a + k) (u ∷ us) in
        let above : (x : ℕ) → Mem x (inserted v (u ∷ us)) → a < x = λ x m. ⊎_elim
        (λ (e : x ≡ v). subst (λ (j : ℕ). a < j) (sym e) (omega (arith, ranked-low (suc a + k) (u ∷ us))))
        (λ (m : Mem x (u ∷ us)). above_used (from_later a u us b f) x m)
        (inserted_of v (u ∷ us) x m) in
        ap (removed (suc k)) (free_later a n u us b)
        ∙ ap (λ (t : List ℕ). a ∷ t) (h (u ∷ us) k (from_later a u us b f))
        ∙ sym (free_skips a n (inserted v (u ∷ us)) above)
        ∙ ap (λ (j : ℕ). free a (suc n) (inserted (ranked j (u ∷ us)) (u ∷ us))) (next a k)

-- ---- all words

ranked_new : (k : ℕ) (used : List ℕ) → Rising used → Mem (ranked k used) used → ⊥
ranked_new k [] r m = not-nil m
ranked_new k (u ∷ us) r m = ⊎_elim
    (λ (l : u ≤ k). ⊎_elim
    (λ (e : ranked (suc k) us ≡ u). absurd (lt_irrefl u (omega (arith, e, ranked-low (suc k) us))))
    (λ n. ranked_new (suc k) us r.1 n)
    (in-cons (subst (λ (j : ℕ). Mem j (u ∷ us)) (ranked_past k u us l) m)))
    (λ (l : k < u). ⊎_elim
    (λ (e : k ≡ u). lt_irrefl k (subst (λ (j : ℕ). k < j) (sym e) l))
    (λ n. lt_irrefl k (lt_trans l (r.0 k n)))
    (in-cons (subst (λ (j : ℕ). Mem j (u ∷ us)) (ranked_stop k u us l) m)))
    (order u k)

next_rising : (k : ℕ) (used : List ℕ) → Rising used → Rising (inserted (ranked k used) used)
next_rising k used r = inserted_rising (ranked k used) used r (ranked_new k used r)

drawn_into_rising : (n : ℕ) (used ws : List ℕ) → Rising used → Rising (drawn_into n used ws)
unfolding drawn_into
drawn_into_rising n used [] r = r
drawn_into_rising n used (x ∷ xs) r = drawn_into_rising (n - 1) (inserted (ranked (x % n) used) used) xs (next_rising (x % n) used r)

-- the leaves that are not used, of N
module _ (N : ℕ) where
  abbrev unused : List ℕ → List ℕ
  unused used = free 0 N used

  -- one word
  module _ (n x : ℕ) (used xs : List ℕ) (r : Rising used) (count : length (unused used) ≡ n) (few : length (x ∷ xs) ≤ n) where
    abbrev v : ℕ
    v = ranked (x % n) used

    from_zero : From 0 used
    unfolding From
    from_zero = (λ u m. zero-le, r)

    first_is : get_or (unused used) (x % n) 0 ≡ v
    first_is = free_rank 0 N used (x % n) from_zero (rank_below n (unused used) x xs count few) ∙ ap (λ (k : ℕ). ranked k used) (zero-add (x % n))

    rest_is : removed (x % n) (unused used) ≡ unused (inserted v used)
    rest_is = free-removed 0 N used (x % n) from_zero ∙ ap (λ (k : ℕ). unused (inserted (ranked k used) used)) (zero-add (x % n))

    count_next : length (unused (inserted v used)) ≡ n - 1
    count_next = ap length (sym rest_is) ∙ rest_count n (unused used) x xs count few

  into_of : (n : ℕ) (used ws : List ℕ) → Rising used → length (unused used) ≡ n → length ws ≤ n
      → (z : ℕ) → Mem z (drawn_into n used ws) → Mem z used ⊎ Mem z (chosen n (unused used) ws)
  unfolding drawn_into chosen
  into_of n used [] r c f z m = inl m
  into_of n used (x ∷ xs) r c f z m =
      let y : ℕ = ranked (x % n) used in
      ⊎_elim
      (λ k. ⊎_elim
      (λ (e : z ≡ y). inr (here (e ∙ sym (first_is n x used xs r c f))))
      (λ (k : Mem z used). inl k)
      (inserted_of y used z k))
      (λ k. inr (there (subst (λ (t : List ℕ). Mem z (chosen (n - 1) t xs)) (sym (rest_is n x used xs r c f)) k)))
      (into_of (n - 1) (inserted y used) xs (next_rising (x % n) used r) (count_next n x used xs r c f) (rest-enough n (unused used) x xs c f) z m)

  into_in : (n : ℕ) (used ws : List ℕ) → Rising used → length (unused used) ≡ n → length ws ≤ n
      → (z : ℕ) → Mem z used ⊎ Mem z (chosen n (unused used) ws) → Mem z (drawn_into n used ws)
  unfolding drawn_into chosen
  into_in n used [] r c f z m = ⊎_elim (λ (k : Mem z used). k) (λ k. absurd (not-nil k)) m
  into_in n used (x ∷ xs) r c f z m =
      let y : ℕ = ranked (x % n) used in
      into_in (n - 1) (inserted y used) xs (next_rising (x % n) used r) (count_next n x used xs r c f) (rest-enough n (unused used) x xs c f) z
      (⊎_elim
      (λ (k : Mem z used). inl (inserted_in y used z (inr k)))
      (λ k. ⊎_elim
      (λ (e : z ≡ get_or (unused used) (x % n) 0). inl (inserted_in y used z (inl (e ∙ first_is n x used xs r c f))))
      (λ j. inr (subst (λ (t : List ℕ). Mem z (chosen (n - 1) t xs)) (rest_is n x used xs r c f) j))
      (in-cons k))
      m)

pub drawn_by_ranks : (s : Sizes) → SizesInOrder s → (x : Bytes) → drawn_indices s x ≡ drawn_into (leaves s) [] (doubles s.ℓ (drop ranks_at x))
unfolding drawn_indices
drawn_by_ranks s g x =
    let N : ℕ = leaves s in
    let ws : List ℕ = doubles s.ℓ (drop ranks_at x) in
    let few : length ws ≤ N = omega (arith, length-doubles s.ℓ (drop ranks_at x), g.fits) in
    let count : length (free 0 N []) ≡ N = ap length (free_all 0 N) ∙ length-up_from 0 N in
    let same : chosen N (free 0 N []) ws ≡ chosen N (up_from 0 N) ws = ap (λ (t : List ℕ). chosen N t ws) (free_all 0 N) in
    let cs : List ℕ = chosen N (up_from 0 N) ws in
    rising-unique (sorted cs) (drawn_into N [] ws)
    (sorted-rising cs (chosen_distinct N (up_from 0 N) ws (up_from-rising 0 N) (length-up_from 0 N) few))
    (drawn_into_rising N [] ws tt)
    (λ z m. into_in N N [] ws tt count few z (inr (subst (λ (t : List ℕ). Mem z t) (sym same) (sorted_of cs z m))))
    (λ z m. ⊎_elim (λ (k : Mem z []). absurd (not-nil k)) (λ k. sorted_in cs z (subst (λ (t : List ℕ). Mem z t) same k)) (into_of N N [] ws tt count few z m))
