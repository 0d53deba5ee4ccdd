-- Lists put in rising order.
use Rattle.std.specs.Prelude.{◌≡◌, refl, Bool, true, false, ◌⊎◌, ◌≢◌, ℕ, suc, ◌<◌, ltb, length}
use Rattle.std.proofs.Common.{sym, ap, ◌∙◌, subst, inl, inr, ⊎_elim, eq-or-lt_of_le, ltb-true, ltb-false}
use mathlib.Core.List.Memᴰ.{cases_cons as in-cons, head as here, not-nil, tail as there}
use mathlib.Core.List.{List, [], ◌∷◌, Memᴰ as Mem}
use Rattle.lists.specs.Choice.{pick, tested}
use Rattle.lists.specs.All.{Distinct, all_mem}
use Rattle.lists.specs.Rising.{Rising, rising-cons}

-- x before the first number that is above it
unfoldable pub inserted : ℕ → List ℕ → List ℕ
inserted x [] = x ∷ []
inserted x (y ∷ ys) = pick (ltb x y) (x ∷ y ∷ ys) (y ∷ inserted x ys)

unfoldable pub sorted : List ℕ → List ℕ
sorted [] = []
sorted (x ∷ xs) = inserted x (sorted xs)

inserted-length : (x : ℕ) (ys : List ℕ) → length (inserted x ys) ≡ suc (length ys)
unfolding inserted
inserted-length x [] = refl
inserted-length x (y ∷ ys) = step (inserted-length x ys) (ltb x y)
  where
    step : length (inserted x ys) ≡ suc (length ys) → (b : Bool) → length (pick b (x ∷ y ∷ ys) (y ∷ inserted x ys)) ≡ suc (suc (length ys))
    step h true = refl
    step h false = ap suc h

pub inserted_of : (x : ℕ) (ys : List ℕ) (z : ℕ) → Mem z (inserted x ys) → (z ≡ x) ⊎ Mem z ys
unfolding inserted
inserted_of x [] z m = ⊎_elim (λ e. inl e) (λ k. absurd (not-nil k)) (in-cons m)
inserted_of x (y ∷ ys) z m = step (inserted_of x ys z) (ltb x y) m
  where
    step : (Mem z (inserted x ys) → (z ≡ x) ⊎ Mem z ys) → (b : Bool) → Mem z (pick b (x ∷ y ∷ ys) (y ∷ inserted x ys)) → (z ≡ x) ⊎ Mem z (y ∷ ys)
    step h true m = in-cons m
    step h false m = ⊎_elim (λ e. inr (here e)) (λ k. ⊎_elim (λ e. inl e) (λ n. inr (there n)) (h k)) (in-cons m)

pub inserted_rising : (x : ℕ) (ys : List ℕ) → Rising ys → (Mem x ys → ⊥) → Rising (inserted x ys)
unfolding inserted
inserted_rising x [] r n = (λ y m. absurd (not-nil m), tt)
inserted_rising x (y ∷ ys) r n = step (inserted_rising x ys r.1 (λ m. n (there m))) (tested (ltb x y))
  where
    differ : y ≡ x → ⊥
    differ e = n (here (sym e))

    step : Rising (inserted x ys) → (ltb x y ≡ true) ⊎ (ltb x y ≡ false) → Rising (pick (ltb x y) (x ∷ y ∷ ys) (y ∷ inserted x ys))
    step h (inl e) = subst (λ (b : Bool). Rising (pick b (x ∷ y ∷ ys) (y ∷ inserted x ys))) (sym e) (rising-cons x y ys (ltb-true x y e) r)
    step h (inr e) =
        let l : y < x = ⊎_elim (λ (e : y ≡ x). absurd (differ e)) (λ k. k) (eq-or-lt_of_le (ltb-false x y e)) in
        subst (λ (b : Bool). Rising (pick b (x ∷ y ∷ ys) (y ∷ inserted x ys))) (sym e)
        (λ z m. ⊎_elim (λ (f : z ≡ x). subst (λ (k : ℕ). y < k) (sym f) l) (λ k. r.0 z k) (inserted_of x ys z m), h)

-- the same numbers, as many of them
pub sorted-length : (xs : List ℕ) → length (sorted xs) ≡ length xs
unfolding sorted
sorted-length [] = refl
sorted-length (x ∷ xs) = inserted-length x (sorted xs) ∙ ap suc (sorted-length xs)

pub sorted_of : (xs : List ℕ) (z : ℕ) → Mem z (sorted xs) → Mem z xs
unfolding sorted
sorted_of [] z m = absurd (not-nil m)
sorted_of (x ∷ xs) z m = ⊎_elim (λ (e : z ≡ x). here e) (λ k. there (sorted_of xs z k)) (inserted_of x (sorted xs) z m)

pub inserted_in : (x : ℕ) (ys : List ℕ) (z : ℕ) → (z ≡ x) ⊎ Mem z ys → Mem z (inserted x ys)
unfolding inserted
inserted_in x [] z m = ⊎_elim (λ (e : z ≡ x). here e) (λ k. absurd (not-nil k)) m
inserted_in x (y ∷ ys) z m = step (inserted_in x ys z) (ltb x y) m
  where
    step : ((z ≡ x) ⊎ Mem z ys → Mem z (inserted x ys)) → (b : Bool) → (z ≡ x) ⊎ Mem z (y ∷ ys) → Mem z (pick b (x ∷ y ∷ ys) (y ∷ inserted x ys))
    step h true m = ⊎_elim (λ (e : z ≡ x). here e) (λ k. there k) m
    step h false m = ⊎_elim (λ (e : z ≡ x). there (h (inl e))) (λ k. ⊎_elim (λ (e : z ≡ y). here e) (λ n. there (h (inr n))) (in-cons k)) m

pub sorted_in : (xs : List ℕ) (z : ℕ) → Mem z xs → Mem z (sorted xs)
unfolding sorted
sorted_in [] z m = absurd (not-nil m)
sorted_in (x ∷ xs) z m = inserted_in x (sorted xs) z (⊎_elim (λ (e : z ≡ x). inl e) (λ k. inr (sorted_in xs z k)) (in-cons m))

-- different numbers are then rising
pub sorted-rising : (xs : List ℕ) → Distinct xs → Rising (sorted xs)
unfolding sorted
sorted-rising [] d = tt
sorted-rising (x ∷ xs) d =
    inserted_rising x (sorted xs) (sorted-rising xs d.1) (λ m. all_mem (λ (y : ℕ). y ≢ x) xs d.0 x (sorted_of xs x m) refl)
