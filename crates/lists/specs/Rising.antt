-- Strictly rising lists: each number is below all that follow.
use Rattle.std.specs.Prelude.{◌≡◌, refl, Bool, true, ◌&&◌, ◌≢◌, ℕ, ◌<◌, ltb}
use Rattle.std.proofs.Common.{sym, ap₂, ◌∙◌, subst, ⊎_elim, lt_trans, lt_irrefl, ne_of_gt, ltb-true, lt-ltb}
use mathlib.Core.List.Memᴰ.{cases_cons as in-cons, head as here, not-nil, tail as there}
use mathlib.Core.List.{List, [], ◌∷◌, Memᴰ as Mem}
use Rattle.lists.specs.Choice.{and_true, both_true}
use Rattle.lists.specs.All.{mem_all, Distinct}

abbrev pub Rising : List ℕ → Type 0
Rising [] = Unit {0}
Rising (x ∷ xs) = ((y : ℕ) → Mem y xs → x < y) × Rising xs

pub rising_distinct : (xs : List ℕ) → Rising xs → Distinct xs
rising_distinct [] h = tt
rising_distinct (x ∷ xs) h = (mem_all (λ (y : ℕ). y ≢ x) xs (λ y m. ne_of_gt (h.0 y m)), rising_distinct xs h.1)

pub rising-cons : (i j : ℕ) (s : List ℕ) → i < j → Rising (j ∷ s) → Rising (i ∷ j ∷ s)
rising-cons i j s l r = ((λ k m. ⊎_elim (λ (e : k ≡ j). subst (λ (n : ℕ). i < n) (sym e) l) (λ n. lt_trans l (r.0 k n)) (in-cons m)), r)

-- as a test
unfoldable pub rising : List ℕ → Bool
rising [] = true
rising (i ∷ []) = true
rising (i ∷ j ∷ s) = ltb i j && rising (j ∷ s)

pub rising_true : (s : List ℕ) → rising s ≡ true → Rising s
unfolding rising
rising_true [] e = tt
rising_true (i ∷ []) e = (λ j m. absurd (not-nil m), tt)
rising_true (i ∷ j ∷ s) e = let h = and_true (ltb i j) (rising (j ∷ s)) e in rising-cons i j s (ltb-true i j h.0) (rising_true (j ∷ s) h.1)

pub true_rising : (s : List ℕ) → Rising s → rising s ≡ true
unfolding rising
true_rising [] r = refl
true_rising (i ∷ []) r = refl
true_rising (i ∷ j ∷ s) r = both_true (ltb i j) (rising (j ∷ s)) (lt-ltb i j (r.0 j (here refl))) (true_rising (j ∷ s) r.1)

-- rising lists with the same numbers are equal
pub rising-unique : (xs ys : List ℕ) → Rising xs → Rising ys → ((z : ℕ) → Mem z xs → Mem z ys) → ((z : ℕ) → Mem z ys → Mem z xs) → xs ≡ ys
rising-unique [] [] r s f g = refl
rising-unique [] (y ∷ ys) r s f g = absurd (not-nil (g y (here refl)))
rising-unique (x ∷ xs) [] r s f g = absurd (not-nil (f x (here refl)))
rising-unique (x ∷ xs) (y ∷ ys) r s f g =
    let e : x ≡ y = ⊎_elim
    (λ (e : x ≡ y). e)
    (λ m. ⊎_elim (λ (e : y ≡ x). sym e) (λ k. absurd (lt_irrefl x (lt_trans (r.0 y k) (s.0 x m)))) (in-cons (g y (here refl))))
    (in-cons (f x (here refl))) in
    ap₂ (λ (a : ℕ) (t : List ℕ). a ∷ t) e
    (rising-unique xs ys r.1 s.1
    (λ z m. ⊎_elim (λ (k : z ≡ y). absurd (lt_irrefl x (subst (λ (n : ℕ). x < n) (k ∙ sym e) (r.0 z m)))) (λ k. k) (in-cons (f z (there m))))
    (λ z m. ⊎_elim (λ (k : z ≡ x). absurd (lt_irrefl y (subst (λ (n : ℕ). y < n) (k ∙ e) (s.0 z m)))) (λ k. k) (in-cons (g z (there m)))))
