-- Consecutive numbers.
use Rattle.std.specs.Prelude.{◌≡◌, refl, ℕ, zero, suc, ◌+◌, ◌≤◌, ◌<◌, length, get_or}
use Rattle.std.proofs.Common.{sym, ap, ◌∙◌, subst, ⊎_elim, eq-or-lt_of_le, not-suc-le-zero, le_of_suc-le-suc, add-zero, add-suc, suc-add, zero-add, arith}
use mathlib.Core.List.Memᴰ.{head as here, not-nil, tail as there}
use mathlib.Core.List.{List, [], ◌∷◌, ◌++◌, map, Memᴰ as Mem}
use Rattle.lists.specs.All.{Below, Distinct, All}
use Rattle.lists.specs.Rising.{Rising, rising_distinct}

-- n numbers from a on
unfoldable pub up_from : ℕ → ℕ → List ℕ
up_from a zero = []
up_from a (suc n) = a ∷ up_from (suc a) n

pub length-up_from : (a n : ℕ) → length (up_from a n) ≡ n
unfolding up_from
length-up_from a zero = refl
length-up_from a (suc n) = ap suc (length-up_from (suc a) n)

pub up_from_at : (a n k : ℕ) → k < n → get_or (up_from a n) k 0 ≡ a + k
unfolding up_from
up_from_at a zero k l = absurd (not-suc-le-zero l)
up_from_at a (suc n) zero l = sym (add-zero a)
up_from_at a (suc n) (suc k) l = up_from_at (suc a) n k (le_of_suc-le-suc l) ∙ suc-add a k ∙ sym (add-suc a k)

pub at_run : {A : Type 0} (f : ℕ → A) (a n k : ℕ) (z : A) → k < n → get_or (map f (up_from a n)) k z ≡ f (a + k)
unfolding up_from
at_run f a zero k z h = absurd (not-suc-le-zero h)
at_run f a (suc n) zero z h = ap f (sym (add-zero a))
at_run f a (suc n) (suc k) z h = at_run f (suc a) n k z (le_of_suc-le-suc h) ∙ ap f (omega arith)

pub up_from-snoc : (a n : ℕ) → up_from a (suc n) ≡ up_from a n ++ ((a + n) ∷ [])
unfolding up_from
up_from-snoc a zero = ap (λ (k : ℕ). k ∷ []) (sym (add-zero a))
up_from-snoc a (suc n) = ap (λ (r : List ℕ). a ∷ r) (up_from-snoc (suc a) n ∙ ap (λ (k : ℕ). up_from (suc a) n ++ (k ∷ [])) (suc-add a n ∙ sym (add-suc a n)))

pub up_from_in : (a n c : ℕ) → a ≤ c → c < a + n → Mem c (up_from a n)
unfolding up_from
up_from_in a zero c h l = absurd (omega arith)
up_from_in a (suc n) c h l =
    ⊎_elim (λ (e : a ≡ c). here (sym e)) (λ (k : a < c). there (up_from_in (suc a) n c k (omega arith))) (eq-or-lt_of_le h)

pub up_from_of : (a n c : ℕ) → Mem c (up_from a n) → (a ≤ c) × (c < a + n)
unfolding up_from
up_from_of a zero c m = absurd (not-nil m)
up_from_of a (suc n) c (here e) = omega arith
up_from_of a (suc n) c (there m) = let ih = up_from_of (suc a) n c m in omega arith

pub up_from_below : (a n m : ℕ) → a + n ≤ m → Below m (up_from a n)
unfolding up_from
up_from_below a zero m l = tt
up_from_below a (suc n) m l = (omega arith, up_from_below (suc a) n m (omega arith))

pub up_from-rising : (a n : ℕ) → Rising (up_from a n)
unfolding up_from
up_from-rising a zero = tt
up_from-rising a (suc n) = (λ y m. (up_from_of (suc a) n y m).0, up_from-rising (suc a) n)

pub up_from_distinct : (a n : ℕ) → Distinct (up_from a n)
up_from_distinct a n = rising_distinct (up_from a n) (up_from-rising a n)

-- ---- a function along a range

pub all_run : {A : Type 0} (P : A → Type 0) (f : ℕ → A) (n : ℕ) → ((j : ℕ) → j < n → P (f j)) → All P (map f (up_from 0 n))
all_run P f n h = go (up_from 0 n) (λ j m. h j (subst (λ (k : ℕ). j < k) (zero-add n) (up_from_of 0 n j m).1))
  where
    go : (xs : List ℕ) → ((j : ℕ) → Mem j xs → P (f j)) → All P (map f xs)
    go [] k = tt
    go (x ∷ xs) k = (k x (here refl), go xs (λ j m. k j (there m)))

pub run-parts : (f : ℕ → ℕ) (a n m : ℕ) → map f (up_from a (n + m)) ≡ map f (up_from a n) ++ map f (up_from (a + n) m)
unfolding up_from
run-parts f a zero m = rw (zero-add, add-zero)
run-parts f a (suc n) m =
    ap (λ (k : ℕ). map f (up_from a k)) (suc-add n m)
    ∙ ap (λ (r : List ℕ). f a ∷ r)
    (run-parts f (suc a) n m ∙ ap (λ (k : ℕ). map f (up_from (suc a) n) ++ map f (up_from k m)) (suc-add a n ∙ sym (add-suc a n)))
