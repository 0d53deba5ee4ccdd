-- What holds of each element of a list; lists of different elements; bounds; rows of lists of one length.
use Rattle.std.specs.Prelude.{◌≡◌, refl, ◌≢◌, ℕ, zero, suc, ◌<◌, length, get_or, take, drop, replicate}
use Rattle.std.proofs.Common.{sym, subst, ⊎_elim, suc-le-suc, not-suc-le-zero, le_of_suc-le-suc, zero-lt-suc}
use mathlib.Core.List.Memᴰ.{cases_cons as in-cons, head as here, not-nil, tail as there}
use mathlib.Core.List.{List, [], ◌∷◌, ◌++◌, map, flatten, Memᴰ as Mem}

abbrev pub All : {A : Type 0} → (A → Type 0) → List A → Type 0
All P [] = Unit {0}
All P (x ∷ xs) = P x × All P xs

pub all_imp : {A : Type 0} {P Q : A → Type 0} → ((x : A) → P x → Q x) → (xs : List A) → All P xs → All Q xs
all_imp f [] h = tt
all_imp f (x ∷ xs) h = (f x h.0, all_imp f xs h.1)

pub all_map : {A B : Type 0} (f : A → B) (P : B → Type 0) (xs : List A) → All (λ (a : A). P (f a)) xs → All P (map f xs)
all_map f P [] h = tt
all_map f P (x ∷ xs) h = (h.0, all_map f P xs h.1)

pub all_each : {A B : Type 0} (P : B → Type 0) (f : A → B) (xs : List A) → ((x : A) → P (f x)) → All P (map f xs)
all_each P f [] h = tt
all_each P f (x ∷ xs) h = (h x, all_each P f xs h)

pub all_replicate : {A : Type 0} (P : A → Type 0) (n : ℕ) (a : A) → P a → All P (replicate n a)
all_replicate P zero a h = tt
all_replicate P (suc n) a h = (h, all_replicate P n a h)

-- ---- by places

pub all_at : {A : Type 0} (P : A → Type 0) (d : A) (xs : List A) → All P xs → (i : ℕ) → i < length xs → P (get_or xs i d)
all_at P d [] h i l = absurd (not-suc-le-zero l)
all_at P d (x ∷ xs) h zero l = h.0
all_at P d (x ∷ xs) h (suc i) l = all_at P d xs h.1 i (le_of_suc-le-suc l)

pub all_from : {A : Type 0} (P : A → Type 0) (d : A) (xs : List A) → ((i : ℕ) → i < length xs → P (get_or xs i d)) → All P xs
all_from P d [] h = tt
all_from P d (x ∷ xs) h = (h 0 (zero-lt-suc _), all_from P d xs (λ (i : ℕ) (l : i < length xs). h (suc i) (suc-le-suc l)))

-- ---- by membership

pub mem_all : {A : Type 0} (P : A → Type 0) (xs : List A) → ((x : A) → Mem x xs → P x) → All P xs
mem_all P [] h = tt
mem_all P (x ∷ xs) h = (h x (here refl), mem_all P xs (λ y m. h y (there m)))

pub all_mem : {A : Type 0} (P : A → Type 0) (xs : List A) → All P xs → (x : A) → Mem x xs → P x
all_mem P [] h x m = absurd (not-nil m)
all_mem P (y ∷ ys) h x m = ⊎_elim (λ e. subst P (sym e) h.0) (λ k. all_mem P ys h.1 x k) (in-cons m)

-- ---- parts of a list

pub all_append : {A : Type 0} (P : A → Type 0) (xs ys : List A) → All P xs → All P ys → All P (xs ++ ys)
all_append P [] ys h k = k
all_append P (x ∷ xs) ys h k = (h.0, all_append P xs ys h.1 k)

pub all_left : {A : Type 0} (P : A → Type 0) (xs ys : List A) → All P (xs ++ ys) → All P xs
all_left P [] ys h = tt
all_left P (x ∷ xs) ys h = (h.0, all_left P xs ys h.1)

pub all_right : {A : Type 0} (P : A → Type 0) (xs ys : List A) → All P (xs ++ ys) → All P ys
all_right P [] ys h = h
all_right P (x ∷ xs) ys h = all_right P xs ys h.1

pub all_flatten : {A : Type 0} (P : A → Type 0) (xs : List (List A)) → All (All P) xs → All P (flatten xs)
unfolding flatten
all_flatten P [] h = tt
all_flatten P (x ∷ xs) h = all_append P x (flatten xs) h.0 (all_flatten P xs h.1)

pub all_take : {A : Type 0} (P : A → Type 0) (n : ℕ) (xs : List A) → All P xs → All P (take n xs)
all_take P zero xs h = tt
all_take P (suc n) [] h = tt
all_take P (suc n) (x ∷ xs) h = (h.0, all_take P n xs h.1)

pub all_drop : {A : Type 0} (P : A → Type 0) (n : ℕ) (xs : List A) → All P xs → All P (drop n xs)
all_drop P zero xs h = h
all_drop P (suc n) [] h = tt
all_drop P (suc n) (x ∷ xs) h = all_drop P n xs h.1

-- ---- bounds and lengths

-- each number is below n
abbrev pub Below : ℕ → List ℕ → Type 0
Below n xs = All (λ (x : ℕ). x < n) xs

pub below_mem : (n : ℕ) (xs : List ℕ) → Below n xs → (x : ℕ) → Mem x xs → x < n
below_mem n xs h x m = all_mem (λ (y : ℕ). y < n) xs h x m

pub mem_below : (n : ℕ) (xs : List ℕ) → ((x : ℕ) → Mem x xs → x < n) → Below n xs
mem_below n xs h = mem_all (λ (y : ℕ). y < n) xs h

-- each list has length n
abbrev pub Sized : {A : Type 0} → ℕ → List (List A) → Type 0
Sized {A} n xs = All (λ (x : List A). length x ≡ n) xs

pub sized-mem : {A : Type 0} (n : ℕ) (xs : List (List A)) → Sized n xs → (x : List A) → Mem x xs → length x ≡ n
sized-mem {A} n xs h x m = all_mem (λ (y : List A). length y ≡ n) xs h x m

pub mem-sized : {A : Type 0} (n : ℕ) (xs : List (List A)) → ((x : List A) → Mem x xs → length x ≡ n) → Sized n xs
mem-sized {A} n xs h = mem_all (λ (y : List A). length y ≡ n) xs h

-- ---- pairwise different

abbrev pub Distinct : {A : Type 0} → List A → Type 0
Distinct [] = Unit {0}
Distinct {A} (x ∷ xs) = All (λ (y : A). y ≢ x) xs × Distinct xs

pub distinct_at : {A : Type 0} (d : A) (xs : List A) → Distinct xs → (i j : ℕ) → i < j → j < length xs → get_or xs j d ≢ get_or xs i d
distinct_at d [] h i j l m = absurd (not-suc-le-zero m)
distinct_at {A} d (x ∷ xs) h zero zero l m = absurd (not-suc-le-zero l)
distinct_at {A} d (x ∷ xs) h zero (suc j) l m = all_at (λ (y : A). y ≢ x) d xs h.0 j (le_of_suc-le-suc m)
distinct_at d (x ∷ xs) h (suc i) zero l m = absurd (not-suc-le-zero l)
distinct_at d (x ∷ xs) h (suc i) (suc j) l m = distinct_at d xs h.1 i j (le_of_suc-le-suc l) (le_of_suc-le-suc m)

pub distinct_from : {A : Type 0} (d : A) (xs : List A) → ((i j : ℕ) → i < j → j < length xs → get_or xs j d ≢ get_or xs i d) → Distinct xs
distinct_from d [] h = tt
distinct_from {A} d (x ∷ xs) h = (
  all_from (λ (y : A). y ≢ x) d xs (λ (j : ℕ) (l : j < length xs). h 0 (suc j) (zero-lt-suc j) (suc-le-suc l)),
  distinct_from d xs (λ (i j : ℕ) (l : i < j) (m : j < length xs). h (suc i) (suc j) (suc-le-suc l) (suc-le-suc m)),
)
