-- Tests: each is a Bool, and the first of an entry's tests that holds gives its verdict.
use Rattle.std.specs.Prelude.{◌≡◌, refl, Bool, true, false, ◌&&◌, ◌≢◌, List, [], ◌∷◌, ◌++◌, ℕ, zero, suc, ◌+◌, ◌≤◌, ◌<◌, leb, eqb, length, get_or}
use Rattle.std.proofs.Common.{sym, ap, ap₂, ◌∙◌, subst, ⊎_elim, suc-le-suc, not-suc-le-zero, zero-lt-suc, add-one, arith, eqb-true, eq-eqb, leb-true}
use Rattle.std.proofs.lemmas.Bool.{false≢true}
use Rattle.std.proofs.Math.Nat.{le-suc_iff, suc_inj}
use Rattle.lists.specs.Choice.{pick, and_true, both_true, and_false, iff, and_assoc, and_right}
use Rattle.lists.specs.All.{All, all_at}

-- a test with the number that is returned when it holds
abbrev pub Test : Type 0
Test = ℕ × Bool

-- the number of the first test that holds, and 0 where none does
unfoldable pub verdict_of : List Test → ℕ
verdict_of [] = 0
verdict_of (t ∷ ts) = pick t.1 t.0 (verdict_of ts)

-- each of some tests holds
unfoldable pub every : List Bool → Bool
every [] = true
every (t ∷ ts) = t && every ts

-- the test holds of each element of a list
unfoldable pub all : {A : Type 0} → (A → Bool) → List A → Bool
all f [] = true
all f (x ∷ xs) = f x && all f xs

-- the test holds of each number below n
unfoldable pub each : ℕ → (ℕ → Bool) → Bool
each zero f = true
each (suc n) f = each n f && f n

-- how many numbers below n the test holds of
unfoldable pub tally : ℕ → (ℕ → Bool) → ℕ
tally zero f = 0
tally (suc n) f = pick (f n) (suc (tally n f)) (tally n f)

-- n stands from low to high
abbrev pub within : ℕ → ℕ → ℕ → Bool
within low high n = leb low n && leb n high

-- two lists are equal
unfoldable pub same : List ℕ → List ℕ → Bool
same [] [] = true
same [] (y ∷ ys) = false
same (x ∷ xs) [] = false
same (x ∷ xs) (y ∷ ys) = eqb x y && same xs ys

-- ---- the first test that holds

-- the numbers of the tests are not 0
abbrev pub Numbered : List Test → Type 0
Numbered ts = All (λ (t : Test). 0 < t.0) ts

-- verdict 0: no test holds
pub passed : (ts : List Test) → Numbered ts → verdict_of ts ≡ 0 → All (λ (t : Test). t.1 ≡ false) ts
unfolding verdict_of
passed [] p e = tt
passed (t ∷ ts) p e = let h = head t.1 e in (h.0, passed ts p.1 h.1)
  where
    head : (b : Bool) → pick b t.0 (verdict_of ts) ≡ 0 → (b ≡ false) × (verdict_of ts ≡ 0)
    head true k = absurd (subst (λ (n : ℕ). 0 < n → ⊥) (sym k) not-suc-le-zero p.0)
    head false k = (refl, k)

-- a verdict of a kind that none of the first tests has: none of these holds
pub passed_by : (kind : ℕ → Bool) (ts more : List Test) → All (λ (t : Test). kind t.0 ≡ false) ts → kind (verdict_of (ts ++ more)) ≡ true → All (λ (t : Test). t.1 ≡ false) ts
unfolding verdict_of
passed_by kind [] more h e = tt
passed_by kind (t ∷ ts) more h e = let k = head t.1 e in (k.0, passed_by kind ts more h.1 k.1)
  where
    head : (b : Bool) → kind (pick b t.0 (verdict_of (ts ++ more))) ≡ true → (b ≡ false) × (kind (verdict_of (ts ++ more)) ≡ true)
    head true k = absurd (false≢true (sym h.0 ∙ k))
    head false k = (refl, k)

pub pass : (ts : List Test) → All (λ (t : Test). t.1 ≡ false) ts → verdict_of ts ≡ 0
unfolding verdict_of
pass [] h = refl
pass (t ∷ ts) h = ap (λ (b : Bool). pick b t.0 (verdict_of ts)) h.0 ∙ pass ts h.1

pub verdict_hit : (v : ℕ) (t : Bool) (ts : List Test) → t ≡ true → verdict_of ((v, t) ∷ ts) ≡ v
unfolding verdict_of
verdict_hit v t ts e = ap (λ (b : Bool). pick b v (verdict_of ts)) e

pub verdict_miss : (v : ℕ) (t : Bool) (ts : List Test) → t ≡ false → verdict_of ((v, t) ∷ ts) ≡ verdict_of ts
unfolding verdict_of
verdict_miss v t ts e = ap (λ (b : Bool). pick b v (verdict_of ts)) e

-- the tests before gave 0, or another number
pub verdict_go : (ts us : List Test) → Numbered ts → verdict_of ts ≡ 0 → verdict_of (ts ++ us) ≡ verdict_of us
unfolding verdict_of
verdict_go [] us p e = refl
verdict_go (t ∷ ts) us p e = step (verdict_go ts us p.1) t.1 e
  where
    step : (verdict_of ts ≡ 0 → verdict_of (ts ++ us) ≡ verdict_of us) → (b : Bool) → pick b t.0 (verdict_of ts) ≡ 0 → pick b t.0 (verdict_of (ts ++ us)) ≡ verdict_of us
    step g true k = absurd (subst (λ (n : ℕ). 0 < n → ⊥) (sym k) not-suc-le-zero p.0)
    step g false k = g k

pub verdict_stop : (ts us : List Test) (v : ℕ) → 0 < v → verdict_of ts ≡ v → verdict_of (ts ++ us) ≡ v
unfolding verdict_of
verdict_stop [] us v p e = absurd (subst (λ (n : ℕ). 0 < n → ⊥) e not-suc-le-zero p)
verdict_stop (t ∷ ts) us v p e = step (verdict_stop ts us v p) t.1 e
  where
    step : (verdict_of ts ≡ v → verdict_of (ts ++ us) ≡ v) → (b : Bool) → pick b t.0 (verdict_of ts) ≡ v → pick b t.0 (verdict_of (ts ++ us)) ≡ v
    step g true k = k
    step g false k = g k

-- a verdict is the number of one of the tests, or 0
pub verdict_within : (n : ℕ) (ts : List Test) → All (λ (t : Test). t.0 ≤ n) ts → verdict_of ts ≤ n
unfolding verdict_of
verdict_within n [] h = omega arith
verdict_within n (t ∷ ts) h = step (verdict_within n ts h.1) t.1
  where
    step : verdict_of ts ≤ n → (b : Bool) → pick b t.0 (verdict_of ts) ≤ n
    step g true = h.0
    step g false = g

-- the number n is not given where no test with this number holds
pub verdict_other : (n : ℕ) (ts : List Test) → n ≢ 0 → All (λ (t : Test). eqb t.0 n && t.1 ≡ false) ts → verdict_of ts ≢ n
unfolding verdict_of
verdict_other n [] z h = λ e. z (sym e)
verdict_other n (t ∷ ts) z h = step (verdict_other n ts z h.1) t.1 h.0
  where
    step : verdict_of ts ≢ n → (b : Bool) → eqb t.0 n && b ≡ false → pick b t.0 (verdict_of ts) ≢ n
    step g true k = λ e. false≢true (sym k ∙ ap (λ (x : Bool). x && true) (eq-eqb t.0 n e))
    step g false k = g

-- ---- all of some tests

pub every_true : (ts : List Bool) → every ts ≡ true → All (λ (t : Bool). t ≡ true) ts
unfolding every
every_true [] e = tt
every_true (t ∷ ts) e = let h = and_true t (every ts) e in (h.0, every_true ts h.1)

pub true_every : (ts : List Bool) → All (λ (t : Bool). t ≡ true) ts → every ts ≡ true
unfolding every
true_every [] h = refl
true_every (t ∷ ts) h = both_true t (every ts) h.0 (true_every ts h.1)

pub all_true : {A : Type 0} (f : A → Bool) (xs : List A) → all f xs ≡ true → All (λ (x : A). f x ≡ true) xs
unfolding all
all_true f [] e = tt
all_true f (x ∷ xs) e = let h = and_true (f x) (all f xs) e in (h.0, all_true f xs h.1)

pub true_all : {A : Type 0} (f : A → Bool) (xs : List A) → All (λ (x : A). f x ≡ true) xs → all f xs ≡ true
unfolding all
true_all f [] h = refl
true_all f (x ∷ xs) h = both_true (f x) (all f xs) h.0 (true_all f xs h.1)

-- a test of all elements is one of all places
all_places : {A : Type 0} (f : A → Bool) (d : A) (xs : List A) → ((i : ℕ) → i < length xs → f (get_or xs i d) ≡ true) → all f xs ≡ true
unfolding all
all_places f d [] h = refl
all_places f d (x ∷ xs) h = ap₂ ◌&&◌ (h 0 (zero-lt-suc _)) (all_places f d xs (λ i l. h (suc i) (suc-le-suc l)))

-- ---- all numbers below n

pub each_true : (n : ℕ) (f : ℕ → Bool) → each n f ≡ true → (i : ℕ) → i < n → f i ≡ true
unfolding each
each_true zero f e i l = absurd (not-suc-le-zero l)
each_true (suc n) f e i l =
    let h = and_true (each n f) (f n) e in
    ⊎_elim (λ k. each_true n f h.0 i k) (λ k. subst (λ (j : ℕ). f j ≡ true) (suc_inj (sym k)) h.1) (le-suc_iff.0 l)

pub true_each : (n : ℕ) (f : ℕ → Bool) → ((i : ℕ) → i < n → f i ≡ true) → each n f ≡ true
unfolding each
true_each zero f h = refl
true_each (suc n) f h = both_true (each n f) (f n) (true_each n f (λ i l. h i (omega arith))) (h n (omega arith))

pub each_next : (f : ℕ → Bool) (i : ℕ) → each i f ≡ true → f i ≡ true → each (i + 1) f ≡ true
unfolding each
each_next f i e k = ap (λ (n : ℕ). each n f) (add-one i) ∙ ap₂ ◌&&◌ e k

-- one number that fails
pub each_stop : (n : ℕ) (f : ℕ → Bool) (i : ℕ) → i < n → f i ≡ false → each n f ≡ false
unfolding each
each_stop zero f i l e = absurd (not-suc-le-zero l)
each_stop (suc n) f i l e =
    ⊎_elim (λ k. ap (λ (b : Bool). b && f n) (each_stop n f i k e)) (λ k. and_false (each n f) (f n) (subst (λ (j : ℕ). f j ≡ false) (suc_inj k) e)) (le-suc_iff.0 l)

pub each_none : (f : ℕ → Bool) → each 0 f ≡ true
unfolding each
each_none f = refl

-- tests that agree at each number below n
pub each_ext : (n : ℕ) (f g : ℕ → Bool) → ((i : ℕ) → i < n → f i ≡ g i) → each n f ≡ each n g
unfolding each
each_ext zero f g h = refl
each_ext (suc n) f g h = ap₂ ◌&&◌ (each_ext n f g (λ i l. h i (omega arith))) (h n (omega arith))

-- pairs in either order
pub each_swap : (m n : ℕ) (f : ℕ → ℕ → Bool) → each m (λ p. each n (λ a. f p a)) ≡ each n (λ a. each m (λ p. f p a))
each_swap m n f =
    iff (each m (λ p. each n (λ a. f p a))) (each n (λ a. each m (λ p. f p a)))
    (λ e. true_each n (λ a. each m (λ p. f p a)) (λ a l. true_each m (λ p. f p a) (λ p h. each_true n (λ a. f p a) (each_true m (λ p. each n (λ a. f p a)) e p h) a l)))
    (λ e. true_each m (λ p. each n (λ a. f p a)) (λ p h. true_each n (λ a. f p a) (λ a l. each_true m (λ p. f p a) (each_true n (λ a. each m (λ p. f p a)) e a l) p h)))

-- a test of a list's elements, by places
pub all_is_each : {A : Type 0} (t : A → Bool) (d : A) (xs : List A) → all t xs ≡ each (length xs) (λ k. t (get_or xs k d))
all_is_each {A} t d xs =
    iff (all t xs) (each (length xs) (λ k. t (get_or xs k d)))
    (λ e. true_each (length xs) (λ k. t (get_or xs k d)) (λ k l. all_at (λ (x : A). t x ≡ true) d xs (all_true t xs e) k l))
    (λ e. all_places t d xs (λ k l. each_true (length xs) (λ k. t (get_or xs k d)) e k l))

-- ---- how many numbers below n

pub tally_none : (f : ℕ → Bool) → tally 0 f ≡ 0
unfolding tally
tally_none f = refl

pub tally_next : (f : ℕ → Bool) (i : ℕ) → tally (i + 1) f ≡ pick (f i) (tally i f + 1) (tally i f)
unfolding tally
tally_next f i = ap (λ (n : ℕ). tally n f) (add-one i) ∙ ap (λ (n : ℕ). pick (f i) n (tally i f)) (sym (add-one (tally i f)))

-- the first number apart
pub tally_front : (n : ℕ) (f : ℕ → Bool) → tally (suc n) f ≡ pick (f 0) (suc (tally n (λ i. f (suc i)))) (tally n (λ i. f (suc i)))
unfolding tally
tally_front zero f = refl
tally_front (suc n) f =
    ap (λ (k : ℕ). pick (f (suc n)) (suc k) k) (tally_front n f) ∙ swapped (f 0) (f (suc n)) (tally n (λ i. f (suc i)))
  where
    swapped : (a b : Bool) (k : ℕ) → pick b (suc (pick a (suc k) k)) (pick a (suc k) k) ≡ pick a (suc (pick b (suc k) k)) (pick b (suc k) k)
    swapped true true k = refl
    swapped true false k = refl
    swapped false true k = refl
    swapped false false k = refl

pub tally_ext : (n : ℕ) (f g : ℕ → Bool) → ((i : ℕ) → f i ≡ g i) → tally n f ≡ tally n g
unfolding tally
tally_ext zero f g h = refl
tally_ext (suc n) f g h = ap₂ (λ (b : Bool) (k : ℕ). pick b (suc k) k) (h n) (tally_ext n f g h)

pub tally_few : (n : ℕ) (f : ℕ → Bool) → tally n f ≤ n
unfolding tally
tally_few zero f = omega arith
tally_few (suc n) f = step (tally_few n f) (f n)
  where
    step : tally n f ≤ n → (b : Bool) → pick b (suc (tally n f)) (tally n f) ≤ suc n
    step h true = omega arith
    step h false = omega arith

-- ---- equal lists

pub same_true : (xs ys : List ℕ) → same xs ys ≡ true → xs ≡ ys
unfolding same
same_true [] [] e = refl
same_true [] (y ∷ ys) e = absurd (false≢true e)
same_true (x ∷ xs) [] e = absurd (false≢true e)
same_true (x ∷ xs) (y ∷ ys) e =
    let h = and_true (eqb x y) (same xs ys) e in
    ap₂ (λ (a : ℕ) (t : List ℕ). a ∷ t) (eqb-true x y h.0) (same_true xs ys h.1)

pub same_refl : (xs : List ℕ) → same xs xs ≡ true
unfolding same
same_refl [] = refl
same_refl (x ∷ xs) = both_true (eqb x x) (same xs xs) (eq-eqb x x refl) (same_refl xs)

-- ---- ranges

pub within_low : (low high n : ℕ) → within low high n ≡ true → low ≤ n
within_low low high n e = leb-true low n (and_true (leb low n) (leb n high) e).0

pub within_high : (low high n : ℕ) → within low high n ≡ true → n ≤ high
within_high low high n e = leb-true n high (and_true (leb low n) (leb n high) e).1

-- ---- tests in a row

pub all_join : (t : ℕ → Bool) (xs ys : List ℕ) → all t (xs ++ ys) ≡ all t xs && all t ys
unfolding all
all_join t [] ys = refl
all_join t (x ∷ xs) ys = ap (λ (b : Bool). t x && b) (all_join t xs ys) ∙ sym (and_assoc (t x) (all t xs) (all t ys))

-- the last of them, and one before others
every_one : (a : Bool) → every (a ∷ []) ≡ a
unfolding every
every_one a = and_right a

pub every_before : (a r p : Bool) (bs : List Bool) → p ≡ every bs → r ≡ a && p → r ≡ every (a ∷ bs)
unfolding every
every_before a r p bs e f = f ∙ ap (λ (x : Bool). a && x) e

pub every_two : (a b r : Bool) → r ≡ a && b → r ≡ every (a ∷ b ∷ [])
every_two a b r e = every_before a r b (b ∷ []) (sym (every_one b)) e

pub every_three : (a b c r p : Bool) → p ≡ b && c → r ≡ a && p → r ≡ every (a ∷ b ∷ c ∷ [])
every_three a b c r p e f = every_before a r p (b ∷ c ∷ []) (every_two b c p e) f

-- three tests, one after the other
pub every_first : (a b c : Bool) → a ≡ false → every (a ∷ b ∷ c ∷ []) ≡ false
unfolding every
every_first a b c e = ap (λ (t : Bool). t && (b && (c && true))) e

pub every_second : (a b c : Bool) → a ≡ true → b ≡ false → every (a ∷ b ∷ c ∷ []) ≡ false
unfolding every
every_second a b c e f = ap₂ (λ (t u : Bool). t && (u && (c && true))) e f

pub every_last : (a b c : Bool) → a ≡ true → b ≡ true → every (a ∷ b ∷ c ∷ []) ≡ c
unfolding every
every_last a b c e f = ap₂ (λ (t u : Bool). t && (u && (c && true))) e f ∙ and_right c
