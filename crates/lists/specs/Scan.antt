-- Tests over a list, element by element.
use Rattle.std.specs.Prelude.{◌≡◌, refl, Bool, true, false, ◌&&◌, List, [], ◌∷◌, ℕ, ◌+◌, ◌<◌, leb, ltb, eqb, length, get_or, take}
use Rattle.std.proofs.Common.{sym, ap, ap₂, ◌∙◌, ⊎_elim, suc-ne-zero, add-one, arith, length-take-le}
use Rattle.std.proofs.Math.Nat.{suc_inj}
use Rattle.std.proofs.Math.Dec.{leb-zero}
use Rattle.std.proofs.Math.Seq.{take-length}
use Rattle.lists.specs.Choice.{and_assoc, tested, and_right}
use Rattle.lists.specs.Rising.{rising}
use Rattle.lists.specs.Tests.{all, same, same_true}
use Rattle.lists.specs.Snoc.{snoc, take_next}

and_swap : (a b c d : Bool) → (a && b) && (c && d) ≡ (a && c) && (b && d)
and_swap true true c d = refl
and_swap true false true d = refl
and_swap true false false d = refl
and_swap false b c d = refl

-- ---- a test of each element

pub all_snoc : {A : Type 0} (f : A → Bool) (xs : List A) (x : A) → all f (snoc xs x) ≡ all f xs && f x
unfolding all
all_snoc f [] x = and_right (f x)
all_snoc f (y ∷ ys) x = ap (λ (b : Bool). f y && b) (all_snoc f ys x) ∙ sym (and_assoc (f y) (all f ys) (f x))

pub all_next : (f : ℕ → Bool) (xs : List ℕ) (i : ℕ) → i < length xs → all f (take i xs) && f (get_or xs i 0) ≡ all f (take (i + 1) xs)
all_next f xs i h = sym (all_snoc f (take i xs) (get_or xs i 0)) ∙ ap (all f) (take_next 0 xs i h)

pub all_done : (f : ℕ → Bool) (xs : List ℕ) (i : ℕ) → i ≡ length xs → all f (take i xs) ≡ all f xs
all_done f xs i e = ap (λ (n : ℕ). all f (take n xs)) e ∙ ap (all f) (take-length xs)

-- ---- two lists

same_snoc : (xs ys : List ℕ) (x y : ℕ) → length xs ≡ length ys → same (snoc xs x) (snoc ys y) ≡ same xs ys && eqb x y
unfolding same
same_snoc [] [] x y e = and_right (eqb x y)
same_snoc [] (b ∷ ys) x y e = absurd (suc-ne-zero (length ys) (sym e))
same_snoc (a ∷ xs) [] x y e = absurd (suc-ne-zero (length xs) e)
same_snoc (a ∷ xs) (b ∷ ys) x y e =
    ap (λ (t : Bool). eqb a b && t) (same_snoc xs ys x y (suc_inj e)) ∙ sym (and_assoc (eqb a b) (same xs ys) (eqb x y))

pub same_next : (xs ys : List ℕ) (i : ℕ) → i < length xs → length xs ≡ length ys
    → same (take i xs) (take i ys) && eqb (get_or xs i 0) (get_or ys i 0) ≡ same (take (i + 1) xs) (take (i + 1) ys)
same_next xs ys i h e =
    sym (same_snoc (take i xs) (take i ys) (get_or xs i 0) (get_or ys i 0) (length-take-le i xs (omega arith) ∙ sym (length-take-le i ys (omega arith))))
    ∙ ap₂ same (take_next 0 xs i h) (take_next 0 ys i (omega arith))

pub same_done : (xs ys : List ℕ) (i : ℕ) → i ≡ length xs → length xs ≡ length ys → same (take i xs) (take i ys) ≡ same xs ys
same_done xs ys i h e =
    ap₂ same (ap (λ (n : ℕ). take n xs) h ∙ take-length xs) (ap (λ (n : ℕ). take n ys) (h ∙ e) ∙ take-length ys)

pub other_length : (xs ys : List ℕ) → (length xs ≡ length ys → ⊥) → same xs ys ≡ false
other_length xs ys h = ⊎_elim (λ e. absurd (h (ap length (same_true xs ys e)))) (λ e. e) (tested (same xs ys))

-- ---- rising indices below a bound

-- what the next element of a rising list is not below
abbrev pub after : List ℕ → ℕ
after [] = 0
after (x ∷ []) = x + 1
after (x ∷ y ∷ s) = after (y ∷ s)

after_snoc : (xs : List ℕ) (x : ℕ) → after (snoc xs x) ≡ x + 1
after_snoc [] x = refl
after_snoc (y ∷ []) x = refl
after_snoc (y ∷ z ∷ s) x = after_snoc (z ∷ s) x

rising_snoc : (xs : List ℕ) (x : ℕ) → rising (snoc xs x) ≡ rising xs && leb (after xs) x
unfolding rising
rising_snoc [] x = sym (leb-zero x)
rising_snoc (y ∷ []) x = and_right (ltb y x) ∙ ap (λ (n : ℕ). leb n x) (sym (add-one y))
rising_snoc (y ∷ z ∷ s) x =
    ap (λ (b : Bool). ltb y z && b) (rising_snoc (z ∷ s) x) ∙ sym (and_assoc (ltb y z) (rising (z ∷ s)) (leb (after (z ∷ s)) x))

-- both tests of some indices
abbrev pub placed : ℕ → List ℕ → Bool
placed n xs = rising xs && all (λ (i : ℕ). ltb i n) xs

placed_snoc : (n : ℕ) (xs : List ℕ) (x : ℕ) → placed n xs && (leb (after xs) x && ltb x n) ≡ placed n (snoc xs x)
placed_snoc n xs x =
    and_swap (rising xs) (all (λ (i : ℕ). ltb i n) xs) (leb (after xs) x) (ltb x n)
    ∙ sym (ap₂ ◌&&◌ (rising_snoc xs x) (all_snoc (λ (i : ℕ). ltb i n) xs x))

-- from the tests of xs, and the least that may follow, to those of xs with one more index
pub placed_next : (n : ℕ) (xs ys : List ℕ) (ok : Bool) (low x : ℕ) → snoc xs x ≡ ys → ok ≡ placed n xs → low ≡ after xs
    → (ok && (leb low x && ltb x n) ≡ placed n ys) × (x + 1 ≡ after ys)
placed_next n xs ys ok low x e h l =
    (ap₂ (λ (t : Bool) (k : ℕ). t && (leb k x && ltb x n)) h l ∙ placed_snoc n xs x ∙ ap (placed n) e, sym (after_snoc xs x) ∙ ap after e)
