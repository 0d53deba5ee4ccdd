-- A list cut into pieces of one length, and such pieces put together.
use Rattle.std.specs.Prelude.{◌≡◌, refl, ℕ, zero, suc, ◌+◌, ◌-◌, ◌*◌, ◌≤◌, ◌<◌, length, get_or, take, drop}
use Rattle.std.proofs.Common.{sym, ap, ap₂, ◌∙◌, subst, not-suc-le-zero, le_of_suc-le-suc, mul-suc, mul-zero, suc-ne-zero, zero-add, suc-add, arith, length-append, length-drop, take-append-drop, take_at, drop_at, drop-drop, length-take-le, get_or-append-add}
use mathlib.Core.List.{List, [], ◌∷◌, ◌++◌, flatten, append_assoc, map}
use Rattle.std.proofs.Math.Nat.{sub-zero, zero-sub, suc-sub-suc, suc_inj}
use Rattle.std.proofs.Math.ListN.{get_or-append}
use Rattle.std.proofs.Math.Seq.{take-nil}
use Rattle.std.proofs.lemmas.List.{take-append-le, drop-append-le}
use Rattle.lists.specs.All.{Sized}
use Rattle.lists.specs.Range.{up_from}

-- the first n pieces of k elements each, one after the other
unfoldable pub pieces : {A : Type 0} → ℕ → ℕ → List A → List (List A)
pieces k zero x = []
pieces k (suc n) x = take k x ∷ pieces k n (drop k x)

-- piece i of them, from 0
abbrev pub piece : {A : Type 0} → ℕ → ℕ → List A → List A
piece k i x = take k (drop (k * i) x)

pub length-pieces : {A : Type 0} (k n : ℕ) (x : List A) → length (pieces k n x) ≡ n
unfolding pieces
length-pieces k zero x = refl
length-pieces k (suc n) x = ap suc (length-pieces k n (drop k x))

piece_next : {A : Type 0} (k i : ℕ) (x : List A) → drop (k * i) (drop k x) ≡ drop (k * suc i) x
piece_next k i x = let e : k + k * i ≡ k * suc i = omega arith in drop-drop (k * i) k x ∙ ap (λ (j : ℕ). drop j x) e

pub pieces_at : {A : Type 0} (k n i : ℕ) (x : List A) → i < n → get_or (pieces k n x) i [] ≡ piece k i x
unfolding pieces
pieces_at k zero i x l = absurd (not-suc-le-zero l)
pieces_at k (suc n) zero x l = let e : 0 ≡ k * 0 = omega arith in ap (λ (j : ℕ). take k (drop j x)) e
pieces_at k (suc n) (suc i) x l = pieces_at k n i (drop k x) (le_of_suc-le-suc l) ∙ ap (take k) (piece_next k i x)

pub drop-pieces : {A : Type 0} (k n j : ℕ) (x : List A) → drop j (pieces k n x) ≡ pieces k (n - j) (drop (k * j) x)
unfolding pieces
drop-pieces k n zero x = rw (sub-zero n, mul-zero k)
drop-pieces k zero (suc j) x = rw (zero-sub (suc j))
drop-pieces {A} k (suc n) (suc j) x = drop-pieces k n j (drop k x) ∙ ap₂ (λ (i : ℕ) (y : List A). pieces k i y) (sym (suc-sub-suc n j)) (piece_next k j x)

pub pieces-sized : {A : Type 0} (k n : ℕ) (x : List A) → k * n ≤ length x → Sized k (pieces k n x)
unfolding pieces
pieces-sized k zero x l = tt
pieces-sized k (suc n) x l = (length-take-le k x (omega (arith, mul-suc k n)), pieces-sized k n (drop k x) (omega (arith, mul-suc k n, length-drop k x)))

pub flatten-pieces : {A : Type 0} (k n : ℕ) (x : List A) → length x ≡ k * n → flatten (pieces k n x) ≡ x
unfolding pieces flatten
flatten-pieces k zero [] h = refl
flatten-pieces k zero (y ∷ x) h = absurd (suc-ne-zero (length x) (h ∙ mul-zero k))
flatten-pieces {A} k (suc n) x h =
    ap (λ (r : List A). take k x ++ r) (flatten-pieces k n (drop k x) (omega (arith, length-drop k x, mul-suc k n))) ∙ take-append-drop k x

pub pieces-flatten : {A : Type 0} (k : ℕ) (xs : List (List A)) (rest : List A) → Sized k xs → pieces k (length xs) (flatten xs ++ rest) ≡ xs
unfolding pieces flatten
pieces-flatten k [] rest h = refl
pieces-flatten {A} k (x ∷ xs) rest h =
    rw (append_assoc x (flatten xs) rest)
    (ap₂ (λ (a : List A) (t : List (List A)). a ∷ t) (take_at x (flatten xs ++ rest) k h.0)
    (ap (pieces k (length xs)) (drop_at x (flatten xs ++ rest) k h.0) ∙ pieces-flatten k xs rest h.1))

pub length-flatten : {A : Type 0} (k : ℕ) (xs : List (List A)) → Sized k xs → length (flatten xs) ≡ k * length xs
unfolding flatten
length-flatten k [] h = omega arith
length-flatten k (x ∷ xs) h = length-append x (flatten xs) ∙ ap₂ ◌+◌ h.0 (length-flatten k xs h.1) ∙ omega arith

pub flatten-append : {A : Type 0} (xs ys : List (List A)) → flatten (xs ++ ys) ≡ flatten xs ++ flatten ys
unfolding flatten
flatten-append [] ys = refl
flatten-append {A} (x ∷ xs) ys = ap (λ (t : List A). x ++ t) (flatten-append xs ys) ∙ sym (append_assoc x (flatten xs) (flatten ys))

-- pieces of one length can be told apart again
pub flatten_inj : {A : Type 0} (n : ℕ) (xs ys : List (List A)) → Sized n xs → Sized n ys → length xs ≡ length ys → flatten xs ≡ flatten ys → xs ≡ ys
unfolding flatten
flatten_inj n [] [] hx hy l e = refl
flatten_inj n [] (y ∷ ys) hx hy l e = absurd (suc-ne-zero (length ys) (sym l))
flatten_inj n (x ∷ xs) [] hx hy l e = absurd (suc-ne-zero (length xs) l)
flatten_inj {A} n (x ∷ xs) (y ∷ ys) hx hy l e =
    ap₂ (λ (a : List A) (r : List (List A)). a ∷ r)
    (sym (take_at x (flatten xs) n hx.0) ∙ ap (take n) e ∙ take_at y (flatten ys) n hy.0)
    (flatten_inj n xs ys hx.1 hy.1 (suc_inj l)
    (sym (drop_at x (flatten xs) n hx.0) ∙ ap (drop n) e ∙ drop_at y (flatten ys) n hy.0))

pub get_or-flatten : {A : Type 0} (k : ℕ) (xs : List (List A)) (p i : ℕ) (d : A) → Sized k xs → p < length xs → i < k
    → get_or (flatten xs) (p * k + i) d ≡ get_or (get_or xs p []) i d
unfolding flatten
get_or-flatten k [] p i d h l m = absurd (not-suc-le-zero l)
get_or-flatten k (x ∷ xs) zero i d h l m =
    let e : zero * k + i ≡ i = omega arith in
    ap (λ (j : ℕ). get_or (x ++ flatten xs) j d) e ∙ get_or-append x (flatten xs) d i (subst (λ (n : ℕ). i < n) (sym h.0) m)
get_or-flatten k (x ∷ xs) (suc p) i d h l m =
    let e : suc p * k + i ≡ length x + (p * k + i) = omega (arith, h.0) in
    ap (λ (j : ℕ). get_or (x ++ flatten xs) j d) e ∙ get_or-append-add x (flatten xs) (p * k + i) d ∙ get_or-flatten k xs p i d h.1 (le_of_suc-le-suc l) m

-- ---- pieces of the front of a list

pub pieces-take : {A : Type 0} (k n : ℕ) (x y : List A) → length x ≡ k * n → pieces k n (x ++ y) ≡ pieces k n x
unfolding pieces
pieces-take k zero x y h = refl
pieces-take {A} k (suc n) x y h =
    ap₂ (λ (d : List A) (r : List (List A)). d ∷ r) (take-append-le k x y (omega (arith, mul-suc k n)))
    (ap (pieces k n) (drop-append-le k x y (omega (arith, mul-suc k n))) ∙ pieces-take k n (drop k x) y (omega (arith, length-drop k x, mul-suc k n)))

pub pieces_front : {A : Type 0} (k n : ℕ) (x : List A) → k * n ≤ length x → pieces k n (take (k * n) x) ≡ pieces k n x
pieces_front k n x h =
    sym (pieces-take k n (take (k * n) x) (drop (k * n) x) (length-take-le (k * n) x h)) ∙ ap (pieces k n) (take-append-drop (k * n) x)

pub pieces-snoc : {A : Type 0} (k n : ℕ) (x : List A) → pieces k (suc n) x ≡ pieces k n x ++ (piece k n x ∷ [])
unfolding pieces
pieces-snoc {A} k zero x = let e : 0 ≡ k * 0 = omega arith in ap (λ (j : ℕ). take k (drop j x) ∷ []) e
pieces-snoc {A} k (suc n) x =
    ap (λ (r : List (List A)). take k x ∷ r)
    (pieces-snoc k n (drop k x) ∙ ap (λ (y : List A). pieces k n (drop k x) ++ (take k y ∷ [])) (piece_next k n x))

pub drop-take : {A : Type 0} (a b : ℕ) (y : List A) → drop a (take (a + b) y) ≡ take b (drop a y)
drop-take zero b y = ap (λ (k : ℕ). take k y) (zero-add b)
drop-take (suc a) b [] = ap (drop (suc a)) (take-nil (suc a + b)) ∙ sym (take-nil b)
drop-take (suc a) b (x ∷ y) = ap (λ (k : ℕ). drop (suc a) (take k (x ∷ y))) (suc-add a b) ∙ drop-take a b y

-- pieces one by one
pub pieces-run : (k a n : ℕ) (x : List ℕ) → map (λ j. piece k j x) (up_from a n) ≡ pieces k n (drop (k * a) x)
unfolding up_from pieces
pieces-run k a zero x = refl
pieces-run k a (suc n) x =
    let e : k * suc a ≡ k * a + k = omega arith in
    ap (λ (t : List (List ℕ)). piece k a x ∷ t)
    (pieces-run k (suc a) n x ∙ ap (λ (m : ℕ). pieces k n (drop m x)) e ∙ ap (pieces k n) (sym (drop-drop k (k * a) x)))
