-- What is left of a list from a place on; one number more of a range, fewer pieces of a list.
use mathlib.Core.List.Memᴰ.{head as here, tail as there}
use mathlib.Core.List.{List, [], ◌∷◌, ◌++◌, Memᴰ as Mem, tail}
use Rattle.std.specs.Prelude.{◌≡◌, refl, ℕ, zero, suc, ◌+◌, ◌≤◌, ◌<◌, ◌-◌, length, take, drop}
use Rattle.std.proofs.Common.{sym, ap, ◌∙◌, zero-add, not-suc-le-zero, zero-lt-suc, le_of_suc-le-suc, add-one, arith, drop-drop}
use Rattle.lists.specs.Bytes.{Bytes}
use Rattle.lists.specs.Pieces.{pieces}
use Rattle.lists.specs.Range.{up_from-snoc, up_from}
use Rattle.lists.specs.Rising.{Rising}

pub rising-drop : (a : ℕ) (s : List ℕ) → Rising s → Rising (drop a s)
rising-drop zero s r = r
rising-drop (suc a) [] r = r
rising-drop (suc a) (i ∷ s) r = rising-drop a s r.1

pub in_length : {A : Type 0} {a : A} {l : List A} → Mem a l → zero < length l
in_length (here {xs = l} e) = zero-lt-suc (length l)
in_length (there {xs = l} m) = zero-lt-suc (length l)

pub tail-drop : {A : Type 0} (l : List A) (a : ℕ) → tail (drop a l) ≡ drop (a + 1) l
tail-drop {A = A} l a = go l a ∙ ap (λ (k : ℕ). drop k l) (sym (add-one a))
  where
    go : (l : List A) (a : ℕ) → tail (drop a l) ≡ drop (suc a) l
    go [] zero = refl
    go (x ∷ l) zero = refl
    go [] (suc a) = refl
    go (x ∷ l) (suc a) = go l a

-- lists that agree from i on agree from any later place on
pub drop_later : (x y : Bytes) (i j : ℕ) → i ≤ j → drop i x ≡ drop i y → drop j x ≡ drop j y
drop_later x y i j h e =
    let q : i + (j - i) ≡ j = omega arith in
    ap (λ (k : ℕ). drop k x) (sym q) ∙ sym (drop-drop (j - i) i x) ∙ ap (drop (j - i)) e ∙ drop-drop (j - i) i y ∙ ap (λ (k : ℕ). drop k y) q

pub first_snoc : (n : ℕ) → up_from 0 (n + 1) ≡ up_from 0 n ++ (n ∷ [])
first_snoc n = ap (up_from 0) (add-one n) ∙ up_from-snoc 0 n ∙ ap (λ (k : ℕ). up_from 0 n ++ (k ∷ [])) (zero-add n)

pub take-pieces : {A : Type 0} (k n m : ℕ) (x : List A) → n ≤ m → take n (pieces k m x) ≡ pieces k n x
unfolding pieces
take-pieces k zero m x h = refl
take-pieces k (suc n) zero x h = absurd (not-suc-le-zero h)
take-pieces {A} k (suc n) (suc m) x h = ap (λ (r : List (List A)). take k x ∷ r) (take-pieces k n m (drop k x) (le_of_suc-le-suc h))
