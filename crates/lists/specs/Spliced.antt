-- A list in which the places from `at` on have been written over.
use Rattle.std.specs.Prelude.{◌≡◌, refl, get_or, drop, set}
use Rattle.std.proofs.Math.Path.{sym, ap, ap₂}
use Rattle.std.proofs.Common.{◌∙◌, subst, add-zero, mul-zero, mul-suc, add_assoc, mul-le-mul_left, le_of_lt, le_refl, add-one, length-drop, take-append-drop, take_at, drop_at, drop-drop, length-take-le}
use mathlib.Core.List.{List, [], ◌∷◌, ◌++◌, map, flatten, append_assoc, append-nil, map-append}
use Prim.Native.Nat.{ℕ, zero, suc, ◌+◌, ◌*◌, ◌/◌, ◌%◌, ◌≤◌, ◌<◌}
use native.Mathlib.Omega.{arith}
use Rattle.std.proofs.Math.ListN.{length, take, length-append}
use Rattle.std.proofs.lemmas.List.{set_split}
use Rattle.std.proofs.Math.Seq.{take-length, take-suc}
use Rattle.lists.specs.Pieces.{flatten-append}
use Rattle.lists.specs.Bytes.{Bytes, little_endian, bytes_of, bytes_of-append, length-bytes_of}
use Rattle.lists.specs.Snoc.{snoc, take_next}

-- with the n elements of p
abbrev pub spliced : {A : Type 0} → ℕ → ℕ → List A → List A → List A
spliced at n p o = take at o ++ (p ++ drop (at + n) o)

pub spliced_none : {A : Type 0} (at : ℕ) (o : List A) → o ≡ spliced at 0 [] o
spliced_none at o = sym (ap (λ (k : ℕ). take at o ++ drop k o) (add-zero at) ∙ take-append-drop at o)

module _ {A : Type 0} (at n : ℕ) (p o : List A) (e : length p ≡ n) (h : at + n ≤ length o) where
  front : length (take at o ++ p) ≡ at + n
  front = length-append (take at o) p ∙ ap₂ ◌+◌ (length-take-le at o (omega arith)) e

  pub length-spliced : length (spliced at n p o) ≡ length o
  length-spliced =
      ap length (sym (append_assoc (take at o) p (drop (at + n) o)))
      ∙ length-append (take at o ++ p) (drop (at + n) o)
      ∙ ap₂ ◌+◌ front (length-drop (at + n) o)
      ∙ omega arith

  -- and k more after them
  pub spliced_more : (k : ℕ) (r : List A) → spliced (at + n) k r (spliced at n p o) ≡ spliced at (n + k) (p ++ r) o
  spliced_more k r =
      let rest : List A = drop (at + n) o in
      let s : at + n + k ≡ at + (n + k) = omega arith in
      let whole : spliced at n p o ≡ (take at o ++ p) ++ rest = sym (append_assoc (take at o) p rest) in
      ap₂ (λ (a b : List A). a ++ (r ++ b))
      (ap (take (at + n)) whole ∙ take_at (take at o ++ p) rest (at + n) front)
      (sym (drop-drop k (at + n) (spliced at n p o)) ∙ ap (λ (l : List A). drop k (drop (at + n) l)) whole
      ∙ ap (drop k) (drop_at (take at o ++ p) rest (at + n) front) ∙ drop-drop k (at + n) o ∙ ap (λ (i : ℕ). drop i o) s)
      ∙ append_assoc (take at o) p (r ++ drop (at + (n + k)) o)
      ∙ ap (λ (l : List A). take at o ++ l) (sym (append_assoc p r (drop (at + (n + k)) o)))

-- one store
pub set-spliced : {A : Type 0} (i : ℕ) (v : A) (o : List A) → i < length o → set o i v ≡ spliced i 1 (v ∷ []) o
set-spliced {A} i v o h = set_split o i v h ∙ ap (λ (k : ℕ). take i o ++ (v ∷ drop k o)) (sym (add-one i))

spliced_next : {A : Type 0} (at n : ℕ) (p o : List A) (v : A) → length p ≡ n → at + n < length o
    → set (spliced at n p o) (at + n) v ≡ spliced at (n + 1) (snoc p v) o
spliced_next at n p o v e h =
    set-spliced (at + n) v (spliced at n p o) (omega (arith, length-spliced at n p o e (omega arith)))
    ∙ spliced_more at n p o e (omega arith) 1 (v ∷ [])

-- ---- a list copied element by element

pub copy_next : (at i : ℕ) (s o : List ℕ) → i < length s → at + length s ≤ length o
    → set (spliced at i (take i s) o) (at + i) (get_or s i 0) ≡ spliced at (i + 1) (take (i + 1) s) o
copy_next at i s o l h =
    spliced_next at i (take i s) o (get_or s i 0) (length-take-le i s (omega arith)) (omega arith)
    ∙ ap (λ (p : List ℕ). spliced at (i + 1) p o) (take_next 0 s i l)

pub copy_done : (at i : ℕ) (s o : List ℕ) → i ≡ length s → spliced at i (take i s) o ≡ spliced at (length s) s o
copy_done at i s o e = ap₂ (λ (n : ℕ) (p : List ℕ). spliced at n p o) e (ap (λ (n : ℕ). take n s) e ∙ take-length s)

-- ---- a word's four bytes

pub word_bytes : (x : ℕ) → little_endian 4 x ≡ x % 256 ∷ x / 256 % 256 ∷ x / 65536 % 256 ∷ x / 16777216 % 256 ∷ []
unfolding little_endian
word_bytes x =
    let e₂ : x / 256 / 256 % 256 ≡ x / 65536 % 256 = omega arith in
    let e₃ : x / 256 / 256 / 256 % 256 ≡ x / 16777216 % 256 = omega arith in
    ap₂ (λ (a b : ℕ). x % 256 ∷ x / 256 % 256 ∷ a ∷ b ∷ []) e₂ e₃

pub word_stores : (at a b c d : ℕ) (o : List ℕ) → at + 4 ≤ length o
    → set (set (set (set o at a) (at + 1) b) (at + 2) c) (at + 3) d ≡ spliced at 4 (a ∷ b ∷ c ∷ d ∷ []) o
word_stores at a b c d o h =
    ap (λ (l : List ℕ). set (set (set l (at + 1) b) (at + 2) c) (at + 3) d) (set-spliced at a o (omega arith))
    ∙ ap (λ (l : List ℕ). set (set l (at + 2) c) (at + 3) d) (spliced_next at 1 (a ∷ []) o b refl (omega arith))
    ∙ ap (λ (l : List ℕ). set l (at + 3) d) (spliced_next at 2 (a ∷ b ∷ []) o c refl (omega arith))
    ∙ spliced_next at 3 (a ∷ b ∷ c ∷ []) o d refl (omega arith)

-- ---- the two bytes of a number below 65536

pub half_bytes : (x : ℕ) → little_endian 2 x ≡ x % 256 ∷ x / 256 % 256 ∷ []
unfolding little_endian
half_bytes x = refl

pub half_stores : (at a b : ℕ) (o : List ℕ) → at + 2 ≤ length o → set (set o at a) (at + 1) b ≡ spliced at 2 (a ∷ b ∷ []) o
half_stores at a b o h = ap (λ (l : List ℕ). set l (at + 1) b) (set-spliced at a o (omega arith)) ∙ spliced_next at 1 (a ∷ []) o b refl (omega arith)

-- ---- words written one by one

pub words_next : (at i : ℕ) (s : List ℕ) (o : Bytes) → i < length s → at + 4 * length s ≤ length o
    → spliced (at + 4 * i) 4 (little_endian 4 (get_or s i 0)) (spliced at (4 * i) (bytes_of (take i s)) o) ≡ spliced at (4 * (i + 1)) (bytes_of (take (i + 1) s)) o
unfolding flatten
words_next at i s o l h =
    let e : 4 * i + 4 ≡ 4 * (i + 1) = omega arith in
    let n : length (bytes_of (take i s)) ≡ 4 * i = length-bytes_of (take i s) ∙ ap (λ (k : ℕ). 4 * k) (length-take-le i s (omega arith)) in
    spliced_more at (4 * i) (bytes_of (take i s)) o n (omega arith) 4 (little_endian 4 (get_or s i 0))
    ∙ ap₂ (λ (k : ℕ) (p : Bytes). spliced at k p o) e
    (ap (λ (t : Bytes). bytes_of (take i s) ++ t) (sym (append-nil (little_endian 4 (get_or s i 0))))
    ∙ sym (bytes_of-append (take i s) (get_or s i 0 ∷ [])) ∙ ap bytes_of (take_next 0 s i l))

pub words_done : (at i : ℕ) (s : List ℕ) (o : Bytes) → i ≡ length s → spliced at (4 * i) (bytes_of (take i s)) o ≡ spliced at (4 * length s) (bytes_of s) o
words_done at i s o e = ap₂ (λ (n : ℕ) (p : List ℕ). spliced at (4 * n) (bytes_of p) o) e (ap (λ (n : ℕ). take n s) e ∙ take-length s)

-- ---- for each of some numbers its record, all of one size

module _ (g : ℕ → Bytes) (xs : List ℕ) (size at : ℕ) (o : Bytes) where
  -- the buffer with the first k of them
  unfoldable pub up_to : ℕ → Bytes
  up_to k = spliced at (size * k) (flatten (map g (take k xs))) o

  pub up_to_none : o ≡ up_to 0
  unfolding up_to flatten
  up_to_none = spliced_none at o ∙ ap (λ (k : ℕ). spliced at k [] o) (sym (mul-zero size))

  pub up_to_all : (k : ℕ) → k ≡ length xs → up_to k ≡ spliced at (size * length xs) (flatten (map g xs)) o
  unfolding up_to
  up_to_all k e = ap₂ (λ (n : ℕ) (ys : List ℕ). spliced at (size * n) (flatten (map g ys)) o) e (ap (λ (n : ℕ). take n xs) e ∙ take-length xs)

  module _ (sized : (k : ℕ) → k < length xs → length (g (get_or xs k 0)) ≡ size) (room : at + size * length xs ≤ length o) where
    next : (k : ℕ) → k < length xs → flatten (map g (take (k + 1) xs)) ≡ flatten (map g (take k xs)) ++ g (get_or xs k 0)
    unfolding flatten
    next k l =
        ap (λ (ys : List ℕ). flatten (map g ys)) (ap (λ (n : ℕ). take n xs) (add-one k) ∙ take-suc xs k 0 l)
        ∙ ap flatten (map-append g (take k xs) (get_or xs k 0 ∷ []))
        ∙ flatten-append (map g (take k xs)) (g (get_or xs k 0) ∷ [])
        ∙ ap (λ (t : Bytes). flatten (map g (take k xs)) ++ t) (append-nil (g (get_or xs k 0)))

    so_far : (k : ℕ) → k ≤ length xs → length (flatten (map g (take k xs))) ≡ size * k
    unfolding flatten
    so_far zero l = sym (mul-zero size)
    so_far (suc k) l =
        ap (λ (n : ℕ). length (flatten (map g (take n xs)))) (sym (add-one k))
        ∙ ap length (next k l)
        ∙ length-append (flatten (map g (take k xs))) (g (get_or xs k 0))
        ∙ ap₂ ◌+◌ (so_far k (le_of_lt l)) (sized k l)
        ∙ sym (mul-suc size k)

    pub all_length : length (flatten (map g xs)) ≡ size * length xs
    all_length = ap (λ (ys : List ℕ). length (flatten (map g ys))) (sym (take-length xs)) ∙ so_far (length xs) (le_refl (length xs))

    fits : (k : ℕ) → k ≤ length xs → at + size * k ≤ length o
    fits k l = omega (arith, mul-le-mul_left size l)

    up_to_length : (k : ℕ) → k ≤ length xs → length (up_to k) ≡ length o
    unfolding up_to
    up_to_length k l = length-spliced at (size * k) (flatten (map g (take k xs))) o (so_far k l) (fits k l)

    pub up_to_room : (k : ℕ) → k < length xs → at + size * k + size ≤ length o
    up_to_room k l = subst (λ (n : ℕ). n ≤ length o) (ap (λ (n : ℕ). at + n) (mul-suc size k) ∙ sym (add_assoc at (size * k) size)) (fits (suc k) l)

    up_to_next : (k : ℕ) → k < length xs → spliced (at + size * k) size (g (get_or xs k 0)) (up_to k) ≡ up_to (k + 1)
    unfolding up_to
    up_to_next k l =
        let e : size * k + size ≡ size * (k + 1) = omega arith in
        spliced_more at (size * k) (flatten (map g (take k xs))) o (so_far k (le_of_lt l)) (fits k (le_of_lt l)) size (g (get_or xs k 0))
        ∙ ap₂ (λ (n : ℕ) (x : Bytes). spliced at n x o) e (sym (next k l))

    -- a turn of the loop that writes them
    pub up_to_turn : (k : ℕ) (now new : Bytes) → k < length xs → now ≡ up_to k → new ≡ spliced (at + size * k) size (g (get_or xs k 0)) now
        → (new ≡ up_to (k + 1)) × (length new ≡ length o)
    up_to_turn k now new l e f =
        let r : new ≡ up_to (k + 1) = f ∙ ap (spliced (at + size * k) size (g (get_or xs k 0))) e ∙ up_to_next k l in
        (r, ap length r ∙ up_to_length (k + 1) (subst (λ (n : ℕ). n ≤ length xs) (sym (add-one k)) l))
