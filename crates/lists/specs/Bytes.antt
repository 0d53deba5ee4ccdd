-- Bytes, numbers as bytes with the lowest first, and words of four bytes.
use Rattle.std.specs.Prelude.{◌≡◌, refl, ℕ, zero, suc, ◌+◌, ◌*◌, ◌/◌, ◌%◌, ◌^◌, ◌≤◌, ◌<◌, length, get_or, take, drop}
use Rattle.std.proofs.Common.{sym, ap, ap₂, ◌∙◌, subst, pow-suc, arith, length-drop, drop-cons, drop-drop, take-take, take-add, take_all, length-take-le}
use mathlib.Core.List.{List, [], ◌∷◌, ◌++◌, map, flatten, append_assoc}
use Rattle.std.proofs.Math.Nat.{pow-zero}
use Rattle.std.proofs.lemmas.List.{length-map}
use Rattle.lists.specs.All.{Below, Sized}
use Rattle.lists.specs.Number.{number, number_append}
use Rattle.lists.specs.Maps.{get_or-map_in}
use Rattle.lists.specs.Pieces.{pieces, piece, length-pieces, pieces_at, pieces-flatten, length-flatten, drop-take}

abbrev pub Bytes : Type 0
Bytes = List ℕ

-- the number that some bytes stand for
abbrev pub from_bytes : Bytes → ℕ
from_bytes x = number 256 x

-- the k bytes of a number
unfoldable pub little_endian : ℕ → ℕ → Bytes
little_endian zero n = []
little_endian (suc k) n = n % 256 ∷ little_endian k (n / 256)

-- n numbers of two bytes each, of four bytes each, of eight bytes each
abbrev pub halves : ℕ → Bytes → List ℕ
halves n x = map from_bytes (pieces 2 n x)

abbrev pub words : ℕ → Bytes → List ℕ
words n x = map from_bytes (pieces 4 n x)

abbrev pub doubles : ℕ → Bytes → List ℕ
doubles n x = map from_bytes (pieces 8 n x)

-- words as bytes, four each
abbrev pub bytes_of : List ℕ → Bytes
bytes_of xs = flatten (map (little_endian 4) xs)

-- words below 2^32
abbrev pub Small : List ℕ → Type 0
Small xs = Below 4294967296 xs

pub length-words : (n : ℕ) (x : Bytes) → length (words n x) ≡ n
length-words n x = length-map (pieces 4 n x) from_bytes ∙ length-pieces 4 n x

pub length-little_endian : (k n : ℕ) → length (little_endian k n) ≡ k
unfolding little_endian
length-little_endian zero n = refl
length-little_endian (suc k) n = ap suc (length-little_endian k (n / 256))

pub number-little_endian : (k n : ℕ) → n < 256 ^ k → from_bytes (little_endian k n) ≡ n
unfolding number little_endian
number-little_endian zero n l = omega (arith, pow-zero 256)
number-little_endian (suc k) n l = ap (λ (t : ℕ). n % 256 + 256 * t) (number-little_endian k (n / 256) (omega (arith, pow-suc 256 k))) ∙ omega arith

-- numbers of k bytes each, written and read back
bytes-sized : (k : ℕ) (xs : List ℕ) → Sized k (map (little_endian k) xs)
bytes-sized k [] = tt
bytes-sized k (x ∷ xs) = (length-little_endian k x, bytes-sized k xs)

back : (k : ℕ) (xs : List ℕ) → Below (256 ^ k) xs → map from_bytes (map (little_endian k) xs) ≡ xs
back k [] h = refl
back k (x ∷ xs) h = ap₂ (λ (a : ℕ) (t : List ℕ). a ∷ t) (number-little_endian k x h.0) (back k xs h.1)

pub numbers-back : (k : ℕ) (xs : List ℕ) (rest : Bytes) → Below (256 ^ k) xs → map from_bytes (pieces k (length xs) (flatten (map (little_endian k) xs) ++ rest)) ≡ xs
numbers-back k xs rest h =
    ap (λ (n : ℕ). map from_bytes (pieces k n (flatten (map (little_endian k) xs) ++ rest))) (sym (length-map xs (little_endian k)))
    ∙ ap (map from_bytes) (pieces-flatten k (map (little_endian k) xs) rest (bytes-sized k xs))
    ∙ back k xs h

pub length-numbers : (k : ℕ) (xs : List ℕ) → length (flatten (map (little_endian k) xs)) ≡ k * length xs
length-numbers k xs = length-flatten k (map (little_endian k) xs) (bytes-sized k xs) ∙ ap (λ (n : ℕ). k * n) (length-map xs (little_endian k))

pub words-bytes_of : (xs : List ℕ) (rest : Bytes) → Small xs → words (length xs) (bytes_of xs ++ rest) ≡ xs
words-bytes_of xs rest h = numbers-back 4 xs rest h

pub length-bytes_of : (xs : List ℕ) → length (bytes_of xs) ≡ 4 * length xs
length-bytes_of xs = length-numbers 4 xs

pub bytes_of-append : (xs ys : List ℕ) → bytes_of (xs ++ ys) ≡ bytes_of xs ++ bytes_of ys
unfolding flatten
bytes_of-append [] ys = refl
bytes_of-append (x ∷ xs) ys = ap (λ (t : Bytes). little_endian 4 x ++ t) (bytes_of-append xs ys) ∙ sym (append_assoc (little_endian 4 x) (bytes_of xs) (bytes_of ys))

-- ---- the next bytes of a string from `at` on, or those left, as one number

-- j bytes, and then k or those left
bytes-split : (j k at : ℕ) (x : Bytes) → at + j ≤ length x
    → from_bytes (take (j + k) (drop at x)) ≡ from_bytes (take j (drop at x)) + 256 ^ j * from_bytes (take k (drop (at + j) x))
bytes-split j k at x h =
    let fit : j ≤ length (drop at x) = omega (arith, length-drop at x) in
    ap from_bytes (take-add j k (drop at x) ∙ ap (λ (y : Bytes). take j (drop at x) ++ take k y) (drop-drop j at x))
    ∙ number_append 256 (take j (drop at x)) (take k (drop (at + j) x))
    ∙ ap (λ (n : ℕ). from_bytes (take j (drop at x)) + 256 ^ n * from_bytes (take k (drop (at + j) x))) (length-take-le j (drop at x) fit)

-- lo of j bytes and hi of the k after them, or of those left, put together
pub bytes-joined : (j k at : ℕ) (x : Bytes) {r lo hi : ℕ} → at + j ≤ length x → r ≡ lo + 256 ^ j * hi → lo ≡ from_bytes (take j (drop at x))
    → hi ≡ from_bytes (take k (drop (at + j) x)) → r ≡ from_bytes (take (j + k) (drop at x))
bytes-joined j k at x h e low high = e ∙ ap₂ (λ (l m : ℕ). l + 256 ^ j * m) low high ∙ sym (bytes-split j k at x h)

-- where at most j are left, no more than j are taken
pub bytes_left : (j k at : ℕ) (x : Bytes) → length x ≤ at + j → j ≤ k → from_bytes (take k (drop at x)) ≡ from_bytes (take j (drop at x))
bytes_left j k at x h l =
    let few : length (drop at x) ≤ j = omega (arith, length-drop at x) in
    ap from_bytes (take_all k (drop at x) (omega arith) ∙ sym (take_all j (drop at x) few))

-- ---- single words

words_at_lem : (n i : ℕ) (x : Bytes) → i < n → get_or (words n x) i 0 ≡ from_bytes (piece 4 i x)
words_at_lem n i x l =
    get_or-map_in from_bytes (pieces 4 n x) i [] 0 (subst (λ (k : ℕ). i < k) (sym (length-pieces 4 n x)) l) ∙ ap from_bytes (pieces_at 4 n i x l)

pub word_from : (n at i : ℕ) (x : Bytes) → i < n → get_or (words n (drop at x)) i 0 ≡ from_bytes (take 4 (drop (at + 4 * i) x))
word_from n at i x l = words_at_lem n i (drop at x) l ∙ ap (λ (y : Bytes). from_bytes (take 4 y)) (drop-drop (4 * i) at x)

pub one_byte : (a : ℕ) (x : Bytes) → a < length x → from_bytes (take 1 (drop a x)) ≡ get_or x a 0
unfolding number
one_byte a x l = ap (λ (y : Bytes). from_bytes (take 1 y)) (drop-cons x a 0 l) ∙ omega arith

pub two_bytes : (a : ℕ) (x : Bytes) → a + 2 ≤ length x → from_bytes (take 2 (drop a x)) ≡ get_or x a 0 + 256 * (get_or x (a + 1) 0 + 256 * 0)
two_bytes a x l = omega (arith, bytes-split 1 1 a x (omega arith), one_byte a x (omega arith), one_byte (a + 1) x (omega arith))

pub four_bytes : (a : ℕ) (x : Bytes) → a + 4 ≤ length x
    → from_bytes (take 4 (drop a x)) ≡ get_or x a 0 + 256 * (get_or x (a + 1) 0 + 256 * (get_or x (a + 2) 0 + 256 * (get_or x (a + 3) 0 + 256 * 0)))
four_bytes a x l =
    let last : get_or x (a + 2 + 1) 0 ≡ get_or x (a + 3) 0 = let e : a + 2 + 1 ≡ a + 3 = omega arith in ap (λ (i : ℕ). get_or x i 0) e in
    omega (arith, bytes-split 2 2 a x (omega arith), two_bytes a x (omega arith), two_bytes (a + 2) x (omega arith), last)

-- words of a piece that holds them all
pub words_of_piece : (n : ℕ) (x : Bytes) → words n (take (4 * n) x) ≡ words n x
unfolding pieces
words_of_piece zero x = refl
words_of_piece (suc n) x =
    let e : 4 * suc n ≡ 4 + 4 * n = omega arith in
    ap₂ (λ (a : ℕ) (t : List ℕ). a ∷ t)
    (ap from_bytes (take-take 4 (4 * suc n) x (omega arith)))
    (ap (λ (y : Bytes). map from_bytes (pieces 4 n y)) (ap (λ (k : ℕ). drop 4 (take k x)) e ∙ drop-take 4 (4 * n) x) ∙ words_of_piece n (drop 4 x))

-- of lists one after the other
pub bytes_of-flatten : (f : ℕ → List ℕ) (xs : List ℕ) → flatten (map (λ x. bytes_of (f x)) xs) ≡ bytes_of (flatten (map f xs))
unfolding flatten
bytes_of-flatten f [] = refl
bytes_of-flatten f (x ∷ xs) = ap (λ (t : Bytes). bytes_of (f x) ++ t) (bytes_of-flatten f xs) ∙ sym (bytes_of-append (f x) (flatten (map f xs)))
