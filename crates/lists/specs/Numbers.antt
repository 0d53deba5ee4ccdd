-- Numbers of k bytes each, read one by one.
use Rattle.std.specs.Prelude.{◌≡◌, List, [], ◌∷◌, ◌++◌, map, ℕ, zero, suc, ◌+◌, ◌*◌, ◌≤◌, ◌<◌, length, get_or, take, drop, set}
use Rattle.std.proofs.Common.{sym, ap, ap₂, ◌∙◌, mul-zero, zero-add, suc-add, add-one, arith, drop-drop, drop-cons, take_at}
use Rattle.std.proofs.lemmas.List.{map-append, length-map, set_at}
use Rattle.std.proofs.Math.Seq.{append_snoc}
use Rattle.lists.specs.Bytes.{Bytes, from_bytes, words, length-words, two_bytes, four_bytes}
use Rattle.lists.specs.Rows.{rows_of, rows_none, rows_next, row_of}
use Rattle.lists.specs.Pieces.{pieces, piece, length-pieces, pieces-snoc}
use Rattle.lists.specs.Snoc.{snoc}

-- n of them from `at` on
abbrev pub numbers : ℕ → ℕ → ℕ → Bytes → List ℕ
numbers k n at b = map from_bytes (pieces k n (drop at b))

length-numbers : (k n at : ℕ) (b : Bytes) → length (numbers k n at b) ≡ n
length-numbers k n at b = length-map (pieces k n (drop at b)) from_bytes ∙ length-pieces k n (drop at b)

pieces_more : (k n m : ℕ) (x : Bytes) → pieces k (n + m) x ≡ pieces k n x ++ pieces k m (drop (k * n) x)
unfolding pieces
pieces_more k zero m x = ap₂ (λ (i j : ℕ). pieces k i (drop j x)) (zero-add m) (sym (mul-zero k))
pieces_more k (suc n) m x =
    let e : k + k * n ≡ k * suc n = omega arith in
    ap (λ (i : ℕ). pieces k i x) (suc-add n m)
    ∙ ap (λ (t : List Bytes). take k x ∷ t)
    (pieces_more k n m (drop k x) ∙ ap (λ (y : Bytes). pieces k n (drop k x) ++ pieces k m y) (drop-drop (k * n) k x ∙ ap (λ (i : ℕ). drop i x) e))

-- n of them, and the m after those
pub numbers_more : (k n m at : ℕ) (b : Bytes) → numbers k (n + m) at b ≡ numbers k n at b ++ numbers k m (at + k * n) b
numbers_more k n m at b =
    ap (map from_bytes) (pieces_more k n m (drop at b))
    ∙ map-append from_bytes (pieces k n (drop at b)) (pieces k m (drop (k * n) (drop at b)))
    ∙ ap (λ (y : Bytes). numbers k n at b ++ map from_bytes (pieces k m y)) (drop-drop (k * n) at b)

pub numbers_next : (k i at : ℕ) (b : Bytes) → snoc (numbers k i at b) (from_bytes (take k (drop (at + k * i) b))) ≡ numbers k (i + 1) at b
numbers_next k i at b =
    sym (ap (λ (n : ℕ). map from_bytes (pieces k n (drop at b))) (add-one i)
    ∙ ap (map from_bytes) (pieces-snoc k i (drop at b))
    ∙ map-append from_bytes (pieces k i (drop at b)) (piece k i (drop at b) ∷ [])
    ∙ ap (λ (y : Bytes). snoc (numbers k i at b) (from_bytes (take k y))) (drop-drop (k * i) at b))

-- a store after the front of a list
pub front_next : (p d : List ℕ) (i v : ℕ) → length p ≡ i → i < length d → set (p ++ drop i d) i v ≡ snoc p v ++ drop (i + 1) d
front_next p d i v e h =
    ap (λ (r : List ℕ). set (p ++ r) i v) (drop-cons d i 0 h)
    ∙ set_at p (get_or d i 0) (drop (suc i) d) v i e
    ∙ sym (append_snoc p v (drop (suc i) d))
    ∙ ap (λ (n : ℕ). snoc p v ++ drop n d) (sym (add-one i))

pub read_next : (k i at : ℕ) (b : Bytes) (o l : List ℕ) (x : ℕ) → i < length o → l ≡ numbers k i at b ++ drop i o → x ≡ from_bytes (take k (drop (at + k * i) b))
    → set l i x ≡ numbers k (i + 1) at b ++ drop (i + 1) o
read_next k i at b o l x h e f =
    ap₂ (λ (t : List ℕ) (y : ℕ). set t i y) e f
    ∙ front_next (numbers k i at b) o i (from_bytes (take k (drop (at + k * i) b))) (length-numbers k i at b) h
    ∙ ap (λ (p : List ℕ). p ++ drop (i + 1) o) (numbers_next k i at b)

-- ---- the bytes of one number, as they are read

pub half_is : (at : ℕ) (b : Bytes) (x y : ℕ) → at + 2 ≤ length b → x ≡ get_or b at 0 → y ≡ get_or b (at + 1) 0 → x + 256 * y ≡ from_bytes (take 2 (drop at b))
half_is at b x y h e f = omega (arith, two_bytes at b h)

pub word_is : (at : ℕ) (b : Bytes) (x y z t : ℕ) → at + 4 ≤ length b → x ≡ get_or b at 0 → y ≡ get_or b (at + 1) 0 → z ≡ get_or b (at + 2) 0
    → t ≡ get_or b (at + 3) 0 → x + 256 * (y + 256 * (z + 256 * t)) ≡ from_bytes (take 4 (drop at b))
word_is at b x y z t h e₀ e₁ e₂ e₃ = omega (arith, four_bytes at b h)

-- ---- words

words-add : (a b : ℕ) (x : Bytes) → words (a + b) x ≡ words a x ++ words b (drop (4 * a) x)
words-add a b x = ap (map from_bytes) (pieces_more 4 a b x) ∙ map-append from_bytes (pieces 4 a x) (pieces 4 b (drop (4 * a) x))

pub words_front : (a b : ℕ) (x : Bytes) → take a (words (a + b) x) ≡ words a x
words_front a b x = ap (take a) (words-add a b x) ∙ take_at (words a x) (words b (drop (4 * a) x)) a (length-words a x)

-- row k of n words each
abbrev pub words_at : ℕ → Bytes → ℕ → List ℕ
words_at n x k = words n (drop (4 * n * k) x)

pub words-rows : (n c : ℕ) (x : Bytes) → words (n * c) x ≡ rows_of (words_at n x) c
unfolding pieces
words-rows n zero x = ap (λ (k : ℕ). words k x) (mul-zero n) ∙ sym (rows_none (words_at n x))
words-rows n (suc c) x =
    let e : n * suc c ≡ n * c + n = omega arith in
    let f : 4 * (n * c) ≡ 4 * n * c = omega arith in
    ap (λ (k : ℕ). words k x) e
    ∙ words-add (n * c) n x
    ∙ ap₂ (λ (a b : List ℕ). a ++ b) (words-rows n c x) (ap (λ (k : ℕ). words n (drop k x)) f)
    ∙ sym ((ap (rows_of (words_at n x)) (sym (add-one c)) ∙ rows_next (words_at n x) c))

pub words-piece : (n c k : ℕ) (x : Bytes) → k < c → piece n k (words (n * c) x) ≡ words_at n x k
words-piece n c k x l = ap (piece n k) (words-rows n c x) ∙ row_of n (words_at n x) (λ i. length-words n (drop (4 * n * i) x)) c k l
