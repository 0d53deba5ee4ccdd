-- The sum of the products of two lists of numbers, modulo q.
use Rattle.std.specs.Prelude.{◌≡◌, refl, List, [], ◌∷◌, map, ℕ, zero, suc, ◌+◌, ◌-◌, ◌*◌, ◌/◌, ◌%◌, ◌≤◌, ◌<◌, length, get_or, set, take, drop}
use Rattle.std.proofs.Common.{sym, ◌∙◌, ap, ap₂, subst, mod-lt, le_refl, suc-ne-zero, not-suc-le-zero, le_of_suc-le-suc, div-add-mod', mul-le-mul, div-lt_iff_lt-mul, mul-suc, add-one, arith, lit<, ext_get_or}
use Rattle.std.proofs.Math.Nat.{suc_inj}
use Rattle.std.proofs.lemmas.List.{length-map}
use Rattle.std.proofs.Math.Seq.{take-length}
use Rattle.algebra.specs.Prime.{q}
use Rattle.algebra.specs.Field.{K, of, same_mod, of_add, of_mul, of_zero, of_one, ◌⊕◌, ◌⊗◌, 𝟏, dv, ring, dif_path, ⊗-zero, ⊗-one, ⊗-comm}
use Rattle.algebra.specs.Columns.{pow_n}
use Rattle.algebra.specs.Numbers.{ofs, eval_n, eval_n_below, values_at_n, of_eval_n, of_injective}
use Rattle.algebra.specs.Poly.{eval}
use Rattle.lists.specs.All.{Sized}
use Rattle.lists.specs.Maps.{get_or-map_in}
use Rattle.lists.specs.Pieces.{piece, pieces, length-pieces, pieces_at, pieces-sized}
use Rattle.lists.specs.Tabulate.{tabulate_is, tabulate_from, tabulate, length_from}
use Rattle.lists.specs.Fill.{Filled, entry_of, four_filled}
use Rattle.lists.specs.Parts.{row_fits, span_length}
use Rattle.algebra.specs.Divided.{of_mod}
use Rattle.algebra.specs.Interp.{dot}

unfoldable pub products : List ℕ → List ℕ → ℕ
products [] bs = 0
products (a ∷ as') [] = 0
products (a ∷ as') (b ∷ bs) = a * b + products as' bs

unfoldable pub dot_n : List ℕ → List ℕ → ℕ
dot_n xs ys = products xs ys % q

pub dot_n_below : (xs ys : List ℕ) → dot_n xs ys < q
unfolding dot_n
dot_n_below xs ys = mod-lt _ (lit< tt)

products_comm : (xs ys : List ℕ) → products xs ys ≡ products ys xs
unfolding products
products_comm [] [] = refl
products_comm [] (b ∷ ys) = refl
products_comm (a ∷ xs) [] = refl
products_comm (a ∷ xs) (b ∷ ys) = omega (arith, products_comm xs ys)

pub dot_n_comm : (xs ys : List ℕ) → dot_n xs ys ≡ dot_n ys xs
unfolding dot_n
dot_n_comm xs ys = ap (λ (t : ℕ). t % q) (products_comm xs ys)

of_products : (xs ys : List ℕ) → of (products xs ys) ≡ dot (ofs xs) (ofs ys)
unfolding products dot
of_products [] ys = of_zero
of_products (a ∷ xs) [] = of_zero
of_products (a ∷ xs) (b ∷ ys) = sym (of_add (a * b) (products xs ys)) ∙ ap₂ ◌⊕◌ (sym (of_mul a b)) (of_products xs ys)

pub of_dot_n : (xs ys : List ℕ) → of (dot_n xs ys) ≡ dot (ofs xs) (ofs ys)
unfolding dot_n
of_dot_n xs ys = of_mod (products xs ys) ∙ of_products xs ys

-- ---- a loop from the first product to the last
pub products-suc : (xs ys : List ℕ) (i : ℕ) → i < length xs → i < length ys
    → products (take (suc i) xs) (take (suc i) ys) ≡ products (take i xs) (take i ys) + get_or xs i 0 * get_or ys i 0
unfolding products
products-suc [] ys i l m = absurd (not-suc-le-zero l)
products-suc (a ∷ xs) [] i l m = absurd (not-suc-le-zero m)
products-suc (a ∷ xs) (b ∷ ys) zero l m = omega arith
products-suc (a ∷ xs) (b ∷ ys) (suc i) l m = omega (arith, products-suc xs ys i (le_of_suc-le-suc l) (le_of_suc-le-suc m))

-- where a product is split: at 2^33, which is 10 modulo q
abbrev pub split : ℕ
split = 8589934592

-- so many products can be summed
abbrev pub longest : ℕ
longest = 65536

-- 2^64
abbrev pub word_end : ℕ
word_end = 18446744073709551616

-- 2^60: a sum below it can take one part more, and ten times it fits
abbrev pub spare : ℕ
spare = 1152921504606846976

-- The sums of the lower and the upper parts of the first i products, and their bounds. Shut, so that omega does not read its large numbers.
pub Halves : List ℕ → List ℕ → ℕ → ℕ → ℕ → Type 0
Halves xs ys i low high = (low + split * high ≡ products (take i xs) (take i ys)) × (low ≤ 8589934591 * i) × (high ≤ 2147483647 * i)

pub halves_none : (xs ys : List ℕ) → Halves xs ys 0 0 0
unfolding Halves products
halves_none xs ys = (refl, omega arith, omega arith)

-- a product of two 32-bit numbers
pub product_bound : (a b : ℕ) → a < 4294967296 → b < 4294967296 → a * b ≤ 18446744065119617025
product_bound a b l m = mul-le-mul {n₂ = 4294967295} {m₂ = 4294967295} (omega arith) (omega arith)

low_part : (p : ℕ) → p % split < split
low_part p = mod-lt p (lit< tt)

high_part : (p : ℕ) → p < word_end → p / split < 2147483648
high_part p u = (div-lt_iff_lt-mul {k = split} {x = p} {y = 2147483648} (lit< tt)).1 u

one_more : (s i d m : ℕ) → d ≤ m → s ≤ m * i → s + d ≤ m * (i + 1)
one_more s i d m l h = omega (arith, mul-suc m i)

-- one product more
pub halves_turn : (xs ys : List ℕ) (i low high p : ℕ) → i < length xs → length ys ≡ length xs → p ≡ get_or xs i 0 * get_or ys i 0 → p < word_end
    → Halves xs ys i low high → Halves xs ys (i + 1) (low + p % split) (high + p / split)
unfolding Halves
halves_turn xs ys i low high p l m e u h = (
  omega (arith, div-add-mod' p split, h.0)
      ∙ sym (products-suc xs ys i l (omega arith))
      ∙ ap (λ (k : ℕ). products (take k xs) (take k ys)) (sym (add-one i)),
  one_more low i (p % split) 8589934591 (le_of_suc-le-suc (low_part p)) h.1,
  one_more high i (p / split) 2147483647 (le_of_suc-le-suc (high_part p u)) h.2,
)

-- .. fits
small : (s i : ℕ) → i ≤ longest → s ≤ 8589934591 * i → s < spare
small s i l h = omega arith

pub halves_spare : (xs ys : List ℕ) (i low high : ℕ) → i ≤ longest → Halves xs ys i low high → (low < spare) × (high < spare)
unfolding Halves
halves_spare xs ys i low high l h = (small low i l h.1, let m : high ≤ 2147483647 * i = h.2 in small high i l (omega arith))

pub low_fits : (s p : ℕ) → s < spare → s + p % split < word_end
low_fits s p h = let l : p % split < split = low_part p in omega arith

pub high_fits : (s p : ℕ) → s < spare → p < word_end → s + p / split < word_end
high_fits s p h u = fits s (p / split) h (high_part p u)
  where
    fits : (s d : ℕ) → s < spare → d < 2147483648 → s + d < word_end
    fits s d h l = omega arith

-- all products: 2^33 is 2 q + 10
pub halves_done : (xs ys : List ℕ) (i low high : ℕ) → i ≡ length xs → length ys ≡ length xs → Halves xs ys i low high → (low + 10 * high) % q ≡ dot_n xs ys
unfolding dot_n Halves
halves_done xs ys i low high e m h =
    same_mod (low + 10 * high) (low + split * high) (2 * high) 0 (omega arith)
    ∙ ap (λ (t : ℕ). t % q) (h.0 ∙ ap₂ products (ap (λ (k : ℕ). take k xs) e ∙ take-length xs) (ap (λ (k : ℕ). take k ys) (e ∙ sym m) ∙ take-length ys))

-- ---- a row times c added, entry by entry
unfoldable pub accumulate_n : List ℕ → ℕ → List ℕ → List ℕ
accumulate_n [] c row = []
accumulate_n (a ∷ acc) c [] = a ∷ acc
accumulate_n (a ∷ acc) c (b ∷ row) = ((a + c * b) % q) ∷ accumulate_n acc c row

abbrev pub accumulated_at : List ℕ → ℕ → List ℕ → ℕ → ℕ
accumulated_at acc c row i = (get_or acc i 0 + c * get_or row i 0) % q

pub accumulate_n_at : (acc row : List ℕ) (c i : ℕ) → length row ≡ length acc → i < length acc → get_or (accumulate_n acc c row) i 0 ≡ accumulated_at acc c row i
unfolding accumulate_n
accumulate_n_at [] row c i e l = absurd (not-suc-le-zero l)
accumulate_n_at (a ∷ acc) [] c i e l = absurd (suc-ne-zero _ (sym e))
accumulate_n_at (a ∷ acc) (b ∷ row) c zero e l = refl
accumulate_n_at (a ∷ acc) (b ∷ row) c (suc i) e l = accumulate_n_at acc row c i (suc_inj e) (le_of_suc-le-suc l)

pub length-accumulate_n : (acc row : List ℕ) (c : ℕ) → length (accumulate_n acc c row) ≡ length acc
unfolding accumulate_n
length-accumulate_n [] row c = refl
length-accumulate_n (a ∷ acc) [] c = refl
length-accumulate_n (a ∷ acc) (x ∷ row) c = ap suc (length-accumulate_n acc row c)

pub accumulate_n_is : (acc row : List ℕ) (c : ℕ) → length row ≡ length acc → tabulate (length acc) (accumulated_at acc c row) ≡ accumulate_n acc c row
accumulate_n_is acc row c e =
    sym (tabulate_is (length acc) (accumulated_at acc c row) (accumulate_n acc c row) (length-accumulate_n acc row c) (λ (i : ℕ) (l : i < length acc). accumulate_n_at acc row c i e l))

pub folded_turn : (acc row now : List ℕ) (c i n v : ℕ) → i < n → Filled (entry_of acc) now i n → v ≡ (get_or row i 0 + c * get_or now i 0) % q → v ≡ accumulated_at row c acc i
folded_turn acc row now c i n v l h e = e ∙ ap (λ (t : ℕ). (get_or row i 0 + c * t) % q) (h i (le_refl i) l)

-- ---- a polynomial's value is its dot product with the powers
powers_dot : (x : K) (f : ℕ → ℕ) (i : ℕ) (p : List ℕ) → ((i : ℕ) → of (f (suc i)) ≡ x ⊗ of (f i)) → dot (ofs (tabulate_from i (length p) f)) (ofs p) ≡ of (f i) ⊗ eval (ofs p) x
unfolding dot eval
powers_dot x f i [] h = sym (⊗-zero (of (f i)))
powers_dot x f i (a ∷ p) h =
    ap (λ (t : K). of (f i) ⊗ of a ⊕ t) (powers_dot x f (suc i) p h ∙ ap (λ (t : K). t ⊗ eval (ofs p) x) (h i))
    ∙ step (of (f i)) (of a) x (eval (ofs p) x)
  where
    step : (c a x u : K) → c ⊗ a ⊕ x ⊗ c ⊗ u ≡ c ⊗ (a ⊕ x ⊗ u)
    step c a x u = rw (← dv c, ← dv a, ← dv x, ← dv u) (simp ring (dif_path _ _ _ _ (omega arith)))

pub dot_powers_n : (p : List ℕ) (x : ℕ) → dot_n (tabulate (length p) (pow_n x)) p ≡ eval_n p x
unfolding pow_n
dot_powers_n p x =
    of_injective _ _ (dot_n_below (tabulate (length p) (pow_n x)) p) (eval_n_below p x)
    (of_dot_n (tabulate (length p) (pow_n x)) p
    ∙ powers_dot (of x) (pow_n x) 0 p (λ (i : ℕ). of_mod _ ∙ sym (of_mul x (pow_n x i)))
    ∙ one (eval (ofs p) (of x)) ∙ sym (of_eval_n p x))
  where
    one : (a : K) → of 1 ⊗ a ≡ a
    one a = ap (λ (t : K). t ⊗ a) of_one ∙ ⊗-comm 𝟏 a ∙ ⊗-one a

-- ---- the dot products of the weights with the first n rows, which stand one after the other
unfoldable pub dots_of : List ℕ → ℕ → List ℕ → List ℕ
dots_of weights n rows = map (dot_n weights) (pieces (length weights) n rows)

pub dots_length : (w : List ℕ) (n : ℕ) (rows : List ℕ) → length (dots_of w n rows) ≡ n
unfolding dots_of
dots_length w n rows = length-map (pieces (length w) n rows) (dot_n w) ∙ length-pieces (length w) n rows

-- row j goes from a to e
pub dots_at : (w rows : List ℕ) (n j a e v : ℕ) → j < n → a ≡ length w * j → e ≡ a + length w → v ≡ dot_n w (take (e - a) (drop a rows)) → v ≡ entry_of (dots_of w n rows) j
unfolding dots_of
dots_at w rows n j a e v l ha he h =
    let m : e - a ≡ length w = omega arith in
    h ∙ ap₂ (λ (x y : ℕ). dot_n w (take x (drop y rows))) m ha
    ∙ ap (dot_n w) (sym (pieces_at (length w) n j rows l))
    ∙ sym (get_or-map_in (dot_n w) (pieces (length w) n rows) j [] 0 (subst (λ (k : ℕ). j < k) (sym (length-pieces (length w) n rows)) l))

pub dots_done : (w rows : List ℕ) (n : ℕ) (out : List ℕ) → length out ≡ n → Filled (entry_of (dots_of w n rows)) out 0 n → out ≡ dots_of w n rows
dots_done w rows n out l h =
    ext_get_or 0 out (dots_of w n rows) (l ∙ sym (dots_length w n rows)) (λ i m. h i (omega arith) (subst (λ (k : ℕ). i < k) l m))

pub dots_entry : (w : List ℕ) (n : ℕ) (rows : List ℕ) (j : ℕ) → j < n → get_or (dots_of w n rows) j 0 ≡ dot_n w (piece (length w) j rows)
unfolding dots_of
dots_entry w n rows j l =
    get_or-map_in (dot_n w) (pieces (length w) n rows) j [] 0 (subst (λ (k : ℕ). j < k) (sym (length-pieces (length w) n rows)) l)
    ∙ ap (dot_n w) (pieces_at (length w) n j rows l)

-- ---- four rows at a time

pub four_rows_fit : (w j n k : ℕ) → 4 ≤ n - j → w * n ≤ k → j * w + w + w + w + w ≤ k
four_rows_fit w j n k l b = let r = row_fits w (j + 3) n (omega arith) in omega arith

pub four_lengths : (w j : ℕ) (t : List ℕ) → j * w + w + w + w + w ≤ length t
    → (length (take (j * w + w - j * w) (drop (j * w) t)) ≡ w)
    × (length (take (j * w + w + w - (j * w + w)) (drop (j * w + w) t)) ≡ w)
    × (length (take (j * w + w + w + w - (j * w + w + w)) (drop (j * w + w + w) t)) ≡ w)
    × (length (take (j * w + w + w + w + w - (j * w + w + w + w)) (drop (j * w + w + w + w) t)) ≡ w)
four_lengths w j t h =
    (span_length (j * w) w t (omega arith), span_length (j * w + w) w t (omega arith), span_length (j * w + w + w) w t (omega arith), span_length (j * w + w + w + w) w t (omega arith))

pub dots_four : (w rows out : List ℕ) (n j a b c d : ℕ) → 4 ≤ n - j → length out ≡ n → Filled (entry_of (dots_of w n rows)) out 0 j
    → a ≡ dot_n w (take (j * length w + length w - j * length w) (drop (j * length w) rows))
    → b ≡ dot_n w (take (j * length w + length w + length w - (j * length w + length w)) (drop (j * length w + length w) rows))
    → c ≡ dot_n w (take (j * length w + length w + length w + length w - (j * length w + length w + length w)) (drop (j * length w + length w + length w) rows))
    → d ≡ dot_n w (take (j * length w + length w + length w + length w + length w - (j * length w + length w + length w + length w)) (drop (j * length w + length w + length w + length w) rows))
    → Filled (entry_of (dots_of w n rows)) (set (set (set (set out j a) (j + 1) b) (j + 2) c) (j + 3) d) 0 (j + 4)
dots_four w rows out n j a b c d l e h ha hb hc hd =
    let m : ℕ = length w in
    four_filled (entry_of (dots_of w n rows)) out j a b c d (omega arith) h
    (dots_at w rows n j (j * m) (j * m + m) a (omega arith) (omega arith) refl ha)
    (dots_at w rows n (j + 1) (j * m + m) (j * m + m + m) b (omega arith) (omega arith) refl hb)
    (dots_at w rows n (j + 2) (j * m + m + m) (j * m + m + m + m) c (omega arith) (omega arith) refl hc)
    (dots_at w rows n (j + 3) (j * m + m + m + m) (j * m + m + m + m + m) d (omega arith) (omega arith) refl hd)

-- ---- values of polynomials

-- with the powers they are the values of the rows as polynomials
powers_dots : (k : ℕ) (ps : List (List ℕ)) (x : ℕ) → Sized k ps → map (dot_n (tabulate k (pow_n x))) ps ≡ values_at_n ps x
unfolding values_at_n
powers_dots k [] x h = refl
powers_dots k (p ∷ ps) x h =
    ap₂ (λ (a : ℕ) (t : List ℕ). a ∷ t) (ap (λ (n : ℕ). dot_n (tabulate n (pow_n x)) p) (sym h.0) ∙ dot_powers_n p x) (powers_dots k ps x h.1)

pub dots_powers_n : (k n : ℕ) (rows : List ℕ) (x : ℕ) → k * n ≤ length rows → dots_of (tabulate k (pow_n x)) n rows ≡ values_at_n (pieces k n rows) x
unfolding dots_of
dots_powers_n k n rows x h =
    ap (λ (m : ℕ). map (dot_n (tabulate k (pow_n x))) (pieces m n rows)) (length_from 0 k (pow_n x))
    ∙ powers_dots k (pieces k n rows) x (pieces-sized k n rows h)
