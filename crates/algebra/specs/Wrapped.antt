-- A sum of products in two 64-bit numbers: all of it modulo 2^64, and the sum of the products' upper parts, from 2^33 on. The sum of the lower parts is what the two leave.
use Rattle.std.specs.Prelude.{◌≡◌, refl, List, ℕ, ◌+◌, ◌-◌, ◌*◌, ◌/◌, ◌%◌, ◌≤◌, ◌<◌, length, get_or, take}
use Rattle.std.proofs.Common.{sym, ◌∙◌, ap, ap₂, mod-lt, div-add-mod', div-lt_iff_lt-mul, le_of_suc-le-suc, mul-suc, add-one, arith, lit<}
use Rattle.std.proofs.Math.Seq.{take-length}
use Rattle.algebra.specs.Prime.{q}
use Rattle.algebra.specs.Field.{same_mod}
use Rattle.algebra.specs.Dot.{products, products-suc, dot_n, split, longest, word_end, spare}

-- the sum of the lower parts
unfoldable pub low_of : ℕ → ℕ → ℕ
low_of all upper = (all + (word_end - upper * split % word_end)) % word_end

-- The first i products, with the sum of their lower parts.
record Parted (xs ys : List ℕ) (i all upper : ℕ) : Type 0 where
  low : ℕ
  sum : low + split * upper ≡ products (take i xs) (take i ys)
  low-high : low ≤ 8589934591 * i
  upper_high : upper ≤ 8589934591 * i
  all_is : all ≡ (low + split * upper) % word_end

-- Shut, so that omega does not read its large numbers.
pub Wrapped : List ℕ → List ℕ → ℕ → ℕ → ℕ → Type 0
Wrapped xs ys i all upper = Parted xs ys i all upper

pub wrapped_none : (xs ys : List ℕ) → Wrapped xs ys 0 0 0
unfolding Wrapped products
wrapped_none xs ys = record { low = 0; sum = refl; low-high = omega arith; upper_high = omega arith; all_is = refl }

upper_part : (p : ℕ) → p < word_end → p / split < split
upper_part p u = let l : p / split < 2147483648 = (div-lt_iff_lt-mul {k = split} {x = p} {y = 2147483648} (lit< tt)).1 u in omega arith

one_more : (s i d : ℕ) → d ≤ 8589934591 → s ≤ 8589934591 * i → s + d ≤ 8589934591 * (i + 1)
one_more s i d l h = omega (arith, mul-suc 8589934591 i)

wrap : (s p : ℕ) → (s % word_end + p) % word_end ≡ (s + p) % word_end
wrap s p = omega arith

-- one product more
pub wrapped_turn : (xs ys : List ℕ) (i all upper p all' upper' : ℕ) → i < length xs → length ys ≡ length xs → p ≡ get_or xs i 0 * get_or ys i 0 → p < word_end
    → all' ≡ (all + p) % word_end → upper' ≡ upper + p / split → Wrapped xs ys i all upper → Wrapped xs ys (i + 1) all' upper'
unfolding Wrapped
wrapped_turn xs ys i all upper p all' upper' l m e u f g h =
    let d : p / split * split + p % split ≡ p = div-add-mod' p split in
    let low : ℕ = h.low + p % split in
    let whole : low + split * upper' ≡ h.low + split * upper + p = omega arith in record {
      low = low;
      sum = whole ∙ ap₂ ◌+◌ h.sum e ∙ sym (products-suc xs ys i l (omega arith)) ∙ ap (λ (k : ℕ). products (take k xs) (take k ys)) (sym (add-one i));
      low-high = one_more h.low i (p % split) (le_of_suc-le-suc (mod-lt p (lit< tt))) h.low-high;
      upper_high = let v : upper + p / split ≤ 8589934591 * (i + 1) = one_more upper i (p / split) (le_of_suc-le-suc (upper_part p u)) h.upper_high in rw g v;
      all_is = f ∙ ap (λ (t : ℕ). (t + p) % word_end) h.all_is ∙ wrap (h.low + split * upper) p ∙ ap (λ (t : ℕ). t % word_end) (sym whole);
    }

small : (s i : ℕ) → i ≤ longest → s ≤ 8589934591 * i → s < spare
small s i l h = omega arith

unwrap : (l u all : ℕ) → l < spare → all ≡ (l + split * u) % word_end → (all + (word_end - u * split % word_end)) % word_end ≡ l
unwrap l u all b e = omega arith

low_is : (xs ys : List ℕ) (i all upper : ℕ) → i ≤ longest → (h : Parted xs ys i all upper) → low_of all upper ≡ h.low
unfolding low_of
low_is xs ys i all upper l h = unwrap h.low upper all (small h.low i l h.low-high) h.all_is

-- both sums fit
pub wrapped_spare : (xs ys : List ℕ) (i all upper : ℕ) → i ≤ longest → Wrapped xs ys i all upper → (low_of all upper < spare) × (upper < spare)
unfolding Wrapped
wrapped_spare xs ys i all upper l h =
    (let s : h.low < spare = small h.low i l h.low-high in rw (low_is xs ys i all upper l h) s, small upper i l h.upper_high)

pub wrapped_done : (xs ys : List ℕ) (i all upper r : ℕ) → i ≤ longest → i ≡ length xs → length ys ≡ length xs → Wrapped xs ys i all upper → r ≡ (low_of all upper + 10 * upper) % q → r ≡ dot_n xs ys
unfolding Wrapped dot_n
wrapped_done xs ys i all upper r l e m h f =
    f
    ∙ ap (λ (t : ℕ). (t + 10 * upper) % q) (low_is xs ys i all upper l h)
    ∙ same_mod (h.low + 10 * upper) (h.low + split * upper) (2 * upper) 0 (omega arith)
    ∙ ap (λ (t : ℕ). t % q) (h.sum ∙ ap₂ products (ap (λ (k : ℕ). take k xs) e ∙ take-length xs) (ap (λ (k : ℕ). take k ys) (e ∙ sym m) ∙ take-length ys))

-- what a 64-bit difference modulo 2^64 leaves
pub low_left : (all upper r : ℕ) → r < word_end → all < word_end → (r + upper * split % word_end) % word_end ≡ all → r ≡ low_of all upper
unfolding low_of
low_left all upper r l m e = difference (upper * split % word_end) all r l (mod-lt _ (lit< tt)) e
  where
    difference : (b all r : ℕ) → r < word_end → b < word_end → (r + b) % word_end ≡ all → r ≡ (all + (word_end - b)) % word_end
    difference b all r l m e = omega arith
