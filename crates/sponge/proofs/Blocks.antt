-- Where a block of the padded string comes from: a part of the string, or its rest with the padding.
use mathlib.Core.Path.{◌≡◌, sym, ap, ◌∙◌}
use mathlib.Core.List.{List, ◌++◌}
use Prim.Native.Nat.{ℕ, ◌+◌, ◌-◌, ◌*◌, ◌%◌, ◌<◌, ◌≤◌}
use native.Mathlib.Nat.{zero-add, le_of_eq}
use native.Mathlib.Omega.{arith}
use lib.Bits.{bit_xor}
use lib.ListN.{length, get_or, take, drop, length-append, length-drop}
use lib.Seq.{drop-append-le, drop-append-add, drop-drop, take-take, take_all}
use Rattle.lists.specs.Tabulate.{tabulate, tabulate_ext}
use Rattle.lists.specs.Number.{number}
use Rattle.lists.specs.Pieces.{drop-take}
use Rattle.keccak.specs.Strings.{word}
use Rattle.sponge.specs.Shake.{padded, xor_block}
use Rattle.sponge.proofs.Padding.{padding, padded_is}
use Rattle.sponge.proofs.Appended.{word_before}

-- a state of 25 lanes has 25 after a block
pub length-xor_block : (a p : List ℕ) (at : ℕ) → length a ≡ 25 → length (xor_block a p at) ≡ 25
unfolding xor_block
length-xor_block a p at h =
    let f : ℕ → ℕ = λ j. bit_xor (get_or a j 0) (word p (at + 8 * j)) in
    let size : length (xor_block a p at) ≡ 17 + length (drop 17 a) = length-append (tabulate 17 f) (drop 17 a) in
    omega (arith, size, length-drop 17 a)

-- blocks with the same words
same_words : (a p r : List ℕ) (at from : ℕ) → ((j : ℕ) → j < 17 → word p (at + 8 * j) ≡ word r (from + 8 * j)) → xor_block a p at ≡ xor_block a r from
unfolding xor_block
same_words a p r at from h =
    ap (λ (l : List ℕ). l ++ drop 17 a)
    (tabulate_ext 17 (λ j. bit_xor (get_or a j 0) (word p (at + 8 * j))) (λ j. bit_xor (get_or a j 0) (word r (from + 8 * j))) (λ j b. ap (bit_xor (get_or a j 0)) (h j b)))

-- the block at `at` is the first of what is left there
rest_block : (a p : List ℕ) (at : ℕ) → xor_block a (drop at p) 0 ≡ xor_block a p at
unfolding word
rest_block a p at =
    same_words a (drop at p) p 0 at
    (λ j b.
    ap (λ (k : ℕ). number 256 (take 8 (drop k (drop at p)))) (zero-add (8 * j)) ∙ ap (λ (l : List ℕ). number 256 (take 8 l)) (drop-drop (8 * j) at p))

-- .. and needs no more than 136 bytes
front_block : (a p : List ℕ) → xor_block a (take 136 p) 0 ≡ xor_block a p 0
unfolding word
front_block a p =
    same_words a (take 136 p) p 0 0
    (λ j b.
    let q : ℕ = 0 + 8 * j in
    let sum : 136 ≡ q + (136 - q) = omega arith in
    ap (λ (k : ℕ). number 256 (take 8 (drop q (take k p)))) sum
    ∙ ap (λ (l : List ℕ). number 256 (take 8 l)) (drop-take q (136 - q) p)
    ∙ ap (number 256) (take-take 8 (136 - q) (drop q p) (omega arith)))

-- a part of the string as long as a block
pub part_block : (a m : List ℕ) (at : ℕ) → xor_block a (take (at + 136 - at) (drop at m)) 0 ≡ xor_block a m at
part_block a m at =
    let size : at + 136 - at ≡ 136 = omega arith in
    ap (λ (k : ℕ). xor_block a (take k (drop at m)) 0) size ∙ front_block a (drop at m) ∙ rest_block a m at

-- a block of the first of two strings
pub block_before : (a m p : List ℕ) (at : ℕ) → at + 136 ≤ length m → xor_block a m at ≡ xor_block a (m ++ p) at
block_before a m p at h = same_words a m (m ++ p) at at (λ j b. sym (word_before m p (at + 8 * j) (omega arith)))

-- .. and so of the padded string
pub full_block : (a m : List ℕ) (at : ℕ) → at + 136 ≤ length m → xor_block a (take (at + 136 - at) (drop at m)) 0 ≡ xor_block a (padded m) at
full_block a m at h =
    part_block a m at ∙ block_before a m (padding (136 - length m % 136)) at h ∙ ap (λ (l : List ℕ). xor_block a l at) (sym (padded_is m))

-- a block of the second
pub block_after : (a m p : List ℕ) (at : ℕ) → xor_block a (m ++ p) (length m + at) ≡ xor_block a p at
block_after a m p at = sym (rest_block a (m ++ p) (length m + at)) ∙ ap (λ (l : List ℕ). xor_block a l 0) (drop-append-add m p at) ∙ rest_block a p at

-- the last block: after whole blocks, the rest of the string is padded as the string is
pub last-padded : (a m : List ℕ) (at : ℕ) → at % 136 ≡ 0 → at ≤ length m → xor_block a (padded (take (length m - at) (drop at m))) 0 ≡ xor_block a (padded m) at
last-padded a m at whole h =
    let p : List ℕ = padding (136 - length m % 136) in
    let size : 136 - length (drop at m) % 136 ≡ 136 - length m % 136 = omega (arith, length-drop at m) in
    ap (λ (l : List ℕ). xor_block a (padded l) 0) (take_all (length m - at) (drop at m) (le_of_eq (length-drop at m)))
    ∙ ap (λ (l : List ℕ). xor_block a l 0)
    (padded_is (drop at m) ∙ ap (λ (k : ℕ). drop at m ++ padding k) size ∙ sym (drop-append-le at m p h) ∙ ap (drop at) (sym (padded_is m)))
    ∙ rest_block a (padded m) at
