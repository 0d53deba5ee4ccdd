-- The shifts of `rotate` are the rotation that `rotl` gives bit by bit.
use mathlib.Core.Path.{◌≡◌, sym, ap, ap₂, ◌∙◌, subst}
use Prim.Native.Nat.{ℕ, zero, suc, ◌+◌, ◌-◌, ◌*◌, ◌/◌, ◌%◌, ◌^◌, ◌<◌, suc-le-suc}
use native.Mathlib.Nat.{add-zero, zero-add, suc-add, add-suc, add_comm, add_assoc, mul_comm, mod-one, mul-one, one-mul, div-one, zero-lt-suc, mod-eq_of_lt, mul-mod_left}
use native.Mathlib.Numerals.{add-one, one-add}
use native.Mathlib.Omega.{arith}
use lib.Bits.{bit_or, bit_and, or_shifted, or_self, and_mask}
use lib.Pow.{mod-pow-add, shr-shr, shl-shr, shr_lt}
use Rattle.lists.specs.Tabulate.{tabulate_from, length_from, split_from}
use Rattle.lists.specs.Number.{number, number_append}
use Rattle.keccak.specs.Lane.{bit, rotl}

-- k bits of x, from bit s on
bits_from : (x : ℕ) (f : ℕ → ℕ) (k i s : ℕ) → ((j : ℕ) → j < k → f (i + j) ≡ bit x (s + j)) → number 2 (tabulate_from i k f) ≡ x / 2 ^ s % 2 ^ k
unfolding number bit
bits_from x f zero i s h = sym (mod-one (x / 2 ^ s))
bits_from x f (suc k) i s h =
    let first : f i ≡ x / 2 ^ s % 2 = rw (add-zero i, add-zero s) at (h 0 (zero-lt-suc k)) in
    let rest : number 2 (tabulate_from (suc i) k f) ≡ x / 2 ^ (s + 1) % 2 ^ k =
    bits_from x f k (suc i) (s + 1) (λ j b. rw (suc-add, ← add-suc, add_assoc, one-add) (h (suc j) (suc-le-suc b))) in
    let whole : x / 2 ^ s % 2 ^ suc k ≡ (x / 2 ^ (s + 1) % 2 ^ k) * 2 + x / 2 ^ s % 2 =
    rw (← add-one k, mod-pow-add (x / 2 ^ s) k 1, shr-shr x s 1) in
    omega (arith, first, rest, whole)

-- the low n bits of the rotated lane are the high n bits of x, and the others the others
two_parts : (x n : ℕ) → n < 64 → rotl x n ≡ x / 2 ^ (64 - n) % 2 ^ n + 2 ^ n * (x % 2 ^ (64 - n))
unfolding rotl
two_parts x n h =
    let g : ℕ → ℕ = λ z. bit x ((z + 64 - n) % 64) in
    let m : ℕ = 64 - n in
    let sum : 64 ≡ n + m = omega arith in
    let low : number 2 (tabulate_from 0 n g) ≡ x / 2 ^ m % 2 ^ n =
    bits_from x g n 0 m (λ j b. ap (bit x) (omega arith)) in
    let high : number 2 (tabulate_from (0 + n) m g) ≡ x / 2 ^ 0 % 2 ^ m =
    bits_from x g m (0 + n) 0 (λ j b. ap (bit x) (omega arith)) in
    ap (λ (k : ℕ). number 2 (tabulate_from 0 k g)) sum
    ∙ ap (number 2) (split_from 0 n m g)
    ∙ number_append 2 (tabulate_from 0 n g) (tabulate_from (0 + n) m g)
    ∙ rw (length_from 0 n g, low, high, div-one)

-- what `rotate` computes
pub shifts : (x n : ℕ) → x < 2 ^ 64 → n < 64 → bit_or ((x * 2 ^ n) % 2 ^ 64) (x / 2 ^ bit_and (64 - n) 63) ≡ rotl x n
shifts x zero hx h =
    let whole : x % 2 ^ 64 ≡ x = mod-eq_of_lt hx in
    rw (mul-one, whole, div-one, or_self) (sym (two_parts x 0 h ∙ rw (mod-one, zero-add, one-mul) whole))
shifts x (suc n) hx h =
    let k : ℕ = suc n in
    let m : ℕ = 64 - k in
    let sum : 64 ≡ m + k = omega arith in
    let fits : x / 2 ^ m < 2 ^ k = shr_lt k m (subst (λ (j : ℕ). x < 2 ^ j) (sum ∙ add_comm m k) hx) in
    let amount : bit_and m 63 ≡ m = and_mask m 6 ∙ mod-eq_of_lt (omega arith) in
    let left : x * 2 ^ k % 2 ^ 64 ≡ x % 2 ^ m * 2 ^ k =
    ap (λ (j : ℕ). x * 2 ^ k % 2 ^ j) sum ∙ mod-pow-add (x * 2 ^ k) m k ∙ rw (shl-shr, mul-mod_left, add-zero) in
    ap₂ (λ (a b : ℕ). bit_or a (x / 2 ^ b)) left amount
    ∙ or_shifted (x % 2 ^ m) k (x / 2 ^ m) fits
    ∙ add_comm (x % 2 ^ m * 2 ^ k) (x / 2 ^ m)
    ∙ ap₂ (λ (a b : ℕ). a + b) (sym (mod-eq_of_lt fits)) (mul_comm (x % 2 ^ m) (2 ^ k))
    ∙ sym (two_parts x k h)
