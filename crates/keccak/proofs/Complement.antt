-- Complements of lanes under exclusive or, and and or.
use mathlib.Core.Path.{◌≡◌, refl, sym, ap, ap₂, ◌∙◌, subst}
use Prim.Native.Nat.{ℕ, zero, suc, ◌+◌, ◌-◌, ◌*◌, ◌/◌, ◌%◌, ◌^◌, ◌<◌, min}
use native.Mathlib.Nat.{mod-lt, mod-eq_of_lt, zero-lt-suc, le_of_suc-le-suc, not-suc-le-zero, pow-suc}
use native.Mathlib.Omega.{arith}
use lib.Arith.{lt-one}
use lib.Bits.{bit_xor, bit_and, bit_or, and_step, and_comm, and_lt, and_mask, or_add_and, xor_add_and, xor_comm, xor_self, xor_zero_r}
use Rattle.keccak.specs.Lane.{complement}
use Rattle.keccak.specs.Held.{ones}
use Rattle.keccak.specs.Xor.{xor_assoc}

complement-xor : (x : ℕ) → x < 2 ^ 64 → complement x ≡ bit_xor x ones
complement-xor x h =
    let same : x % 2 ^ 64 ≡ x = mod-eq_of_lt h in
    omega (arith, xor_add_and x ones, and_mask x 64, same)

complement_lt : (x : ℕ) → complement x < 2 ^ 64
complement_lt x = omega arith

complement_twice : (x : ℕ) → x < 2 ^ 64 → complement (complement x) ≡ x
complement_twice x h = omega arith

-- ---- the bits of a number are those that another has too, and those that it has not

digit : (x y : ℕ) → x < 2 → y < 2 → min x (1 - y) + min x y ≡ x
digit zero zero hx hy = refl
digit zero (suc zero) hx hy = refl
digit zero (suc (suc y)) hx hy = absurd (not-suc-le-zero (le_of_suc-le-suc (le_of_suc-le-suc hy)))
digit (suc zero) zero hx hy = refl
digit (suc zero) (suc zero) hx hy = refl
digit (suc zero) (suc (suc y)) hx hy = absurd (not-suc-le-zero (le_of_suc-le-suc (le_of_suc-le-suc hy)))
digit (suc (suc x)) y hx hy = absurd (not-suc-le-zero (le_of_suc-le-suc (le_of_suc-le-suc hx)))

and_parts : (k a b : ℕ) → a < 2 ^ k → b < 2 ^ k → bit_and a (2 ^ k - 1 - b) + bit_and a b ≡ a
and_parts zero a b ha hb = subst (λ (x : ℕ). bit_and x (2 ^ 0 - 1 - b) + bit_and x b ≡ x) (sym (lt-one ha)) refl
and_parts (suc k) a b ha hb =
    let p : ℕ = 2 ^ k in
    let c : ℕ = 2 ^ suc k - 1 - b in
    let twice : 2 ^ suc k ≡ p * 2 = pow-suc 2 k in
    let half : c / 2 ≡ p - 1 - b / 2 = omega arith in
    let odd : c % 2 ≡ 1 - b % 2 = omega arith in
    let rest : bit_and (a / 2) (p - 1 - b / 2) + bit_and (a / 2) (b / 2) ≡ a / 2 = and_parts k (a / 2) (b / 2) (omega arith) (omega arith) in
    let last : min (a % 2) (1 - b % 2) + min (a % 2) (b % 2) ≡ a % 2 = digit (a % 2) (b % 2) (mod-lt a (zero-lt-suc 1)) (mod-lt b (zero-lt-suc 1)) in
    let first : bit_and a c ≡ bit_and (a / 2) (p - 1 - b / 2) * 2 + min (a % 2) (1 - b % 2) =
    and_step a c ∙ ap₂ (λ (x y : ℕ). bit_and (a / 2) x * 2 + min (a % 2) y) half odd in
    omega (arith, first, and_step a b, rest, last)

-- De Morgan's law
or_complement : (a b : ℕ) → a < 2 ^ 64 → b < 2 ^ 64 → bit_or a (complement b) ≡ complement (bit_and (complement a) b)
or_complement a b ha hb =
    omega (arith, or_add_and a (complement b), and_parts 64 a b ha hb, and_parts 64 b a hb ha, and_comm b a, and_comm b (complement a))

-- ---- what χ adds to a lane, from the two lanes beside it, which the code has as b and c with the masks m and n: itself, or its complement

abbrev pub added : ℕ → ℕ → ℕ → ℕ → ℕ
added b c m n = bit_and (complement (bit_xor b m)) (bit_xor c n)

module _ (b c : ℕ) (hb : b < 2 ^ 64) (hc : c < 2 ^ 64) where
  neither : added b c 0 0 ≡ bit_and (complement b) c
  neither = ap₂ (λ (u v : ℕ). bit_and (complement u) v) (xor_zero_r b) (xor_zero_r c)

  first : bit_xor b ones ≡ complement b
  first = sym (complement-xor b hb)

  second : bit_xor c ones ≡ complement c
  second = sym (complement-xor c hc)

  pub not_and : bit_and (complement b) c ≡ bit_xor (added b c 0 0) 0
  not_and = sym (xor_zero_r (added b c 0 0) ∙ neither)

  pub or_not : bit_or b (complement c) ≡ bit_xor (added b c 0 0) ones
  or_not =
      or_complement b c hb hc
      ∙ complement-xor (bit_and (complement b) c) (and_lt 64 (complement b) c (complement_lt b) hc)
      ∙ ap (λ (x : ℕ). bit_xor x ones) (sym neither)

  pub and_both : bit_and b c ≡ bit_xor (added b c ones 0) 0
  and_both =
      sym (xor_zero_r (added b c ones 0)
      ∙ ap₂ (λ (u v : ℕ). bit_and (complement u) v) first (xor_zero_r c)
      ∙ ap (λ (u : ℕ). bit_and u c) (complement_twice b hb))

  pub or_both : bit_or b c ≡ bit_xor (added b c 0 ones) ones
  or_both =
      ap (bit_or b) (sym (complement_twice c hc))
      ∙ or_complement b (complement c) hb (complement_lt c)
      ∙ complement-xor (bit_and (complement b) (complement c)) (and_lt 64 (complement b) (complement c) (complement_lt b) (complement_lt c))
      ∙ ap (λ (x : ℕ). bit_xor x ones) (sym (ap₂ (λ (u v : ℕ). bit_and (complement u) v) (xor_zero_r b) second))

  pub not_or : bit_or (complement b) c ≡ bit_xor (added b c ones ones) ones
  not_or =
      ap (bit_or (complement b)) (sym (complement_twice c hc))
      ∙ or_complement (complement b) (complement c) (complement_lt b) (complement_lt c)
      ∙ complement-xor (bit_and (complement (complement b)) (complement c)) (and_lt 64 (complement (complement b)) (complement c) (complement_lt (complement b)) (complement_lt c))
      ∙ ap (λ (x : ℕ). bit_xor x ones) (sym (ap₂ (λ (u v : ℕ). bit_and (complement u) v) first second))

-- ---- a lane to which χ adds x; the code has it as a with the mask m, and adds y

pub with_mask : (a m x y s : ℕ) → y ≡ bit_xor x s → bit_xor a y ≡ bit_xor (bit_xor (bit_xor a m) x) (bit_xor m s)
with_mask a m x y s e =
    ap (bit_xor a) e
    ∙ sym (ap (λ (u : ℕ). bit_xor u (bit_xor m s)) (xor_assoc a m x)
    ∙ xor_assoc a (bit_xor m x) (bit_xor m s)
    ∙ ap (bit_xor a) (ap (λ (u : ℕ). bit_xor u (bit_xor m s)) (xor_comm m x)
    ∙ xor_assoc x m (bit_xor m s)
    ∙ ap (bit_xor x) (sym (xor_assoc m m s) ∙ ap (λ (u : ℕ). bit_xor u s) (xor_self m))))

pub with_mask_complement : (a m x y s : ℕ) → a < 2 ^ 64 → y ≡ bit_xor x s → bit_xor (complement a) y ≡ bit_xor (bit_xor (bit_xor a m) x) (bit_xor m (bit_xor s ones))
with_mask_complement a m x y s h e =
    ap (λ (u : ℕ). bit_xor u y) (complement-xor a h)
    ∙ xor_assoc a ones y
    ∙ with_mask a m x (bit_xor ones y) (bit_xor s ones) (xor_comm ones y ∙ ap (λ (u : ℕ). bit_xor u ones) e ∙ xor_assoc x s ones)
