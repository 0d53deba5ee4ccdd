-- θ, ρ and π are linear: of A ⊕ M they make what they make of A ⊕ what they make of M.
use mathlib.Core.Path.{◌≡◌, refl, sym, ap, ap₂, ◌∙◌, subst}
use mathlib.Core.List.{List}
use Prim.Native.Nat.{ℕ, zero, suc, ◌+◌, ◌-◌, ◌*◌, ◌/◌, ◌%◌, ◌^◌, ◌<◌}
use native.Mathlib.Nat.{mod-lt, zero-lt-suc}
use native.Mathlib.Omega.{arith}
use lib.Bits.{bit_xor, xor_comm, xor_shr, xor_mod, xor_block}
use lib.ListN.{get_or}
use Rattle.lists.specs.Tabulate.{tabulate_from, tabulate, tabulate_ext, get_d_tabulate}
use Rattle.lists.specs.Number.{number, number_lt}
use Rattle.keccak.specs.Lane.{bit, rotl}
use Rattle.keccak.specs.Keccak.{lane, state, parity, effect, theta, offset, rho, pi}
use Rattle.keccak.specs.Held.{masked}
use Rattle.keccak.specs.Xor.{xor_assoc}

-- (a ⊕ m) ⊕ (b ⊕ n)
xor-swap : (a m b n : ℕ) → bit_xor (bit_xor a m) (bit_xor b n) ≡ bit_xor (bit_xor a b) (bit_xor m n)
xor-swap a m b n =
    xor_assoc a m (bit_xor b n)
    ∙ ap (bit_xor a) (sym (xor_assoc m b n) ∙ ap (λ (x : ℕ). bit_xor x n) (xor_comm m b) ∙ xor_assoc b m n)
    ∙ sym (xor_assoc a b (bit_xor m n))

-- ---- rotations, bit by bit

bit_lt : (x z : ℕ) → bit x z < 2
unfolding bit
bit_lt x z = mod-lt (x / 2 ^ z) (zero-lt-suc 1)

bit-xor : (x y z : ℕ) → bit (bit_xor x y) z ≡ bit_xor (bit x z) (bit y z)
unfolding bit
bit-xor x y z = ap (λ (n : ℕ). n % 2) (xor_shr x y z) ∙ xor_mod (x / 2 ^ z) (y / 2 ^ z) 1

module _ (f g : ℕ → ℕ) (hf : (z : ℕ) → f z < 2) (hg : (z : ℕ) → g z < 2) where
  number-xor : (i k : ℕ) → number 2 (tabulate_from i k (λ z. bit_xor (f z) (g z))) ≡ bit_xor (number 2 (tabulate_from i k f)) (number 2 (tabulate_from i k g))
  unfolding number
  number-xor i zero = refl
  number-xor i (suc k) =
      let m : ℕ = number 2 (tabulate_from (suc i) k f) in
      let n : ℕ = number 2 (tabulate_from (suc i) k g) in
      let lowest : (d x : ℕ) → d + 2 * x ≡ x * 2 + d = λ d x. omega arith in
      ap (λ (x : ℕ). bit_xor (f i) (g i) + 2 * x) (number-xor (suc i) k)
      ∙ lowest (bit_xor (f i) (g i)) (bit_xor m n)
      ∙ sym (ap₂ bit_xor (lowest (f i) m) (lowest (g i) n) ∙ xor_block 1 m n (f i) (g i) (hf i) (hg i))

rotl-xor : (x y n : ℕ) → rotl (bit_xor x y) n ≡ bit_xor (rotl x n) (rotl y n)
unfolding rotl
rotl-xor x y n =
    let from : ℕ → ℕ = λ z. (z + 64 - n) % 64 in
    ap (number 2) (tabulate_ext 64 (λ z. bit (bit_xor x y) (from z)) (λ z. bit_xor (bit x (from z)) (bit y (from z))) (λ z b. bit-xor x y (from z)))
    ∙ number-xor (λ z. bit x (from z)) (λ z. bit y (from z)) (λ z. bit_lt x (from z)) (λ z. bit_lt y (from z)) 0 64

entry_lt : (f : ℕ → ℕ) → ((z : ℕ) → f z < 2) → (i n k : ℕ) → get_or (tabulate_from i n f) k 0 < 2
entry_lt f h i zero k = zero-lt-suc 1
entry_lt f h i (suc n) zero = h i
entry_lt f h i (suc n) (suc k) = entry_lt f h (suc i) n k

rotl_lt : (x n : ℕ) → rotl x n < 2 ^ 64
unfolding rotl
rotl_lt x n =
    let f : ℕ → ℕ = λ z. bit x ((z + 64 - n) % 64) in
    number_lt 2 (tabulate 64 f) (entry_lt f (λ z. bit_lt x ((z + 64 - n) % 64)) 0 64)

-- ---- the steps, lane by lane

lane-masked : (a m : List ℕ) (x y : ℕ) → lane (masked a m) x y ≡ bit_xor (lane a x y) (lane m x y)
lane-masked a m x y = get_d_tabulate 25 (λ i. bit_xor (get_or a i 0) (get_or m i 0)) (5 * (y % 5) + x % 5) (omega arith)

state-masked : (f g h : ℕ → ℕ → ℕ) → ((x y : ℕ) → f x y ≡ bit_xor (g x y) (h x y)) → state f ≡ masked (state g) (state h)
state-masked f g h e =
    tabulate_ext 25 (λ i. f (i % 5) (i / 5)) (λ i. bit_xor (get_or (state g) i 0) (get_or (state h) i 0))
    (λ i b. e (i % 5) (i / 5) ∙ sym (ap₂ bit_xor (get_d_tabulate 25 (λ j. g (j % 5) (j / 5)) i b) (get_d_tabulate 25 (λ j. h (j % 5) (j / 5)) i b)))

parity-masked : (a m : List ℕ) (x : ℕ) → parity (masked a m) x ≡ bit_xor (parity a x) (parity m x)
parity-masked a m x =
    let l : ℕ → ℕ = λ y. lane a x y in
    let n : ℕ → ℕ = λ y. lane m x y in
    let two : bit_xor (lane (masked a m) x 0) (lane (masked a m) x 1) ≡ bit_xor (bit_xor (l 0) (l 1)) (bit_xor (n 0) (n 1)) =
    ap₂ bit_xor (lane-masked a m x 0) (lane-masked a m x 1) ∙ xor-swap (l 0) (n 0) (l 1) (n 1) in
    let three = ap₂ bit_xor two (lane-masked a m x 2) ∙ xor-swap (bit_xor (l 0) (l 1)) (bit_xor (n 0) (n 1)) (l 2) (n 2) in
    let four = ap₂ bit_xor three (lane-masked a m x 3) ∙ xor-swap (bit_xor (bit_xor (l 0) (l 1)) (l 2)) (bit_xor (bit_xor (n 0) (n 1)) (n 2)) (l 3) (n 3) in
    ap₂ bit_xor four (lane-masked a m x 4)
    ∙ xor-swap (bit_xor (bit_xor (bit_xor (l 0) (l 1)) (l 2)) (l 3)) (bit_xor (bit_xor (bit_xor (n 0) (n 1)) (n 2)) (n 3)) (l 4) (n 4)

effect-masked : (a m : List ℕ) (x : ℕ) → effect (masked a m) x ≡ bit_xor (effect a x) (effect m x)
effect-masked a m x =
    ap₂ bit_xor (parity-masked a m (x + 4)) (ap (λ (p : ℕ). rotl p 1) (parity-masked a m (x + 1)) ∙ rotl-xor (parity a (x + 1)) (parity m (x + 1)) 1)
    ∙ xor-swap (parity a (x + 4)) (parity m (x + 4)) (rotl (parity a (x + 1)) 1) (rotl (parity m (x + 1)) 1)

theta-masked : (a m : List ℕ) → theta (masked a m) ≡ masked (theta a) (theta m)
theta-masked a m =
    state-masked (λ x y. bit_xor (lane (masked a m) x y) (effect (masked a m) x)) (λ x y. bit_xor (lane a x y) (effect a x)) (λ x y. bit_xor (lane m x y) (effect m x))
    (λ x y. ap₂ bit_xor (lane-masked a m x y) (effect-masked a m x) ∙ xor-swap (lane a x y) (lane m x y) (effect a x) (effect m x))

rho-masked : (a m : List ℕ) → rho (masked a m) ≡ masked (rho a) (rho m)
rho-masked a m =
    state-masked (λ x y. rotl (lane (masked a m) x y) (offset x y)) (λ x y. rotl (lane a x y) (offset x y)) (λ x y. rotl (lane m x y) (offset x y))
    (λ x y. ap (λ (l : ℕ). rotl l (offset x y)) (lane-masked a m x y) ∙ rotl-xor (lane a x y) (lane m x y) (offset x y))

pi-masked : (a m : List ℕ) → pi (masked a m) ≡ masked (pi a) (pi m)
pi-masked a m =
    state-masked (λ x y. lane (masked a m) (x + 3 * y) x) (λ x y. lane a (x + 3 * y) x) (λ x y. lane m (x + 3 * y) x)
    (λ x y. lane-masked a m (x + 3 * y) x)

pub linear : (a m : List ℕ) → pi (rho (theta (masked a m))) ≡ masked (pi (rho (theta a))) (pi (rho (theta m)))
linear a m =
    ap (λ (s : List ℕ). pi (rho s)) (theta-masked a m)
    ∙ ap pi (rho-masked (theta a) (theta m))
    ∙ pi-masked (rho (theta a)) (rho (theta m))

-- each lane that ρ and π leave is below 2 ^ 64
pub turned_lt : (a : List ℕ) (i : ℕ) → i < 25 → get_or (pi (rho a)) i 0 < 2 ^ 64
turned_lt a i b =
    let x : ℕ = i % 5 + 3 * (i / 5) in
    let y : ℕ = i % 5 in
    let j : ℕ = 5 * (y % 5) + x % 5 in
    let at : get_or (pi (rho a)) i 0 ≡ rotl (lane a (j % 5) (j / 5)) (offset (j % 5) (j / 5)) =
    get_d_tabulate 25 (λ k. lane (rho a) (k % 5 + 3 * (k / 5)) (k % 5)) i b
    ∙ get_d_tabulate 25 (λ k. rotl (lane a (k % 5) (k / 5)) (offset (k % 5) (k / 5))) j (omega arith) in
    subst (λ (v : ℕ). v < 2 ^ 64) (sym at) (rotl_lt (lane a (j % 5) (j / 5)) (offset (j % 5) (j / 5)))
