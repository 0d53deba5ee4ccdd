-- The permutation KECCAK-f[1600] of FIPS 202, section 3: lanes of w = 64 bits, l = 6, 24 rounds.
use Rattle.std.specs.Prelude.{cond, List, [], ◌∷◌, ℕ, zero, suc, ◌+◌, ◌-◌, ◌*◌, ◌/◌, ◌%◌, ◌^◌, eqb, get_or, set, take}
use Rattle.std.specs.Int.Bits.{bit_xor, bit_and}
use Rattle.lists.specs.Tabulate.{tabulate}
use Rattle.keccak.specs.Lane.{rotl, complement}

-- ---- section 3.1: the state array A, as the list of its 25 lanes. Lane (x, y) stands at 5 y + x, in the order of section 3.1.2:
-- A[x, y, z] = S[64 (5 y + x) + z]

-- lane (x, y), both modulo 5
abbrev pub lane : List ℕ → ℕ → ℕ → ℕ
lane a x y = get_or a (5 * (y % 5) + x % 5) 0

-- the state whose lane (x, y) is f x y
abbrev pub state : (ℕ → ℕ → ℕ) → List ℕ
state f = tabulate 25 (λ i. f (i % 5) (i / 5))

-- ---- section 3.2.1, algorithm 1: θ

-- step 1: C[x], the parity of each column of sheet x
abbrev pub parity : List ℕ → ℕ → ℕ
parity a x = bit_xor (bit_xor (bit_xor (bit_xor (lane a x 0) (lane a x 1)) (lane a x 2)) (lane a x 3)) (lane a x 4)

-- step 2: D[x, z] = C[x - 1, z] ⊕ C[x + 1, z - 1]
abbrev pub effect : List ℕ → ℕ → ℕ
effect a x = bit_xor (parity a (x + 4)) (rotl (parity a (x + 1)) 1)

-- step 3: A[x, y] ⊕ D[x]
abbrev pub theta : List ℕ → List ℕ
theta a = state (λ x y. bit_xor (lane a x y) (effect a x))

-- ---- section 3.2.2, algorithm 2: ρ

-- step 3 from t on, n turns of it, the first at lane (x, y): the offset (t + 1)(t + 2) / 2 that lane (u, v) gets. A turn goes on to lane (y, 2 x + 3 y)
abbrev pub offset_from : ℕ → ℕ → ℕ → ℕ → ℕ → ℕ → ℕ
offset_from zero t x y u v = 0
offset_from (suc n) t x y u v =
    cond (eqb (5 * y + x) (5 * v + u)) ((t + 1) * (t + 2) / 2 % 64) (offset_from n (t + 1) y ((2 * x + 3 * y) % 5) u v)

-- steps 1 to 3: t from 0 to 23, from lane (1, 0). Lane (0, 0) is not met, and stays
abbrev pub offset : ℕ → ℕ → ℕ
offset u v = offset_from 24 0 1 0 u v

-- A'[x, y, z] = A[x, y, z - offset]
abbrev pub rho : List ℕ → List ℕ
rho a = state (λ x y. rotl (lane a x y) (offset x y))

-- ---- section 3.2.3, algorithm 3: π, A'[x, y] = A[x + 3 y, x]
abbrev pub pi : List ℕ → List ℕ
pi a = state (λ x y. lane a (x + 3 * y) x)

-- ---- section 3.2.4, algorithm 4: χ, A'[x, y] = A[x, y] ⊕ ((A[x + 1, y] ⊕ 1) · A[x + 2, y]) bit by bit
abbrev pub chi : List ℕ → List ℕ
chi a = state (λ x y. bit_xor (lane a x y) (bit_and (complement (lane a (x + 1) y)) (lane a (x + 2) y)))

-- ---- section 3.2.5, algorithm 5: rc(t). The bits R[0] to R[7] of the register R as a list

-- steps 3.b to 3.e: R[k] = R[k] ⊕ R[8]
unfoldable pub feedback : List ℕ → ℕ → List ℕ
feedback r k = set r k ((get_or r k 0 + get_or r 8 0) % 2)

-- step 3: R = 0 || R, feedback to R[0], R[4], R[5] and R[6], and R = Trunc_8[R]
unfoldable pub next_register : List ℕ → List ℕ
next_register r = take 8 (feedback (feedback (feedback (feedback (0 ∷ r) 0) 4) 5) 6)

-- step 2, and t turns of step 3
unfoldable pub register : ℕ → List ℕ
register zero = 1 ∷ 0 ∷ 0 ∷ 0 ∷ 0 ∷ 0 ∷ 0 ∷ 0 ∷ []
register (suc t) = next_register (register t)

-- steps 1 and 4: R[0] after t mod 255 turns, which is 1 after none
unfoldable pub rc : ℕ → ℕ
rc t = get_or (register (t % 255)) 0 0

-- ---- section 3.2.5, algorithm 6: ι

-- step 3 for n values of j, from the given one on: bit 2 ^ j - 1 of RC is rc (j + 7 i)
unfoldable pub constant_from : ℕ → ℕ → ℕ → ℕ
constant_from zero j i = 0
constant_from (suc n) j i = rc (j + 7 * i) * 2 ^ (2 ^ j - 1) + constant_from n (j + 1) i

-- steps 2 and 3: RC for round i, with j from 0 to l = 6, and all other bits 0
unfoldable pub constant : ℕ → ℕ
constant i = constant_from 7 0 i

-- step 4: lane (0, 0) ⊕ RC
unfoldable pub iota : List ℕ → ℕ → List ℕ
iota a i = set a 0 (bit_xor (get_or a 0 0) (constant i))

-- ---- sections 3.3 and 3.4

-- section 3.3: Rnd(A, i)
unfoldable pub round : List ℕ → ℕ → List ℕ
round a i = iota (chi (pi (rho (theta a)))) i

-- section 3.3, algorithm 7: the rounds 0 to n - 1
unfoldable pub rounds : ℕ → List ℕ → List ℕ
rounds zero a = a
rounds (suc n) a = round (rounds n a) n

-- section 3.4: KECCAK-f[1600] is KECCAK-p[1600, 24], whose rounds are 0 to 23
unfoldable pub keccak_f : List ℕ → List ℕ
keccak_f a = rounds 24 a
