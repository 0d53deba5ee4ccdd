-- SHAKE256 of FIPS 202 on strings of whole bytes: sections 4, 5, 6.2 and B.1. The capacity is 512 bits, the rate 1088 bits, which are
-- 136 bytes or 17 lanes. A byte holds eight bits of a string, the first as its lowest bit (section B.1).
use Rattle.std.specs.Prelude.{List, [], ◌∷◌, ◌++◌, ℕ, zero, suc, ◌+◌, ◌-◌, ◌*◌, ◌/◌, ◌%◌, length, get_or, take, drop, replicate}
use Rattle.std.specs.Int.Bits.{bit_xor}
use Rattle.lists.specs.Tabulate.{tabulate}
use Rattle.lists.specs.Number.{number}
use Rattle.keccak.specs.Keccak.{keccak_f}
use Rattle.keccak.specs.Strings.{word, bytes}

-- ---- sections 5.1 and 6.2: the bits after the message

-- section 5.1, algorithm 9, pad10*1(x, m): with j = (-m - 2) mod x, a 1, j zeros and a 1, which make m bits up to a multiple of x > 1
unfoldable pub pad : ℕ → ℕ → List ℕ
pad x m = 1 ∷ replicate ((x + x - 2 - m % x) % x) 0 ++ 1 ∷ []

-- section 6.2, and step 1 of algorithm 8: what follows a message of n bytes, SHAKE's suffix 1111 and then the padding
unfoldable pub added : ℕ → List ℕ
added n = 1 ∷ 1 ∷ 1 ∷ 1 ∷ pad 1088 (8 * n + 4)

-- section B.1: the first n bytes of a string of bits
unfoldable pub octets : ℕ → List ℕ → List ℕ
octets zero b = []
octets (suc n) b = number 2 (take 8 b) ∷ octets n (drop 8 b)

-- the padded message P of algorithm 8, step 1
unfoldable pub padded : List ℕ → List ℕ
padded m = m ++ octets (length (added (length m)) / 8) (added (length m))

-- ---- section 4, algorithm 8: SPONGE[KECCAK-f[1600], pad10*1, 1088]

-- step 6, S ⊕ (P_i || 0^c) where P_i begins at byte `at` of p: the 17 lanes of the rate, and those of the capacity as they are
unfoldable pub xor_block : List ℕ → List ℕ → ℕ → List ℕ
xor_block a p at = tabulate 17 (λ j. bit_xor (get_or a j 0) (word p (at + 8 * j))) ++ drop 17 a

-- steps 5 and 6: S after the first n blocks of p are absorbed
unfoldable pub absorbed : List ℕ → ℕ → List ℕ
absorbed p zero = replicate 25 0
absorbed p (suc n) = keccak_f (xor_block (absorbed p n) p (136 * n))

-- steps 7 to 10: n blocks of output, Trunc_r(S) || Trunc_r(f(S)) || ..
unfoldable pub squeezed : ℕ → List ℕ → List ℕ
squeezed zero a = []
squeezed (suc n) a = take 136 (bytes a) ++ squeezed n (keccak_f a)

-- section 6.2: SHAKE256(M, d) for d bytes of output. d / 136 + 1 blocks are at least d bytes, and more blocks change no byte of the first d
unfoldable pub shake256 : List ℕ → ℕ → List ℕ
shake256 m d = take d (squeezed (d / 136 + 1) (absorbed (padded m) (length (padded m) / 136)))
