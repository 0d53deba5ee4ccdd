-- Lane complementing, as in the "Keccak implementation overview" of Keccak's authors: within the permutation the code holds a state array A with six of
-- its lanes complemented, and then χ takes five complements a round, and not 25. The contracts of functions within this crate alone cite this.
use Rattle.std.specs.Prelude.{List, [], ◌∷◌, ℕ, ◌-◌, ◌^◌, get_or, set}
use Rattle.std.specs.Int.Bits.{bit_xor}
use Rattle.lists.specs.Tabulate.{tabulate}
use Rattle.keccak.specs.Keccak.{theta, rho, pi, chi}

-- the lane of 64 ones: a lane ⊕ this one is its complement, and a lane ⊕ 0 is the lane
abbrev pub ones : ℕ
ones = 2 ^ 64 - 1

-- A ⊕ M: each lane of the state array a ⊕ that of the mask m
abbrev pub masked : List ℕ → List ℕ → List ℕ
masked a m = tabulate 25 (λ i. bit_xor (get_or a i 0) (get_or m i 0))

-- the mask of the six lanes (1, 0), (2, 0), (3, 1), (2, 2), (2, 3) and (0, 4): ones in these, 0 in the others, a line for each plane
abbrev pub six : List ℕ
six =
    0 ∷ ones ∷ ones ∷ 0 ∷ 0
    ∷ 0 ∷ 0 ∷ 0 ∷ ones ∷ 0
    ∷ 0 ∷ 0 ∷ ones ∷ 0 ∷ 0
    ∷ 0 ∷ 0 ∷ ones ∷ 0 ∷ 0
    ∷ ones ∷ 0 ∷ 0 ∷ 0 ∷ 0
    ∷ []

-- the state array a with the six lanes complemented: what the code holds for a, and also the state array for which the code holds a
abbrev pub held : List ℕ → List ℕ
held a = masked a six

-- ι (section 3.2.5) and Rnd (section 3.3) with k in the place of RC: those of round i have k = RC of round i
abbrev pub iota_with : List ℕ → ℕ → List ℕ
iota_with a k = set a 0 (bit_xor (get_or a 0 0) k)

abbrev pub round_with : List ℕ → ℕ → List ℕ
round_with a k = iota_with (chi (pi (rho (theta a)))) k
