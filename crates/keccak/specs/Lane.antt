-- Lanes of FIPS 202, section 3.1.1: the 64 bits A[x, y, 0] to A[x, y, 63] of a state array, here as one number, bit z at 2 ^ z.
use Rattle.std.specs.Prelude.{ℕ, ◌+◌, ◌-◌, ◌/◌, ◌%◌, ◌^◌}
use Rattle.lists.specs.Tabulate.{tabulate}
use Rattle.lists.specs.Number.{number}

-- bit z of a lane
unfoldable pub bit : ℕ → ℕ → ℕ
bit x z = x / 2 ^ z % 2

-- the lane rotated by n ≤ 64: its bit z is bit (z - n) mod 64 of x, as steps θ and ρ use it (sections 3.2.1, 3.2.2)
unfoldable pub rotl : ℕ → ℕ → ℕ
rotl x n = number 2 (tabulate 64 (λ z. bit x ((z + 64 - n) % 64)))

-- each bit of the lane plus 1, modulo 2, as step χ uses it (section 3.2.4)
abbrev pub complement : ℕ → ℕ
complement x = 2 ^ 64 - 1 - x
