-- SHAKE256 in two parts: strings absorbed from any state on, and output of any length from a state.
use Rattle.std.specs.Prelude.{List, ℕ, zero, suc, ◌+◌, ◌*◌, ◌/◌, length, take}
use Rattle.keccak.specs.Keccak.{keccak_f}
use Rattle.sponge.specs.Shake.{padded, xor_block, squeezed}

-- step 6 of algorithm 8, from the state a on: S after n blocks of p
unfoldable pub absorbed_from : List ℕ → List ℕ → ℕ → List ℕ
absorbed_from a p zero = a
absorbed_from a p (suc n) = keccak_f (xor_block (absorbed_from a p n) p (136 * n))

-- .. and after all blocks of the padded string t
unfoldable pub finished : List ℕ → List ℕ → List ℕ
finished a t = absorbed_from a (padded t) (length (padded t) / 136)

-- steps 7 to 10: the first d bytes of output
unfoldable pub output : List ℕ → ℕ → List ℕ
output a d = take d (squeezed (d / 136 + 1) a)
