-- A state array with the parities of its columns behind it: what the code hands from round to round. The contracts of functions within this crate alone
-- cite this.
use Rattle.std.specs.Prelude.{◌≡◌, List, ◌++◌, ℕ, ◌+◌, get_or}
use Rattle.lists.specs.Tabulate.{tabulate}
use Rattle.keccak.specs.Keccak.{parity}

-- the state array at the front of a
abbrev pub lanes_of : List ℕ → List ℕ
lanes_of a = tabulate 25 (λ i. get_or a i 0)

-- the state array a, and C[0] to C[4] of θ (section 3.2.1, step 1)
unfoldable pub with_parities : List ℕ → List ℕ
with_parities a = lanes_of a ++ tabulate 5 (parity a)

-- behind the state array in a stand its parities
unfoldable pub HasParities : List ℕ → Type 0
HasParities a = tabulate 5 (λ x. get_or a (25 + x) 0) ≡ tabulate 5 (parity a)
