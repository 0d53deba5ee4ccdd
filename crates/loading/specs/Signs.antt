-- The values of lanes with changing signs, as a table over them begins.
use Rattle.std.specs.Prelude.{◌≡◌, List, ℕ, suc, ◌+◌, ◌-◌, ◌*◌, ◌<◌}
use Rattle.algebra.specs.Field.{K, of, ◌⊗◌}
use Rattle.algebra.specs.Lagrange.{sign}
use Rattle.algebra.specs.Differences.{clip}
use Rattle.stepping.specs.Lanes.{entry}

-- value k of lane j: the values of the lanes stand point by point, four places to a point, and the last point's is value 0
unfoldable pub value_from : List ℕ → ℕ → ℕ → ℕ → K
value_from src width j k = of (entry src (4 * (width - suc k) + j))

-- the lines below top of lane j have its values, and 0 above them, with changing signs
unfoldable pub Signed : List ℕ → ℕ → ℕ → ℕ → ℕ → List ℕ → Type 0
Signed src width lines top j u = (r k : ℕ) → r < top → r + suc k ≡ lines → of (entry u (4 * r + j)) ≡ sign k ⊗ clip width (value_from src width j) k
