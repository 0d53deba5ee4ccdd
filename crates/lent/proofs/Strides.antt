-- Every step-th element of a list.
use mathlib.Core.Path.{◌≡◌, refl}
use mathlib.Core.List.{List}
use Prim.Native.Nat.{ℕ, ◌+◌, ◌*◌}
use lib.ListN.{get_or}
use Rattle.lent.specs.Rows.{strided}

pub strided_at : (xs : List ℕ) (first step i : ℕ) → get_or xs (first + step * i) 0 ≡ strided xs first step i
unfolding strided
strided_at xs first step i = refl
