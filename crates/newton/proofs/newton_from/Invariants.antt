-- `newton::newton_from` meets its contract. The invariant: the first k coefficients are found, and the front has the differences of order k.
use mathlib.Core.Path.{◌≡◌}
use Prim.Native.Nat.{◌-◌}
use lib.ListN.{length}
use Rattle.algebra.specs.Numbers.{Elements}
use Rattle.algebra.specs.Differences.{difference_n}
use Rattle.algebra.specs.Forward.{newton_n}
use Rattle.lists.specs.Fill.{Filled}
use Rattle.newton.proofs.newton_from.Given as goal

abbrev pub invariant-loop-k : goal.invariant-loop-k
invariant-loop-k l =
    (length l.values ≡ l.n) × (length l.out ≡ l.n) × Filled (difference_n l.initial.values l.k) l.values 0 (l.n - l.k) × Elements l.values × Filled (newton_n l.initial.values) l.out 0 l.k
