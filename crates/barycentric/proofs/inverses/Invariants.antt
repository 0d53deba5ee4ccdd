-- `barycentric::inverses` meets its contract. The invariant: the places from 1 below k have their inverses.
use mathlib.Core.Path.{◌≡◌}
use lib.ListN.{length}
use Rattle.algebra.specs.Inverse.{inv_n}
use Rattle.lists.specs.Fill.{Filled}
use Rattle.barycentric.proofs.inverses.Given as goal

abbrev pub invariant-loop-k : goal.invariant-loop-k
invariant-loop-k l = (length l.out ≡ l.n) × Filled inv_n l.out 1 l.k
