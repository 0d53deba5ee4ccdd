-- `field::inverse` meets its contract. The invariant: a times k leaves r modulo q. Each step puts q % r for r; q is prime, so r stays above 0.
use mathlib.Core.Path.{◌≡◌}
use Prim.Native.Nat.{◌<◌, ◌*◌, ◌%◌}
use Rattle.algebra.specs.Prime.{q}
use Rattle.field.proofs.inverse.Given as goal

abbrev pub invariant-loop-r : goal.invariant-loop-r
invariant-loop-r l = (0 < l.r) × (l.r < q) × (l.k.0 < q) × ((l.initial.r * l.k.0) % q ≡ l.r)

abbrev pub decreases-loop-r : goal.decreases-loop-r
decreases-loop-r l = l.r
