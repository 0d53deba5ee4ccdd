-- `field::power` meets its contract. The invariant: p is the power of the counter.
use mathlib.Core.Path.{◌≡◌}
use Rattle.algebra.specs.Columns.{pow_n}
use Rattle.field.proofs.power.Given as goal

abbrev pub invariant-loop : goal.invariant-loop
invariant-loop l = l.p.0 ≡ pow_n l.x.0 l.counter
