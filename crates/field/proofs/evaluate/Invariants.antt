-- `field::evaluate` meets its contract. The invariant: the value of the coefficients so far, which came from the last on.
use mathlib.Core.Path.{◌≡◌}
use mathlib.Core.List.{map}
use Rattle.std.proofs.Common.{reverse}
use Rattle.algebra.specs.Numbers.{eval_n}
use Rattle.field.proofs.evaluate.Given as goal

abbrev pub invariant-loop-coefficient : goal.invariant-loop-coefficient
invariant-loop-coefficient l = l.value.0 ≡ eval_n (reverse (map (λ y. y.now) l.yielded)) l.x.0
