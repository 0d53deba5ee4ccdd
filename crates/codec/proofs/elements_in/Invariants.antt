-- `codec::elements_in` meets its contract. The invariant: `ok` is the test of the words so far.
use mathlib.Core.Path.{◌≡◌}
use Rattle.scheme.specs.Sizes.{elements}
use Rattle.lists.specs.Numbers.{numbers}
use Rattle.codec.proofs.elements_in.Given as goal

abbrev pub invariant-loop-i : goal.invariant-loop-i
invariant-loop-i l = l.ok ≡ elements (numbers 4 l.i l.at l.b)
