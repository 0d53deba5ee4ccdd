-- `divided_differences::product_on` meets its contract. The invariant: the product of the differences to the points before from + i.
use mathlib.Core.Path.{◌≡◌}
use Prim.Native.Nat.{◌+◌}
use Rattle.algebra.specs.Rests.{product_n}
use Rattle.divided_differences.proofs.product_on.Given as goal

abbrev pub invariant-loop-x : goal.invariant-loop-x
invariant-loop-x l = l.value.0 ≡ product_n l.points (l.from + l.x-index) l.k
