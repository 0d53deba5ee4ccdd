-- `divided_differences::block_products` meets its contract. The invariant: the places below i have their products.
use mathlib.Core.Path.{◌≡◌}
use Prim.Native.Nat.{◌+◌}
use lib.ListN.{length}
use Rattle.lists.specs.Fill.{Filled}
use Rattle.algebra.specs.Rests.{product_n}
use Rattle.divided_differences.proofs.block_products.Given as goal

abbrev pub invariant-loop-i : goal.invariant-loop-i
invariant-loop-i l = (length l.out ≡ length l.initial.out) × Filled (λ j. product_n l.points (l.from + j) (l.from + j)) l.out 0 l.i
