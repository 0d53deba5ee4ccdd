-- `divided_differences::take_off` meets its contract. The invariant: of so many pairs behind k the rests and products are new, and behind these they are as they were.
use mathlib.Core.Path.{◌≡◌}
use Prim.Native.Nat.{◌+◌, ◌*◌}
use lib.ListN.{length}
use Rattle.lists.specs.Fill.{Filled, entry_of}
use Rattle.algebra.specs.Rests.{rest_turn, product_turn}
use Rattle.divided_differences.proofs.take_off.Given as goal

abbrev pub invariant-loop-pair : goal.invariant-loop-pair
invariant-loop-pair l =
    (length l.rests ≡ length l.points) × (length l.products ≡ length l.points)
    × Filled (rest_turn l.minus l.initial.rests l.initial.products) l.rests (l.k + 1) (l.k + 1 + 2 * l.pair)
    × Filled (entry_of l.initial.rests) l.rests (l.k + 1 + 2 * l.pair) (length l.points)
    × Filled (product_turn l.points l.k l.initial.products) l.products (l.k + 1) (l.k + 1 + 2 * l.pair)
    × Filled (entry_of l.initial.products) l.products (l.k + 1 + 2 * l.pair) (length l.points)
