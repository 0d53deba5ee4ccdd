-- `expansion::expand` meets its contract. The invariant: the form from the block's first point on is expanded.
use mathlib.Core.Path.{◌≡◌}
use mathlib.Core.List.{List}
use Prim.Native.Nat.{ℕ, ◌*◌}
use lib.ListN.{length}
use Rattle.algebra.specs.Divided.{expanded}
use Rattle.expansion.proofs.expand.Given as goal

abbrev pub invariant-loop-block : goal.invariant-loop-block
invariant-loop-block l =
    (length l.s ≡ length l.points)
    × ((t : List ℕ) → length t ≡ length l.points → l.initial.s ≡ expanded l.points t (4 * l.initial.block) → l.s ≡ expanded l.points t (4 * l.block))
