-- `expansion::expand_from` meets its contract. The invariant: the form from the pair's first point on is expanded.
use mathlib.Core.Path.{◌≡◌}
use Prim.Native.Nat.{◌+◌, ◌*◌}
use lib.ListN.{length}
use Rattle.lists.specs.Range.{up_from}
use Rattle.algebra.specs.Divided.{expanded}
use Rattle.expansion.proofs.expand_from.Given as goal

abbrev pub invariant-loop-pair : goal.invariant-loop-pair
invariant-loop-pair l = (l.s ≡ expanded (up_from l.first.0 (length l.initial.s)) l.initial.s (2 * l.pair + l.odd)) × (length l.s ≡ length l.initial.s)
