-- `sums::dots` meets its contract. The invariants: the places so far have their products.
use Rattle.std.proofs.Common.{◌≡◌, ◌*◌, length}
use Rattle.lists.specs.Fill.{Filled, entry_of}
use Rattle.algebra.specs.Dot.{dots_of}
use Rattle.sums.proofs.dots.Given as goal

abbrev pub invariant-loop-group : goal.invariant-loop-group
invariant-loop-group l = (length l.out ≡ l.n) × Filled (entry_of (dots_of l.weights l.n l.rows)) l.out 0 (4 * l.group)

abbrev pub invariant-loop-j : goal.invariant-loop-j
invariant-loop-j l = (length l.out ≡ l.n) × Filled (entry_of (dots_of l.weights l.n l.rows)) l.out 0 l.j
