-- `evaluations::gather_rows` meets its contract. The invariant: the lanes below j are there.
use mathlib.Core.Path.{◌≡◌}
use lib.ListN.{length}
use Rattle.lent.specs.Witnessed.{witnessed}
use Rattle.commitment.specs.Shape.{sizes_in}
use Rattle.evaluations.specs.Values.{RowLanes}
use Rattle.evaluations.proofs.gather_rows.Given as goal

abbrev pub invariant-loop-j : goal.invariant-loop-j
invariant-loop-j l = (length l.values ≡ length l.initial.values) × RowLanes (sizes_in l.s) (witnessed l.witness) l.lo l.j l.values
