-- `evaluations::fill_rows` meets its contract. The invariant: the columns below lo are filled.
use mathlib.Core.Path.{◌≡◌}
use Prim.Native.Nat.{◌-◌, ◌≤◌}
use lib.ListN.{length}
use Rattle.stepping.specs.Lanes.{Small}
use Rattle.extrapolation.specs.Extrapolated.{Columns}
use Rattle.lent.specs.Witnessed.{witnessed}
use Rattle.commitment.specs.Shape.{sizes_in}
use Rattle.evaluations.specs.Values.{row_polynomial}
use Rattle.evaluations.proofs.fill_rows.Given as goal

abbrev pub invariant-loop-lo : goal.invariant-loop-lo
invariant-loop-lo l =
    (l.lo ≤ l.rows) × (length l.values ≡ length l.initial.values) × (length l.lines ≡ length l.initial.lines) × (length l.table ≡ length l.initial.table) × Small l.lines × Columns (row_polynomial (sizes_in l.s) (witnessed l.witness)) l.lo
    l.n 0 l.stride l.table

abbrev pub decreases-loop-lo : goal.decreases-loop-lo
decreases-loop-lo l = l.rows - l.lo
