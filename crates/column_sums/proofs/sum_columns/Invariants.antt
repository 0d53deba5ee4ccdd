-- `column_sums::sum_columns` meets its contract. The invariant: the columns of the first i polynomials are summed.
use Rattle.commitment.specs.Shape.{sizes_in}
use Rattle.column_sums.specs.Sums.{polynomial_sums}
use Rattle.lists.specs.Rows.{rows_of}
use lib.ListN.{drop, length}
use mathlib.Core.Path.{◌≡◌}
use Prim.Native.Nat.{◌*◌, ◌≤◌}
use mathlib.Core.List.{◌++◌}
use Rattle.column_sums.proofs.sum_columns.Given as goal

abbrev pub invariant-loop-i : goal.invariant-loop-i
invariant-loop-i l = (l.i ≤ l.s.w) × (l.out ≡ rows_of (polynomial_sums (sizes_in l.s) l.witness.coefficients.now l.witness.blinds.now l.weights) l.i ++ drop (l.s.nu * l.i) l.initial.out) × (length l.out ≡ length l.initial.out)
