-- `column_sums::combine_polynomial` meets its contract. The invariant: the first t columns are summed, of the others the coefficients.
use mathlib.Core.Path.{◌≡◌}
use Prim.Native.Nat.{◌≤◌}
use lib.ListN.{length, take}
use Rattle.lists.specs.Pieces.{piece}
use Rattle.lists.specs.Fill.{Filled}
use Rattle.algebra.specs.Dot.{dot_n}
use Rattle.scheme.specs.Matrix.{column_of, polynomial}
use Rattle.commitment.specs.Shape.{sizes_in}
use Rattle.column_sums.proofs.Columns.{sum_before}
use Rattle.column_sums.proofs.combine_polynomial.Given as goal

abbrev pub invariant-loop-t : goal.invariant-loop-t
invariant-loop-t l =
    (l.t ≤ l.s.nu) × (l.before.0 ≡ sum_before (sizes_in l.s) l.witness.coefficients.now l.witness.blinds.now l.weights l.i l.t) × Filled (λ j. dot_n l.weights (column_of (sizes_in l.s) l.witness.coefficients.now l.witness.blinds.now l.i j)) l.out 0 l.t
    × Filled (λ j. dot_n (take l.s.mu l.weights) (piece l.s.mu j (polynomial (sizes_in l.s) l.witness.coefficients.now l.witness.blinds.now l.i))) l.out l.t l.s.nu × (length l.out ≡ l.s.nu)
