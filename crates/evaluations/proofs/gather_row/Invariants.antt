-- `evaluations::gather_row` meets its contract: the entries, and then the tails. The invariant: the columns of the first i polynomials are there.
use mathlib.Core.Path.{◌≡◌}
use Prim.Native.Nat.{ℕ, ◌*◌}
use lib.ListN.{length}
use Rattle.stepping.specs.Lanes.{entry}
use Rattle.scheme.specs.Layers.{column}
use Rattle.lent.specs.Witnessed.{witnessed}
use Rattle.commitment.specs.Shape.{sizes_in}
use Rattle.evaluations.proofs.Gathering.{GatherInv}
use Rattle.evaluations.proofs.gather_row.Given as goal

abbrev pub invariant-loop-i : goal.invariant-loop-i
invariant-loop-i l =
    (length l.values ≡ length l.initial.values) × GatherInv (λ (a : ℕ). entry (column (sizes_in l.s) (witnessed l.witness) a) l.row) 0 l.j l.initial.values l.values (l.s.nu * l.i)
