-- `evaluations::gather_lane` meets its contract. The invariant: the first i values are there.
use mathlib.Core.Path.{◌≡◌}
use lib.ListN.{length}
use Rattle.lent.specs.Rows.{strided}
use Rattle.evaluations.proofs.Gathering.{GatherInv}
use Rattle.evaluations.proofs.gather_lane.Given as goal

abbrev pub invariant-loop-i : goal.invariant-loop-i
invariant-loop-i l = (length l.values ≡ length l.initial.values) × GatherInv (strided l.elements l.first l.step) l.to l.j l.initial.values l.values l.i
