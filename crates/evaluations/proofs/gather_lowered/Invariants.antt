-- `evaluations::gather_lowered` meets its contract. The invariant: the first i values are there.
use mathlib.Core.Path.{◌≡◌}
use lib.ListN.{length}
use Rattle.evaluations.specs.Values.{strided_difference}
use Rattle.evaluations.proofs.Gathering.{GatherInv}
use Rattle.evaluations.proofs.gather_lowered.Given as goal

abbrev pub invariant-loop-i : goal.invariant-loop-i
invariant-loop-i l =
    (length l.values ≡ length l.initial.values) × GatherInv (strided_difference l.elements l.first l.step l.blinds l.start l.apart) l.to l.j l.initial.values l.values l.i
