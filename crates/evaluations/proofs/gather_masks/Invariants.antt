-- `evaluations::gather_masks` meets its contract. The invariant: the values at the points before t are there.
use mathlib.Core.Path.{◌≡◌}
use lib.ListN.{length}
use Rattle.evaluations.specs.Values.{MaskLanes}
use Rattle.evaluations.proofs.gather_masks.Given as goal

abbrev pub invariant-loop-t : goal.invariant-loop-t
invariant-loop-t l =
    (length l.weights ≡ l.width) × (length l.values ≡ length l.initial.values) × MaskLanes l.first.0 l.masks l.width l.eta l.t l.values
