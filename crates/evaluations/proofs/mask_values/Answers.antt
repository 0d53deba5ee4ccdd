-- `evaluations::mask_values` meets its contract: dot products with the powers.
use lib.ListN.{length}
use Rattle.evaluations.proofs.Masks.{mask_values}
use Rattle.evaluations.proofs.mask_values.Goals as goal

pub returns : goal.returns
returns c =
    let s = c.args in
    mask_values s.x.0 (length s.weights.now) c.powers.new.out c.powers.ensures
    (length s.out.now) s.masks.now c.dots.new.out c.requires.1 c.dots.ensures
