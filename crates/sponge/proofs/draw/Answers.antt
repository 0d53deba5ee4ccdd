-- `sponge::draw` meets its contract.
use mathlib.Core.Path.{◌∙◌}
use lib.ListN.{length}
use Rattle.sponge.proofs.Resumed.{draw-alone}
use Rattle.sponge.proofs.draw.Goals as goal

pub returns : goal.returns
returns c =
    let e = c.args in
    c.draw_after.ensures ∙ draw-alone e.s.now (length e.out.now)
