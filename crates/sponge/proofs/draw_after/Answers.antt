-- `sponge::draw_after` meets its contract.
use mathlib.Core.Path.{sym, ap, ◌∙◌}
use mathlib.Core.List.{List}
use Prim.Native.Nat.{ℕ}
use lib.ListN.{length}
use Rattle.sponge.specs.Resume.{output}
use Rattle.sponge.specs.Draw.{drawn_after_is}
use Rattle.sponge.proofs.draw_after.Goals as goal

pub returns : goal.returns
returns c =
    let e = c.args in
    let n = length e.out.now in
    c.squeeze_all.ensures
    ∙ ap (λ (a : List ℕ). output a n) c.absorb_tail.ensures
    ∙ sym (drawn_after_is e.a e.tail.now n)
