use mathlib.Core.Path.{refl, ◌∙◌}
use lib.ListN.{take, length-set}
use Rattle.lists.specs.Pieces.{pieces}
use Rattle.lists.specs.Numbers.{read_next}
use native.Mathlib.Omega.{arith}
use Rattle.codec.proofs.read_halves.Goals as goal

pub loop-i-init : goal.loop-i-init
unfolding pieces
loop-i-init c = (refl, refl)

pub loop-i-preserved : goal.loop-i-preserved
loop-i-preserved c =
    let s = c.args in
    let loop = c.loop-i in
    let v = loop.invariant in
    (length-set loop.x-items loop.i c.half.result ∙ v.0, read_next 2 loop.i s.at s.b.now (take s.n s.out.now) loop.x-items c.half.result (omega (arith, v.0)) v.1 c.half.ensures.0)
