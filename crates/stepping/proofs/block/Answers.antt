use mathlib.Core.Path.{refl, ◌∙◌}
use Rattle.stepping.proofs.Stepping.{block_holds, block_turn, block_done}
use native.Mathlib.Omega.{arith}
use Rattle.stepping.proofs.block.Goals as goal

pub loop-j-init : goal.loop-j-init
loop-j-init c =
    let args = c.args in
    (omega arith, c.requires.1, c.requires.0, refl, c.requires.2, block_holds args.t.now args.b args.w.now args.lanes c.requires.3 c.requires.4)

pub loop-j-preserved : goal.loop-j-preserved
loop-j-preserved c =
    let loop = c.loop-j in let args = c.args in (
      omega arith,
      loop.invariant.1,
      omega (arith, loop.invariant.2, c.lane.auto.t),
      c.lane.auto.t ∙ loop.invariant.3,
      c.lane.auto.w ∙ loop.invariant.4,
      block_turn args.t.now args.b args.w.now args.lanes loop.t loop.w loop.j c.lane.new.t
          c.lane.new.w loop.invariant.1 c.loop-j-test.true loop.invariant.5 c.lane.ensures,
    )

pub returns : goal.returns
returns c =
    let loop = c.loop-j in let args = c.args in
    block_done args.t.now args.b args.w.now args.lanes loop.t loop.w loop.j (omega (arith, loop.invariant.0, c.loop-j-test.false)) loop.invariant.5
