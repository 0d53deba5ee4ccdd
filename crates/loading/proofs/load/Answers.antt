use mathlib.Core.Path.{◌∙◌}
use Rattle.loading.proofs.Signs.{lanes_turn}
use native.Mathlib.Omega.{arith}
use Rattle.loading.proofs.load.Goals as goal

pub loop-j-preserved : goal.loop-j-preserved
loop-j-preserved c =
    let loop = c.loop-j in let s = c.args in
    let kept = c.load_lane.auto.t in (
      omega arith,
      loop.invariant.1,
      omega (arith, loop.invariant.2, kept),
      kept ∙ loop.invariant.3,
      c.load_lane.ensures.0,
      loop.invariant.5,
      lanes_turn s.values.now s.width s.lines loop.t
          c.load_lane.new.t loop.j (omega (arith, loop.invariant.1, c.loop-j-test.true)) loop.invariant.6 c.load_lane.ensures.1
          c.load_lane.ensures.2,
    )
