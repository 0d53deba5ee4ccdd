use mathlib.Core.Path.{refl, ◌∙◌}
use Rattle.stepping.proofs.Stepping.{table_holds, table_turn, table_done}
use native.Mathlib.Omega.{arith}
use Rattle.stepping.proofs.steps.Goals as goal

pub loop-b-init : goal.loop-b-init
loop-b-init c =
    let args = c.args in
    (omega arith, c.requires.1, c.requires.0, refl, c.requires.2, table_holds args.t.now args.blocks args.lanes args.w.now c.requires.3 c.requires.4)

pub loop-b-preserved : goal.loop-b-preserved
loop-b-preserved c =
    let loop = c.loop-b in let args = c.args in (
      omega arith,
      loop.invariant.1,
      omega (arith, loop.invariant.2, c.block.auto.t),
      c.block.auto.t ∙ loop.invariant.3,
      c.block.auto.w ∙ loop.invariant.4,
      table_turn args.t.now args.blocks args.lanes loop.t loop.w loop.b c.block.new.t
          c.block.new.w loop.invariant.1 c.loop-b-test.true loop.invariant.5 c.block.ensures,
    )

pub returns : goal.returns
returns c =
    let loop = c.loop-b in let args = c.args in
    table_done args.t.now args.blocks args.lanes loop.t loop.w loop.b (omega (arith, loop.invariant.0, c.loop-b-test.false)) loop.invariant.5
