use Rattle.algebra.specs.Columns.{pow_n_start, pow_n_turn}
use Rattle.field.proofs.power.Goals as goal

pub loop-init : goal.loop-init
loop-init c = pow_n_start c.args.x.0

pub loop-preserved : goal.loop-preserved
loop-preserved c = pow_n_turn c.args.x.0 c.loop.counter c.loop.p.0 c.multiply-p.result.0 c.loop.invariant c.multiply-p.ensures
