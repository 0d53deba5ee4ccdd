use Rattle.reply_values.proofs.Values.{point_start, point_turn}
use Rattle.reply_values.proofs.point_values.Goals as goal

pub loop-i-init : goal.loop-i-init
loop-i-init c =
    let s = c.args in
    point_start s.nu s.base.0 s.answer.now s.out.now

pub loop-i-preserved : goal.loop-i-preserved
loop-i-preserved c =
    let s = c.args in
    point_turn s.nu s.base.0 s.answer.now s.out.now c.loop-i.out c.loop-i.i c.evaluate.result.0 c.loop-i-test.true c.loop-i.invariant c.evaluate.ensures
