use mathlib.Core.List.{List}
use Prim.Native.Nat.{ℕ, ◌+◌, ◌*◌, ◌≤◌}
use lib.ListN.{length, drop}
use Rattle.lists.specs.Bytes.{words}
use Rattle.lists.specs.Parts.{row_fits}
use Rattle.lists.specs.Rows.{rows_start, row_turn, part_length}
use Rattle.reply_values.specs.Values.{values_at}
use Rattle.reply_values.proofs.Values.{length-values_at, answer_read, values_is}
use native.Mathlib.Omega.{arith}
use Rattle.reply_values.proofs.all_values.Goals as goal

pub loop-p-init : goal.loop-p-init
loop-p-init c =
    let s = c.args in
    let z = s.s in
    rows_start z.w (values_at z.mu z.nu z.w (length s.answer.now) s.points.now (words (length s.answer.now * length s.points.now) (drop s.at s.reply.now))) s.values.now

pub loop-p-preserved : goal.loop-p-preserved
loop-p-preserved c =
    let s = c.args in
    let z = s.s in
    let p : ℕ = c.loop-p.p in
    let w : ℕ = z.w in
    let n : ℕ = length s.answer.now in
    let ps : List ℕ = s.points.now in
    let as' : List ℕ = words (n * length ps) (drop s.at s.reply.now) in
    let a : List ℕ = c.read_words.new.out in
    let r : List ℕ = c.point_values.new.out in
    let i : w * p + w ≤ w * length ps = row_fits w p (length ps) c.loop-p-test.true in
    row_turn w (values_at z.mu z.nu w n ps as') (length-values_at z.mu z.nu w n ps as') s.values.now c.loop-p.values r p c.loop-p.invariant
    (values_is z.mu z.nu w n ps as' p c.power-base.result.0 _ a r (part_length w p c.loop-p.values (omega arith)) c.power-base.ensures
    (answer_read n (length ps) s.at p s.reply.now c.loop-p.answer a c.loop-p-test.true c.loop-p.auto.answer c.read_words.ensures)
    c.point_values.ensures)
