use mathlib.Core.List.{List}
use Prim.Native.Nat.{ℕ}
use lib.ListN.{length}
use Rattle.lists.specs.Rows.{rows_start, row_turn}
use Rattle.evaluation_test.specs.Evaluation.{weighed_row}
use Rattle.evaluation_test.proofs.Evaluation.{length-weighed_row, weigh_turn}
use Rattle.evaluation_test.proofs.weigh_answers.Goals as goal

pub loop-p-init : goal.loop-p-init
loop-p-init c =
    let s = c.args in
    rows_start (length s.weights.now) (weighed_row s.weights.now s.answers.now) s.answers.now

pub loop-p-preserved : goal.loop-p-preserved
loop-p-preserved c =
    let ws : List ℕ = c.args.weights.now in
    let d : List ℕ = c.args.answers.now in
    let p : ℕ = c.loop-p.p in
    let t : List ℕ = c.loop-p.answers in
    let r : List ℕ = c.weigh.new.values in
    row_turn (length ws) (weighed_row ws d) (length-weighed_row ws d) d t r p c.loop-p.invariant (weigh_turn ws d t r p c.loop-p.invariant c.weigh.ensures)
