-- `answers::plain_columns` meets its contract.
use mathlib.Core.Path.{sym}
use Rattle.answers.proofs.Combining.{one_column, one_sum}
use lib.Seq.{length-take-le}
use lib.ListN.{length}
use Rattle.answers.proofs.plain_columns.Goals as goal

pub slice_bounds-dot-end : goal.slice_bounds-dot-end
slice_bounds-dot-end c =
    let s = c.args in
    sym (length-take-le (length s.weights.now) s.columns.now (one_column s.weights.now s.columns.now s.out.now c.if-out-eq1.true c.requires.0))

pub dot-sum-requires : goal.dot-sum-requires
dot-sum-requires c =
    let s = c.args in (
      length-take-le (length s.weights.now) s.columns.now (one_column s.weights.now s.columns.now s.out.now c.if-out-eq1.true c.requires.0),
      c.requires.1,
    )

pub returns-then-out-eq1 : goal.returns-then-out-eq1
returns-then-out-eq1 c =
    let s = c.args in
    one_sum s.weights.now s.columns.now s.out.now c.if-out-eq1.true c.dot-sum.result.0 c.dot-sum.ensures
