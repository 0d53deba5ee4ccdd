-- `planner::permutations` meets its contract: by the answer to the question.
use mathlib.Core.Path.{ap, ◌∙◌}
use Rattle.std.proofs.lemmas.Result.{err_from_is_err_and}
use Rattle.scheme.specs.Work.{question_work, counting}
use Rattle.planner.proofs.Sized.{can_plan, counted, not_planned}
use Rattle.planner.proofs.permutations.Goals as goal

pub returns-in_err-asked : goal.returns-in_err-asked
returns-in_err-asked c =
    let p = err_from_is_err_and c.from_residual.result c.from_residual.ensures.1 in
    rw (p.1, p.2) (not_planned question_work c.args.question.now c.in_err-asked.field-0.0 c.in_err-asked.ensures.verdict)

pub work_with-requires : goal.work_with-requires
work_with-requires c =
    let q = c.in_ok-asked.asked in
    let p = can_plan q.bytes.now q.shape q.m q.asks c.asked_missing.result c.asked_missing.ensures in
    (p.0, p.2)

pub returns : goal.returns
returns c =
    let q = c.in_ok-asked.asked in
    let missing = c.asked_missing in
    let r = c.work_with in
    counted q.bytes.now q.shape q.m q.asks missing.result r.result missing.ensures r.ensures ∙ ap counting c.in_ok-asked.ensures.query
