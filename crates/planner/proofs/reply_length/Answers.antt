-- `planner::reply_length` meets its contract: by the answer to the question.
use mathlib.Core.Path.{ap, ◌∙◌}
use Rattle.std.proofs.lemmas.Result.{err_from_is_err_and}
use Rattle.scheme.specs.Reply.{reply_length}
use Rattle.scheme.specs.Sizing.{sizing}
use Rattle.planner.proofs.Sized.{can_plan, sized, not_planned}
use Rattle.planner.proofs.reply_length.Goals as goal

pub returns-in_err-query : goal.returns-in_err-query
returns-in_err-query c =
    let p = err_from_is_err_and c.from_residual.result c.from_residual.ensures.1 in
    rw (p.1, p.2) (not_planned reply_length c.args.question.now c.in_err-query.field-0.0 c.in_err-query.ensures.verdict)

pub length_with-requires : goal.length_with-requires
length_with-requires c =
    let q = c.in_ok-query.query in
    can_plan q.bytes.now q.shape q.m q.asks c.asked_missing.result c.asked_missing.ensures

pub returns : goal.returns
returns c =
    let q = c.in_ok-query.query in
    let missing = c.asked_missing in
    let r = c.length_with in
    sized q.bytes.now q.shape q.m q.asks missing.result r.result missing.ensures r.ensures ∙ ap sizing c.in_ok-query.ensures.query
