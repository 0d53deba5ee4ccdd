-- `question::ask` meets its contract.
use Rattle.std.proofs.lemmas.Result.{err_from_is_err_and}
use Rattle.refusal.specs.Numbers.{number, number_positive}
use Rattle.question.proofs.Order.{header_decides}
use Rattle.question.proofs.ask.Goals as goal

pub returns-in_err-shape-clause-verdict : goal.returns-in_err-shape-clause-verdict
returns-in_err-shape-clause-verdict c =
    let refusal = c.in_err-shape.field-0.0 in
    let p = err_from_is_err_and c.from_residual.result c.from_residual.ensures.1 in
    rw (p.1, p.2) (header_decides c.args.question.now (number refusal) c.in_err-shape.ensures.verdict (number_positive refusal))
