-- `interpolation::interpolate` meets its contract: the tests of what is lent, and then the work.
use mathlib.Core.Path.{sym}
use native.Mathlib.Nat.{ne_of_gt}
use native.Mathlib.Omega.{arith}
use Rattle.std.proofs.lemmas.Result.{err_from_is_err_and}
use Rattle.refusal.specs.Numbers.{number, number_positive}
use Rattle.scheme.proofs.Interpolation.{sampled, verdict_lent, left}
use Rattle.interpolation.proofs.interpolate.Goals as goal

pub returns-in_err-samples_verdict : goal.returns-in_err-samples_verdict
returns-in_err-samples_verdict c =
    let args = c.args in
    let refusal = c.in_err-samples_verdict.field-0.0 in
    let refused = ne_of_gt (number_positive refusal) in
    let p = err_from_is_err_and c.from_residual.result c.from_residual.ensures.1 in
    rw (p.1, p.2) (left args.points.now args.values.now args.coefficients.now (number refusal)
    (verdict_lent args.points.now args.values.now args.coefficients.now (number refusal) c.in_err-samples_verdict.ensures refused) refused)

pub interpolate_with-requires : goal.interpolate_with-requires
interpolate_with-requires c =
    let args = c.args in
    (sampled args.points.now args.values.now args.coefficients.now (sym c.in_ok-samples_verdict.ensures), omega arith, omega arith)

pub interpolate_with-requires-else-points-le-FEW_SAMPLES : goal.interpolate_with-requires-else-points-le-FEW_SAMPLES
interpolate_with-requires-else-points-le-FEW_SAMPLES c =
    let args = c.args in
    let s = sampled args.points.now args.values.now args.coefficients.now (sym c.in_ok-samples_verdict.ensures) in
    (s, s.few, omega arith)
