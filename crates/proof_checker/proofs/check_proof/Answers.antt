-- `proof_checker::check_proof` meets its contract.
use mathlib.Core.Path.{◌∙◌, ap₂}
use Prim.Native.Nat.{ℕ}
use Rattle.std.proofs.lemmas.Result.{err_from_is_err_and}
use Rattle.lists.specs.Bytes.{Bytes}
use Rattle.refusal.specs.Numbers.{number, number_positive}
use Rattle.fiat_shamir.specs.CheckProof.{checking_proof}
use Rattle.proof_checker.proofs.Verdicts.{refused_question}
use Rattle.proof_checker.proofs.check_proof.Goals as goal

pub returns-in_err-query : goal.returns-in_err-query
returns-in_err-query c =
    let s = c.args in
    let refusal = c.in_err-query.field-0.0 in
    let p = err_from_is_err_and c.from_residual.result c.from_residual.ensures.1 in
    rw (p.1, p.2) (refused_question s.question.now s.kappa s.proof.now s.values.now (number refusal) (number_positive refusal) c.in_err-query.ensures.verdict)

pub returns : goal.returns
returns c =
    let s = c.args in
    let e = c.in_ok-query.ensures.query in
    c.check_asked.ensures ∙ ap₂ (λ (b : Bytes) (κ : ℕ). checking_proof b κ s.proof.now s.values.now) e.0 e.1
