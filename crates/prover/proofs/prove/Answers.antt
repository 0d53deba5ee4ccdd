-- `prover::prove` meets its contract.
use mathlib.Core.Path.{◌∙◌, sym, ap₂}
use Prim.Native.Nat.{ℕ}
use Rattle.std.proofs.lemmas.Result.{err_from_is_err_and}
use Rattle.lists.specs.Bytes.{Bytes}
use Rattle.lent.specs.Witnessed.{witnessed}
use Rattle.refusal.specs.Numbers.{number, number_positive}
use Rattle.fiat_shamir.specs.Prove.{proving}
use Rattle.prover.proofs.Outcome.{all_done, lent_ready, lent_refused, question_refused}
use Rattle.offline_question.proofs.Answer.{offline_taken}
use Rattle.commitment.specs.Shape.{sizes_in}
use Rattle.prover.proofs.prove.Goals as goal

pub returns-in_err-query : goal.returns-in_err-query
returns-in_err-query c =
    let s = c.args in
    let refusal = c.in_err-query.field-0.0 in
    let p = err_from_is_err_and c.from_residual.result c.from_residual.ensures.1 in
    rw (p.1, p.2) (question_refused s.question.now s.kappa s.limit (witnessed s.witness.now) s.table.now s.tree.now s.proof.now (number refusal)
    (number_positive refusal) (sym c.in_err-query.ensures.verdict))

pub returns-in_err-lent_verdict : goal.returns-in_err-lent_verdict
returns-in_err-lent_verdict c =
    let s = c.args in
    let q = c.in_ok-query.query in
    let t = offline_taken q.bytes.now q.kappa q.shape q.m q.asks in
    let refusal = c.in_err-lent_verdict.field-0.0 in
    let p = err_from_is_err_and c.from_residual-in_err-lent_verdict.result c.from_residual-in_err-lent_verdict.ensures.1 in
    rw (p.1, p.2) (lent_refused q.bytes.now q.kappa s.limit (witnessed s.witness.now) s.table.now s.tree.now s.proof.now (sizes_in q.shape) q.m
    q.asks.verdict t.1 (number refusal) (number_positive refusal) c.in_err-lent_verdict.ensures
    ∙ ap₂ (λ (b : Bytes) (κ : ℕ). proving b κ s.limit (witnessed s.witness.now) s.table.now s.tree.now s.proof.now) c.in_ok-query.ensures.query.0 c.in_ok-query.ensures.query.1)

pub prove_lent-requires : goal.prove_lent-requires
prove_lent-requires c =
    let s = c.args in
    let q = c.in_ok-query.query in
    let t = offline_taken q.bytes.now q.kappa q.shape q.m q.asks in
    lent_ready q.bytes.now q.kappa s.limit (witnessed s.witness.now) s.table.now s.tree.now s.proof.now (sizes_in q.shape) q.m
    q.asks.verdict t.1 (sym c.in_ok-lent_verdict.ensures) t.0

pub returns : goal.returns
returns c =
    let s = c.args in
    let q = c.in_ok-query.query in
    let t = offline_taken q.bytes.now q.kappa q.shape q.m q.asks in
    c.prove_lent.ensures
    ∙ all_done q.bytes.now q.kappa s.limit (witnessed s.witness.now) s.table.now s.tree.now s.proof.now (sizes_in q.shape) q.m
    q.asks.verdict t.1 (sym c.in_ok-lent_verdict.ensures)
    ∙ ap₂ (λ (b : Bytes) (κ : ℕ). proving b κ s.limit (witnessed s.witness.now) s.table.now s.tree.now s.proof.now) c.in_ok-query.ensures.query.0 c.in_ok-query.ensures.query.1
