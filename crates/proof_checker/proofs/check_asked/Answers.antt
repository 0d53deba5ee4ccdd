-- `proof_checker::check_asked` meets its contract.
use Rattle.commitment.specs.Shape.{sizes_in}
use Prim.Native.Nat.{◌≤◌}
use Rattle.commitment.proofs.Places.{buffer_high, records_high}
use Rattle.proof_checker.proofs.Verdicts.{refused_2, refused_7}
use Rattle.proof_checker.proofs.Checked.{known}
use borrow.Author.Rules.{rules}
use native.Mathlib.Omega.{arith}
use Rattle.proof_checker.proofs.check_asked.Goals as goal

pub overflow_mul-query : goal.overflow_mul-query
overflow_mul-query c =
    let s = c.args in
    let f = known s.query.now.bytes.now s.query.now.kappa s.query.now.shape s.query.now.m s.query.now.asks in
    let h = buffer_high (sizes_in s.query.now.shape) f.in_order s.query.now.m f.few_points in search rules

pub returns-then-values-query : goal.returns-then-values-query
returns-then-values-query c =
    let s = c.args in
    refused_2 s.query.now.bytes.now s.query.now.kappa s.proof.now s.values.now s.query.now.shape s.query.now.m s.query.now.asks c.if-values-query.true

pub records_at-requires : goal.records_at-requires
records_at-requires c =
    let s = c.args in
    let f = known s.query.now.bytes.now s.query.now.kappa s.query.now.shape s.query.now.m s.query.now.asks in
    (f.in_order, f.few_points)

pub overflow_add-records_at : goal.overflow_add-records_at
overflow_add-records_at c =
    let records-at = c.records_at in
    let s = c.args in
    let f = known s.query.now.bytes.now s.query.now.kappa s.query.now.shape s.query.now.m s.query.now.asks in
    let h : records-at.result ≤ 15360 = omega (arith, records-at.ensures, records_high (sizes_in s.query.now.shape) f.in_order s.query.now.m f.few_points) in search rules

pub returns-then-proof-records_at : goal.returns-then-proof-records_at
returns-then-proof-records_at c =
    let s = c.args in
    refused_7 s.query.now.bytes.now s.query.now.kappa s.proof.now s.values.now s.query.now.shape s.query.now.m s.query.now.asks c.if-values-query.false (omega (arith, c.if-proof-records_at.true, c.records_at.ensures))
