-- `batching_test::batching_agrees` meets its contract.
use Rattle.batching_test.proofs.Batching.{agrees}
use Rattle.batching_test.proofs.batching_agrees.Goals as goal

pub returns : goal.returns
returns c =
    let s = c.args in
    let b = s.batched.now in
    agrees b.width b.mu b.challenges.now b.answers.now b.scales.now s.e.0 s.values.now s.k
    c.evaluate_by-left.result.0 c.dot-rows.result.0 c.multiply_add-right.result.0
    c.evaluate_by-left.ensures c.dot-rows.ensures c.multiply_add-right.ensures
