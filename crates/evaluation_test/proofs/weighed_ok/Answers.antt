-- `evaluation_test::weighed_ok` meets its contract.
use mathlib.Core.Path.{◌≡◌}
use Prim.Native.Nat.{ℕ}
use lib.ListN.{length, take, replicate}
use lib.Seq.{length-take-le}
use Rattle.evaluation_test.proofs.Evaluation.{sides}
use Rattle.evaluation_test.proofs.weighed_ok.Goals as goal

pub returns : goal.returns
returns c =
    let s = c.args in
    let w = s.weighed.now in
    let n : length (take w.count (replicate {A = ℕ} 8 0)) ≡ w.count = length-take-le w.count (replicate 8 0) c.requires.0 in
    sides w.count _ _ s.inverses.now w.weights.now w.answers.now w.scales.now s.rows.now c.dots.new.out c.dots-2.new.out c.dot-total.result.0 c.products_ok.result n n c.requires.1
    c.dot-total.ensures c.dots.ensures c.dots-2.ensures c.products_ok.ensures
