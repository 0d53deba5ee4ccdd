-- `evaluation_test::leaf_ok` meets its contract: by the table, or by products of the distances.
use mathlib.Core.Path.{refl}
use Prim.Native.Nat.{◌+◌}
use lib.ListN.{length}
use Rattle.evaluation_test.proofs.Evaluation.{by_table, by_products}
use native.Mathlib.Omega.{arith}
use Rattle.evaluation_test.proofs.leaf_ok.Goals as goal

pub returns-then-far-table : goal.returns-then-far-table
returns-then-far-table c =
    let s = c.args in
    let w = s.weighed.now in
    by_table w.count s.near w.weights.now w.answers.now w.scales.now s.rows.now (s.near + length w.weights.now) s.table.now c.weighed_ok.result
    c.requires.1 refl (omega arith) c.requires.3 c.weighed_ok.ensures

pub returns-else-far-table : goal.returns-else-far-table
returns-else-far-table c =
    let s = c.args in
    let w = s.weighed.now in
    by_products w.count s.near w.weights.now w.answers.now w.scales.now s.rows.now (length s.products.now) c.cofactors.new.out c.weighed_ok-else-far-table.result
    c.requires.1
    c.requires.8 (omega arith)
    c.cofactors.ensures c.weighed_ok-else-far-table.ensures
