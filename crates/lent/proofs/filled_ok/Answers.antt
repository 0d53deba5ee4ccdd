-- `lent::filled_ok` meets its contract.
use Rattle.commitment.specs.Shape.{sizes_in}
use Rattle.lent.proofs.Measures.{filled_tests}
use Rattle.lent.proofs.filled_ok.Goals as goal

pub returns : goal.returns
returns c =
    filled_tests (sizes_in c.args.s) c.args.table.now c.args.tree.now
    c.leaf_count-n.result c.record_values.result c.both.result c.leaf_count-n.ensures c.record_values.ensures c.both.ensures
