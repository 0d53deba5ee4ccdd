-- `lent::lent_ok` meets its contract.
use Rattle.commitment.specs.Shape.{sizes_in}
use Rattle.lent.specs.Witnessed.{witnessed}
use Rattle.lent.proofs.Measures.{lent_tests_lem}
use Rattle.lent.proofs.lent_ok.Goals as goal

pub returns : goal.returns
returns c =
    lent_tests_lem (sizes_in c.args.s) (witnessed c.args.witness.now) _ _ _ _ _ _ _ _ _ _
    c.coefficient_count.ensures c.row_count.ensures
    c.blind_count.ensures c.row_width.ensures c.leaf_count.ensures
    c.both.ensures c.both-2.ensures c.both-3.ensures c.both-4.ensures c.both-5.ensures
