-- `barycentric::weights` meets its contract.
use lib.ListN.{length}
use Rattle.algebra.specs.BarycentricTurns.{weights_done}
use Rattle.barycentric.proofs.weights.Goals as goal

pub returns : goal.returns
returns c =
    weights_done (length c.args.out.now) c.inverse_factorials-table.result c.weights_from.new.out
    c.inverse_factorials-table.ensures c.weights_from.ensures
