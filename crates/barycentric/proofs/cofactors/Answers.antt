-- `barycentric::cofactors` meets its contract: both chains, entry by entry multiplied.
use lib.ListN.{length}
use Rattle.algebra.specs.BarycentricTurns.{cofactors_done}
use Rattle.barycentric.proofs.cofactors.Goals as goal

pub returns : goal.returns
returns c =
    cofactors_done c.args.near (length c.args.out.now) c.chains.new.below c.chains.new.above c.weigh.new.values c.chains.ensures.0 c.chains.ensures.1 c.weigh.ensures
