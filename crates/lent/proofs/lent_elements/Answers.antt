-- `lent::lent_elements` meets its contract.
use Rattle.scheme.specs.Layers.{Lent}
use Rattle.lent.specs.Witnessed.{witnessed}
use Rattle.lent.proofs.Measures.{element_tests}
use Rattle.lent.proofs.lent_elements.Goals as goal

pub returns : goal.returns
returns c =
    let l : Lent = witnessed c.args.witness.now in
    element_tests l.coefficients l.tails l.blinds l.masks _ _ _ _ _ _ _
    c.elements_ok-c.ensures c.elements_ok-t.ensures c.elements_ok-b.ensures
    c.elements_ok-m.ensures c.both.ensures c.both-2.ensures c.both-3.ensures
