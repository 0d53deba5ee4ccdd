-- `counter_search::tail_qualifies` meets its contract.
use Rattle.fiat_shamir.specs.Draw.{qualifies}
use mathlib.Core.Path.{◌∙◌, ap}
use Rattle.counter_search.proofs.tail_qualifies.Goals as goal

pub returns : goal.returns
returns c = c.qualified.ensures ∙ ap (qualifies c.args.kappa) c.draw_after.ensures
