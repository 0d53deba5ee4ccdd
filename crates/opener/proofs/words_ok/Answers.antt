-- `opener::words_ok` meets its contract.
use mathlib.Core.Path.{ap, ◌∙◌}
use mathlib.Core.Bool.{Bool, ◌&&◌}
use Rattle.lists.specs.Tests.{every_before}
use Rattle.opener.proofs.words_ok.Goals as goal

pub returns : goal.returns
returns c =
    every_before _ c.both.result c.lent_elements.result _ c.lent_elements.ensures (c.both.ensures ∙ ap (λ (x : Bool). x && c.lent_elements.result) c.elements_ok.ensures)
