-- `smallwood::smallwood_permutations` meets its contract: by the answer of counting.
use mathlib.Core.Path.{◌∙◌}
use Rattle.scheme.specs.Work.{question_work}
use Rattle.scheme.proofs.Work.{some_work}
use Rattle.smallwood.proofs.Sized.{told_is}
use Rattle.smallwood.proofs.smallwood_permutations.Goals as goal

pub returns : goal.returns
returns c =
    let s = c.args in
    c.put_number.ensures ∙ told_is question_work s.question.now (some_work s.question.now) s.count.now c.permutations.result c.permutations.ensures
