-- `smallwood::smallwood_reply_length` meets its contract: by the answer of sizing.
use mathlib.Core.Path.{◌∙◌}
use Rattle.scheme.specs.Question.{read_question}
use Rattle.scheme.specs.Reply.{reply_length}
use Rattle.scheme.proofs.Accepted.{well_formed}
use Rattle.scheme.proofs.Lengths.{some_bytes}
use Rattle.smallwood.proofs.Sized.{told_is}
use Rattle.smallwood.proofs.smallwood_reply_length.Goals as goal

pub returns : goal.returns
returns c =
    let s = c.args in
    c.put_number.ensures ∙ told_is reply_length s.question.now (λ wf. some_bytes (read_question s.question.now) (well_formed s.question.now wf)) s.length.now c.reply_length.result c.reply_length.ensures
