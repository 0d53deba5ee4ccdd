-- `reply_tests::reply_verdict` meets its contract: 7 where the length is not right, else the verdict on the reply's words, in room for short answers or for all.
use mathlib.Core.Path.{◌∙◌, ap}
use Rattle.refusal.specs.Numbers.{number_of}
use Rattle.scheme.proofs.Work.{before_hashing}
use Rattle.reply_tests.specs.Asked.{asked}
use Rattle.reply_tests.proofs.Verdicts.{said_work, no_work, say_7, say_later}
use Rattle.reply_tests.proofs.reply_verdict.Goals as goal

pub returns-then-reply-length_for : goal.returns-then-reply-length_for
returns-then-reply-length_for c =
    let u = asked c.args.task.now in record {
      verdict_value = ap number_of c.refused.ensures.0 ∙ say_7 c.args.task.now c.args.reply.now c.length_for.result c.length_for.ensures c.if-reply-length_for.true;
      permutations_value = said_work u (ap number_of c.refused.ensures.0) c.refused.ensures.1 (no_work u 7 before_hashing.1.1.1.1.1.1.0);
    }

pub returns-then-row_width-le32-clause-verdict_value : goal.returns-then-row_width-le32-clause-verdict_value
returns-then-row_width-le32-clause-verdict_value c =
    c.read_verdict.ensures.verdict_value ∙ say_later c.args.task.now c.args.reply.now (c.if-reply-length_for.false ∙ c.length_for.ensures)

pub returns-else-row_width-le32-clause-verdict_value : goal.returns-else-row_width-le32-clause-verdict_value
returns-else-row_width-le32-clause-verdict_value c =
    c.read_verdict-else-row_width-le32.ensures.verdict_value ∙ say_later c.args.task.now c.args.reply.now (c.if-reply-length_for.false ∙ c.length_for.ensures)
