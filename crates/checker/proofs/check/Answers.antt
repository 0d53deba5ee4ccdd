-- `checker::check` meets its contract: by the answer to the question.
use mathlib.Core.Path.{sym, ap, ◌∙◌}
use Prim.Native.Nat.{ℕ}
use Rattle.lists.specs.Bytes.{Bytes}
use Rattle.refusal.specs.Numbers.{number, number_of, number_positive}
use Rattle.scheme.specs.Question.{read_question}
use Rattle.scheme.specs.Work.{checking_counted}
use Rattle.scheme.proofs.Work.{counted_is, refused_none}
use Rattle.reply_tests.proofs.Verdicts.{said_work, no_work}
use Rattle.checker.proofs.Asking.{checked, unchecked}
use Rattle.checker.proofs.check.Goals as goal

pub returns-in-Ok : goal.returns-in-Ok
returns-in-Ok c =
    let q = c.in-Ok.query in
    let reply = c.args.reply.now in
    let values = c.args.values.now in
    counted_is q.bytes.now reply values (number_of c.check_reply.result.outcome) c.check_reply.result.permutations _
    (c.check_reply.ensures.values_after ∙ checked q.bytes.now reply values q.shape q.m q.asks) c.check_reply.ensures.permutations_value
    ∙ ap (λ (b : Bytes). checking_counted b reply values) c.in-Ok.ensures.query

pub returns-in-Err : goal.returns-in-Err
returns-in-Err c =
    let s = c.args in
    let u = read_question s.question.now in
    let v = number c.in-Err.refusal in
    let positive = number_positive c.in-Err.refusal in
    let says = ap number_of c.refused.ensures.0 in
    counted_is s.question.now s.reply.now s.values.now (number_of c.refused.result.outcome) c.refused.result.permutations s.values.now
    (ap (λ (n : ℕ). (n, s.values.now)) says ∙ unchecked s.question.now s.reply.now s.values.now v positive c.in-Err.ensures.verdict)
    (said_work u says c.refused.ensures.1 (no_work u v (refused_none s.question.now v positive (sym c.in-Err.ensures.verdict))))
