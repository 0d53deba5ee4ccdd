-- `checker::check_reply` meets its contract.
use mathlib.Core.Path.{◌≡◌, ap, sym, ◌∙◌}
use Prim.Native.Nat.{ℕ, ◌*◌}
use Rattle.refusal.specs.Numbers.{number_of}
use Rattle.scheme.specs.Question.{read_question}
use Rattle.scheme.proofs.Work.{before_hashing}
use Rattle.question.specs.declared.Query.{Query}
use Rattle.reply_tests.proofs.Verdicts.{said_work, no_work}
use Rattle.checker.proofs.Asking.{accepted, not_accepted, answer_2, answer_refused, answer_0, values_count, accepted_room}
use Rattle.checker.proofs.check_reply.Goals as goal

count : (q : Query) → q.shape.w * q.m ≡ (read_question q.bytes.now).sizes.w * (read_question q.bytes.now).m
count q = values_count q.bytes.now q.shape q.m q.asks

pub returns-then-values-query : goal.returns-then-values-query
returns-then-values-query c =
    let u = read_question c.args.query.now.bytes.now in
    let says = ap number_of c.refused.ensures.0 in record {
      values_after = ap (λ (v : ℕ). (v, c.args.values.now)) says
          ∙ answer_2 u c.args.reply.now c.args.values.now (λ e. c.if-values-query.true (e ∙ sym (count c.args.query.now)));
      permutations_value = said_work u says c.refused.ensures.1 (no_work u 2 before_hashing.1.0);
    }

pub fill_values-requires : goal.fill_values-requires
fill_values-requires c =
    let q = c.args.query.now in
    let answer = c.asked_verdict-answer in (
      accepted_room q.bytes.now c.args.reply.now q.shape q.m (number_of answer.result.outcome) q.asks answer.ensures.verdict_value
          (accepted answer.result.outcome (sym c.is_ok.ensures.value ∙ c.if-is_ok.true)),
      c.if-values-query.false,
    )

pub returns-then-is_ok-clause-values_after : goal.returns-then-is_ok-clause-values_after
returns-then-is_ok-clause-values_after c =
    let q = c.args.query.now in
    let answer = c.asked_verdict-answer in
    answer_0 (read_question q.bytes.now) c.args.reply.now c.args.values.now (number_of answer.result.outcome) c.fill_values.new.values
    (c.if-values-query.false ∙ count q) answer.ensures.verdict_value (accepted answer.result.outcome (sym c.is_ok.ensures.value ∙ c.if-is_ok.true)) c.fill_values.ensures

pub returns-else-is_ok-clause-values_after : goal.returns-else-is_ok-clause-values_after
returns-else-is_ok-clause-values_after c =
    let q = c.args.query.now in
    let answer = c.asked_verdict-answer in
    answer_refused (read_question q.bytes.now) c.args.reply.now c.args.values.now (number_of answer.result.outcome) (c.if-values-query.false ∙ count q)
    answer.ensures.verdict_value (not_accepted answer.result.outcome (sym c.is_ok.ensures.value ∙ c.if-is_ok.false))
