-- `opener::open` meets its contract.
use mathlib.Core.Path.{◌≡◌, sym, ap, ◌∙◌}
use lib.ListN.{length}
use Rattle.std.proofs.lemmas.Result.{err_from_is_err_and}
use Rattle.lists.specs.Bytes.{Bytes}
use Rattle.lent.specs.Witnessed.{witnessed}
use Rattle.refusal.specs.Numbers.{number, number_positive}
use Rattle.scheme.specs.Question.{Question}
use Rattle.scheme.specs.Open.{open_verdict, opening}
use Rattle.scheme.proofs.Accepted.{sizes_in_order}
use Rattle.question.proofs.Answer.{taken, asked_indices}
use Rattle.opener.proofs.Given.{question_is}
use Rattle.opener.proofs.Outcome.{question_refused, lent_refused, is_ready, replied}
use borrow.Author.Rules.{rules}
use native.Mathlib.Omega.{arith}
use Rattle.opener.proofs.open.Goals as goal

pub returns-in_err-query : goal.returns-in_err-query
returns-in_err-query c =
    let s = c.args in
    let refusal = c.in_err-query.field-0.0 in
    let p = err_from_is_err_and c.from_residual.result c.from_residual.ensures.1 in
    rw (p.1, p.2) (question_refused s.question.now (witnessed s.witness.now) s.table.now s.tree.now s.reply.now (number refusal)
    (number_positive refusal) c.in_err-query.ensures.verdict)

pub slice_bounds-all-end : goal.slice_bounds-all-end
slice_bounds-all-end c =
    let q = c.in_ok-query.query in
    let b : length c.indices-all.result ≡ 64 = search rules in
    omega (arith, (sizes_in_order _ (taken q.bytes.now q.shape q.m q.asks).sizes_ok_lem).ℓ-high, b)

pub slice_bounds-indices-end : goal.slice_bounds-indices-end
slice_bounds-indices-end c =
    let q = c.in_ok-query.query in
    sym (ap length c.indices-all.ensures ∙ (asked_indices q.bytes.now q.shape q.m q.asks).0)

pub returns-in_err-lent_verdict : goal.returns-in_err-lent_verdict
returns-in_err-lent_verdict c =
    let s = c.args in
    let refusal = c.in_err-lent_verdict.field-0.0 in
    let p = err_from_is_err_and c.from_residual-in_err-lent_verdict.result c.from_residual-in_err-lent_verdict.ensures.1 in
    rw (p.1, p.2) (lent_refused s.question.now (witnessed s.witness.now) s.table.now s.tree.now s.reply.now (number refusal)
    (number_positive refusal)
    (c.in_err-lent_verdict.ensures ∙ ap (λ (b : Bytes). open_verdict b (witnessed s.witness.now) s.table.now s.tree.now s.reply.now) c.in_ok-query.ensures.query))

pub write_reply-requires : goal.write_reply-requires
write_reply-requires c =
    let s = c.args in
    let q = c.in_ok-query.query in (
      is_ready q.bytes.now (witnessed s.witness.now) s.table.now s.tree.now s.reply.now q.shape q.m q.asks (sym c.in_ok-lent_verdict.ensures),
      c.indices-all.ensures ∙ sym (ap (λ (u : Question). u.indices) (question_is q.bytes.now q.shape q.m q.asks)),
    )

pub returns : goal.returns
returns c =
    let s = c.args in
    let q = c.in_ok-query.query in
    replied q.bytes.now (witnessed s.witness.now) s.table.now s.tree.now s.reply.now q.shape q.m q.asks (sym c.in_ok-lent_verdict.ensures)
    c.write_reply.result c.write_reply.new.reply c.write_reply.ensures.value c.write_reply.ensures.reply_after
    ∙ ap (λ (b : Bytes). opening b (witnessed s.witness.now) s.table.now s.tree.now s.reply.now) c.in_ok-query.ensures.query
