-- `smallwood::check_bytes` meets its contract: by the answer to the question, then by the length of the buffer; in room for few values or for all.
use mathlib.Core.Path.{◌≡◌, ap, ◌∙◌, subst}
use Prim.Native.Nat.{ℕ, ◌*◌, ◌≤◌}
use lib.ListN.{length, take, replicate, length-replicate}
use lib.Seq.{length-take-le}
use native.Mathlib.Omega.{arith}
use Rattle.std.proofs.lemmas.Result.{err_from_is_err_and}
use Rattle.lists.specs.Bytes.{Bytes}
use Rattle.refusal.specs.Numbers.{number, number_positive}
use Rattle.question.specs.Asked.{Asks}
use Rattle.scheme.specs.Check.{checking_c}
use Rattle.smallwood.proofs.Values.{few_values, question_refused, wrong_length, checked-bytes}
use Rattle.smallwood.proofs.check_bytes.Goals as goal

-- the words in front of a room
words_length : (count room : ℕ) → count ≤ room → length (take count (replicate {A = ℕ} room 0)) ≡ count
words_length count room h = length-take-le count (replicate {A = ℕ} room 0) (omega (arith, h, length-replicate {A = ℕ} room 0))

pub returns-in_err-query : goal.returns-in_err-query
returns-in_err-query c =
    let s = c.args in
    let refusal = c.in_err-query.field-0.0 in
    let p = err_from_is_err_and c.from_residual.result c.from_residual.ensures.1 in
    rw (p.1, p.2) (question_refused s.question.now s.reply.now s.values.now (number refusal) (number_positive refusal) c.in_err-query.ensures.verdict)

pub test_buffer-requires : goal.test_buffer-requires
test_buffer-requires c =
    let q = c.in_ok-query.query in
    few_values q.bytes.now q.shape q.m q.asks

pub returns-in_err-test_buffer : goal.returns-in_err-test_buffer
returns-in_err-test_buffer c =
    let s = c.args in
    let q = c.in_ok-query.query in
    let e = c.in_err-test_buffer.ensures.other in
    let p = err_from_is_err_and c.from_residual-in_err-test_buffer.result c.from_residual-in_err-test_buffer.ensures.1 in
    rw (p.1, p.2) (ap (λ (v : ℕ). (v, s.values.now)) e.0
    ∙ wrong_length q.bytes.now s.reply.now s.values.now q.shape q.m q.asks e.1
    ∙ ap (λ (b : Bytes). checking_c b s.reply.now s.values.now) c.in_ok-query.ensures.query)

pub check_in-requires-else-count-le-FEW_VALUES : goal.check_in-requires-else-count-le-FEW_VALUES
check_in-requires-else-count-le-FEW_VALUES c =
    let q = c.in_ok-query.query in
    (omega arith, few_values q.bytes.now q.shape q.m q.asks, c.in_ok-test_buffer.ensures.fits)

pub returns-then-count-le-FEW_VALUES : goal.returns-then-count-le-FEW_VALUES
returns-then-count-le-FEW_VALUES c =
    let s = c.args in
    let q = c.in_ok-query.query in
    let n : ℕ = q.shape.w * q.m in
    checked-bytes s.question.now s.reply.now s.values.now q.shape q.m (subst (λ (b : Bytes). Asks b q.shape q.m) c.in_ok-query.ensures.query q.asks)
    (take n (replicate {A = ℕ} 64 0)) _ c.in_ok-test_buffer.ensures.fits
    (words_length n 64 c.if-count-le-FEW_VALUES.true) c.check_in.ensures

pub returns-else-count-le-FEW_VALUES : goal.returns-else-count-le-FEW_VALUES
returns-else-count-le-FEW_VALUES c =
    let s = c.args in
    let q = c.in_ok-query.query in
    let n : ℕ = q.shape.w * q.m in
    checked-bytes s.question.now s.reply.now s.values.now q.shape q.m (subst (λ (b : Bytes). Asks b q.shape q.m) c.in_ok-query.ensures.query q.asks)
    (take n (replicate {A = ℕ} 2048 0)) _ c.in_ok-test_buffer.ensures.fits
    (words_length n 2048 (few_values q.bytes.now q.shape q.m q.asks)) c.check_in-else-count-le-FEW_VALUES.ensures
