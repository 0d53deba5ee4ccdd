-- `proof_checker::check_drawn` meets its contract.
use Rattle.scheme.specs.Question.{most_question}
use Rattle.scheme.specs.Check.{checking}
use Rattle.lists.specs.Bytes.{Bytes}
use Rattle.checker.proofs.Asking.{checked}
use Rattle.lists.specs.Parts.{lent_fits, lent_length, lent_front}
use lib.Seq.{length-take-le}
use Prim.Native.Nat.{ℕ, ◌≤◌}
use mathlib.Core.Path.{◌≡◌, sym, ◌∙◌, ap}
use lib.ListN.{replicate, length}
use Rattle.proof_checker.proofs.Checked.{offline}
use Rattle.proof_checker.proofs.Asked.{facts, question_high, asked-drawn}
use borrow.Author.Rules.{rules}
use native.Mathlib.Omega.{arith}
use Rattle.proof_checker.proofs.check_drawn.Goals as goal

pub question_length-n-requires : goal.question_length-n-requires
question_length-n-requires c =
    let s = c.args in
    (facts c.args.query.now.bytes.now c.args.query.now.shape c.args.query.now.m (offline s.query.now.bytes.now s.query.now.kappa s.query.now.shape s.query.now.m s.query.now.asks)).few_points

pub slice_bounds-asked-end : goal.slice_bounds-asked-end
slice_bounds-asked-end c =
    let s = c.args in
    let n : length (replicate {A = ℕ} 255 0) ≡ most_question = search rules in
    omega (arith, n, c.question_length-n.ensures, question_high s.query.now.bytes.now s.query.now.shape s.query.now.m (offline s.query.now.bytes.now s.query.now.kappa s.query.now.shape s.query.now.m s.query.now.asks))

pub slice_bounds-draw_question-end : goal.slice_bounds-draw_question-end
slice_bounds-draw_question-end c =
    let question_length_lem = c.question_length-n in
    let s = c.args in
    let n : length (replicate {A = ℕ} 255 0) ≡ most_question = search rules in
    let room : question_length_lem.result ≤ length (replicate {A = ℕ} 255 0) = omega (arith, n, question_length_lem.ensures, question_high s.query.now.bytes.now s.query.now.shape s.query.now.m (offline s.query.now.bytes.now s.query.now.kappa s.query.now.shape s.query.now.m s.query.now.asks)) in
    sym (length-take-le question_length_lem.result (replicate {A = ℕ} 255 0) room)

pub draw_question-requires : goal.draw_question-requires
draw_question-requires c =
    let question_length_lem = c.question_length-n in
    let s = c.args in
    let n : length (replicate {A = ℕ} 255 0) ≡ most_question = search rules in
    let room : question_length_lem.result ≤ length (replicate {A = ℕ} 255 0) = omega (arith, n, question_length_lem.ensures, question_high s.query.now.bytes.now s.query.now.shape s.query.now.m (offline s.query.now.bytes.now s.query.now.kappa s.query.now.shape s.query.now.m s.query.now.asks)) in (
      c.requires.1,
      length-take-le question_length_lem.result (replicate {A = ℕ} 255 0) room ∙ question_length_lem.ensures,
    )

pub slice_bounds-asked-end-2 : goal.slice_bounds-asked-end-2
slice_bounds-asked-end-2 c =
    let question_length_lem = c.question_length-n in
    let draw-question = c.draw_question in
    let s = c.args in
    let n : length (replicate {A = ℕ} 255 0) ≡ most_question = search rules in
    let room : question_length_lem.result ≤ length (replicate {A = ℕ} 255 0) = omega (arith, n, question_length_lem.ensures, question_high s.query.now.bytes.now s.query.now.shape s.query.now.m (offline s.query.now.bytes.now s.query.now.kappa s.query.now.shape s.query.now.m s.query.now.asks)) in
    lent_fits question_length_lem.result draw-question.new.out (replicate {A = ℕ} 255 0) room draw-question.auto.out

pub slice_bounds-drawn-end : goal.slice_bounds-drawn-end
slice_bounds-drawn-end c =
    let question_length_lem = c.question_length-n in
    let draw-question = c.draw_question in
    let s = c.args in
    let n : length (replicate {A = ℕ} 255 0) ≡ most_question = search rules in
    let room : question_length_lem.result ≤ length (replicate {A = ℕ} 255 0) = omega (arith, n, question_length_lem.ensures, question_high s.query.now.bytes.now s.query.now.shape s.query.now.m (offline s.query.now.bytes.now s.query.now.kappa s.query.now.shape s.query.now.m s.query.now.asks)) in
    lent_length question_length_lem.result draw-question.new.out (replicate {A = ℕ} 255 0) room draw-question.auto.out

pub invariant_of-drawn : goal.invariant_of-drawn
invariant_of-drawn c =
    let question_length_lem = c.question_length-n in
    let draw-question = c.draw_question in
    let s = c.args in
    let n : length (replicate {A = ℕ} 255 0) ≡ most_question = search rules in
    let room : question_length_lem.result ≤ length (replicate {A = ℕ} 255 0) = omega (arith, n, question_length_lem.ensures, question_high s.query.now.bytes.now s.query.now.shape s.query.now.m (offline s.query.now.bytes.now s.query.now.kappa s.query.now.shape s.query.now.m s.query.now.asks)) in
    record {
      asks = asked-drawn s.query.now.bytes.now s.query.now.shape s.query.now.m (offline s.query.now.bytes.now s.query.now.kappa s.query.now.shape s.query.now.m s.query.now.asks) s.indices.now c.requires.0 c.requires.1 _
          (lent_front question_length_lem.result draw-question.new.out (replicate {A = ℕ} 255 0) room draw-question.auto.out
          ∙ draw-question.ensures);
    }

pub returns : goal.returns
returns c =
    let question_length_lem = c.question_length-n in
    let draw-question = c.draw_question in
    let check-reply = c.check_reply in
    let s = c.args in
    let n : length (replicate {A = ℕ} 255 0) ≡ most_question = search rules in
    let room : question_length_lem.result ≤ length (replicate {A = ℕ} 255 0) = omega (arith, n, question_length_lem.ensures, question_high s.query.now.bytes.now s.query.now.shape s.query.now.m (offline s.query.now.bytes.now s.query.now.kappa s.query.now.shape s.query.now.m s.query.now.asks)) in
    let as-drawn = lent_front question_length_lem.result draw-question.new.out (replicate {A = ℕ} 255 0) room draw-question.auto.out
    ∙ draw-question.ensures in
    check-reply.ensures.values_after
    ∙ checked _ s.reply.now s.values.now s.query.now.shape s.query.now.m (asked-drawn s.query.now.bytes.now s.query.now.shape s.query.now.m (offline s.query.now.bytes.now s.query.now.kappa s.query.now.shape s.query.now.m s.query.now.asks) s.indices.now c.requires.0 c.requires.1 _ as-drawn)
    ∙ ap (λ (D : Bytes). checking D s.reply.now s.values.now) as-drawn
