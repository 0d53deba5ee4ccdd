-- `prover::put_answers` meets its contract.
use Rattle.scheme.specs.Question.{most_question}
use mathlib.Core.Path.{◌∙◌, ◌≡◌, sym}
use mathlib.Core.List.{◌++◌}
use lib.Seq.{length-take-le}
use lib.ListN.{replicate, drop, length, take}
use Rattle.scheme.specs.Layers.{Lent}
use Rattle.lent.specs.Witnessed.{witnessed}
use Rattle.prover.proofs.Answers.{answers_put, asked_long, few_points, sized, sum_ask}
use Rattle.lists.specs.Parts.{lent_fits, lent_front, lent_length}
use Rattle.commitment.specs.Shape.{sizes_in}
use borrow.Author.Rules.{rules}
use Prim.Native.Nat.{ℕ}
use native.Mathlib.Omega.{arith}
use Rattle.prover.proofs.put_answers.Goals as goal

pub question_length-n-requires : goal.question_length-n-requires
question_length-n-requires c =
    few_points c.args.query.now.bytes.now (sizes_in c.args.query.now.shape) c.args.query.now.m (witnessed c.args.witness.now) c.requires.0

pub slice_bounds-indices-end : goal.slice_bounds-indices-end
slice_bounds-indices-end c =
    let n : length (replicate {A = ℕ} 64 0) ≡ 64 = search rules in
    let g = sized c.args.query.now.bytes.now (sizes_in c.args.query.now.shape) c.args.query.now.m (witnessed c.args.witness.now) c.requires.0 in
    omega (arith, n, g.ℓ-high)

pub slice_bounds-draw_question-end : goal.slice_bounds-draw_question-end
slice_bounds-draw_question-end c =
    let n : length (replicate {A = ℕ} 64 0) ≡ 64 = search rules in
    let g = sized c.args.query.now.bytes.now (sizes_in c.args.query.now.shape) c.args.query.now.m (witnessed c.args.witness.now) c.requires.0 in
    sym (length-take-le c.args.query.now.shape.l (replicate {A = ℕ} 64 0) (omega (arith, n, g.ℓ-high)))

pub slice_bounds-drawn-end : goal.slice_bounds-drawn-end
slice_bounds-drawn-end c =
    let n : length (replicate {A = ℕ} 255 0) ≡ most_question = search rules in
    let h = asked_long c.args.query.now.bytes.now (sizes_in c.args.query.now.shape) c.args.query.now.m (witnessed c.args.witness.now) c.requires.0 in
    omega (arith, n, h, c.question_length-n.ensures)

pub slice_bounds-draw_question-end-2 : goal.slice_bounds-draw_question-end-2
slice_bounds-draw_question-end-2 c =
    let question_length' = c.question_length-n in
    let n : length (replicate {A = ℕ} 255 0) ≡ most_question = search rules in
    let h = asked_long c.args.query.now.bytes.now (sizes_in c.args.query.now.shape) c.args.query.now.m (witnessed c.args.witness.now) c.requires.0 in
    sym (length-take-le question_length'.result (replicate {A = ℕ} 255 0) (omega (arith, n, h, question_length'.ensures)))

pub draw_question-requires : goal.draw_question-requires
draw_question-requires c =
    let question_length' = c.question_length-n in
    let k : length (replicate {A = ℕ} 64 0) ≡ 64 = search rules in
    let n : length (replicate {A = ℕ} 255 0) ≡ most_question = search rules in
    let l : Lent = witnessed c.args.witness.now in
    let g = sized c.args.query.now.bytes.now (sizes_in c.args.query.now.shape) c.args.query.now.m l c.requires.0 in
    let h = asked_long c.args.query.now.bytes.now (sizes_in c.args.query.now.shape) c.args.query.now.m l c.requires.0 in (
      length-take-le c.args.query.now.shape.l (replicate {A = ℕ} 64 0) (omega (arith, k, g.ℓ-high)),
      length-take-le question_length'.result (replicate {A = ℕ} 255 0) (omega (arith, n, h, question_length'.ensures)) ∙ question_length'.ensures,
    )

pub slice_bounds-drawn-end-2 : goal.slice_bounds-drawn-end-2
slice_bounds-drawn-end-2 c =
    let drawQuestion' = c.draw_question in
    let question_length' = c.question_length-n in
    let n : length (replicate {A = ℕ} 255 0) ≡ most_question = search rules in
    let h = asked_long c.args.query.now.bytes.now (sizes_in c.args.query.now.shape) c.args.query.now.m (witnessed c.args.witness.now) c.requires.0 in
    lent_fits question_length'.result drawQuestion'.new.out (replicate {A = ℕ} 255 0) (omega (arith, n, h, question_length'.ensures)) drawQuestion'.auto.out

pub slice_bounds-put_sums-end : goal.slice_bounds-put_sums-end
slice_bounds-put_sums-end c =
    let drawQuestion' = c.draw_question in
    let question_length' = c.question_length-n in
    let n : length (replicate {A = ℕ} 255 0) ≡ most_question = search rules in
    let h = asked_long c.args.query.now.bytes.now (sizes_in c.args.query.now.shape) c.args.query.now.m (witnessed c.args.witness.now) c.requires.0 in
    lent_length question_length'.result drawQuestion'.new.out (replicate {A = ℕ} 255 0) (omega (arith, n, h, question_length'.ensures)) drawQuestion'.auto.out

pub put_sums-requires : goal.put_sums-requires
put_sums-requires c =
    let drawQuestion' = c.draw_question in
    let question_length' = c.question_length-n in
    let n : length (replicate {A = ℕ} 255 0) ≡ most_question = search rules in
    let l : Lent = witnessed c.args.witness.now in
    let h = asked_long c.args.query.now.bytes.now (sizes_in c.args.query.now.shape) c.args.query.now.m l c.requires.0 in
    sum_ask c.args.query.now.bytes.now (sizes_in c.args.query.now.shape) c.args.query.now.m l c.requires.0 (take question_length'.result (drawQuestion'.new.out ++ drop question_length'.result (replicate {A = ℕ} 255 0))) c.args.out.now
    (sym (lent_length question_length'.result drawQuestion'.new.out (replicate {A = ℕ} 255 0) (omega (arith, n, h, question_length'.ensures)) drawQuestion'.auto.out) ∙ question_length'.ensures) c.requires.1

pub returns : goal.returns
returns c =
    let drawQuestion' = c.draw_question in
    let putSums' = c.put_sums in
    let question_length' = c.question_length-n in
    let s = c.args in
    let l : Lent = witnessed s.witness.now in
    let n : length (replicate {A = ℕ} 255 0) ≡ most_question = search rules in
    let h = asked_long s.query.now.bytes.now (sizes_in s.query.now.shape) s.query.now.m l c.requires.0 in
    answers_put s.query.now.bytes.now (sizes_in s.query.now.shape) s.query.now.m l c.requires.0 (take s.query.now.shape.l (replicate {A = ℕ} 64 0)) _ s.out.now
    putSums'.new.reply
    (lent_front question_length'.result drawQuestion'.new.out (replicate {A = ℕ} 255 0) (omega (arith, n, h, question_length'.ensures)) drawQuestion'.auto.out ∙ drawQuestion'.ensures)
    putSums'.ensures
