-- `reply_values::fill_values` meets its contract.
use mathlib.Core.Path.{◌≡◌, sym, ◌∙◌, ap, ap₂}
use mathlib.Core.List.{List}
use Prim.Native.Nat.{ℕ, ◌+◌, ◌*◌, ◌≤◌}
use native.Mathlib.Nat.{mul_comm}
use lib.ListN.{length, take, replicate, length-replicate}
use lib.Seq.{length-take-le}
use Rattle.scheme.specs.Sizes.{SizesInOrder}
use Rattle.scheme.specs.Question.{read_question}
use Rattle.scheme.proofs.Accepted.{sizes_in_order}
use Rattle.commitment.specs.Shape.{sizes_in}
use Rattle.commitment.proofs.Places.{width-high, answers_fit}
use Rattle.question.specs.declared.Query.{Query}
use Rattle.question.proofs.Answer.{taken, well_asked, points_count}
use Rattle.reply_values.proofs.Values.{values_done}
use borrow.Author.Rules.{rules}
use native.Mathlib.Omega.{arith}
use Rattle.reply_values.proofs.fill_values.Goals as goal

-- the room for an answer
abbrev room : List ℕ
room = replicate 320 0

in_order : (q : Query) → SizesInOrder (sizes_in q.shape)
in_order q = sizes_in_order (sizes_in q.shape) (taken q.bytes.now q.shape q.m q.asks).sizes_ok_lem

-- an answer fits the room
fits : (q : Query) (n : ℕ) → n ≡ q.shape.w * q.shape.nu + q.shape.l → n ≤ length room
fits q n e = omega (arith, e, width-high (sizes_in q.shape) (in_order q), length-replicate {A = ℕ} 320 0)

pub row_width-width-requires : goal.row_width-width-requires
row_width-width-requires c = in_order c.args.query.now

pub answers_at-requires : goal.answers_at-requires
answers_at-requires c = in_order c.args.query.now

pub slice_bounds-points-end : goal.slice_bounds-points-end
slice_bounds-points-end c =
    let q = c.args.query.now in
    let b : length c.points-points.result ≡ 8 = search rules in
    omega (arith, (taken q.bytes.now q.shape q.m q.asks).m_high, b)

pub slice_bounds-all_values-end : goal.slice_bounds-all_values-end
slice_bounds-all_values-end c =
    let q = c.args.query.now in
    sym (ap length c.points-points.ensures ∙ points_count q.bytes.now q.shape q.m q.asks)

pub slice_bounds-answer-end : goal.slice_bounds-answer-end
slice_bounds-answer-end c = fits c.args.query.now _ c.row_width-width.ensures

pub slice_bounds-all_values-end-2 : goal.slice_bounds-all_values-end-2
slice_bounds-all_values-end-2 c = sym (length-take-le c.row_width-width.result room (fits c.args.query.now _ c.row_width-width.ensures))

pub all_values-requires : goal.all_values-requires
all_values-requires c =
    let q = c.args.query.now in
    let m : ℕ = q.m in
    let n : ℕ = c.row_width-width.result in
    let from : ℕ = c.answers_at.result in
    let x : List ℕ = take m c.points-points.result in
    let a : length (take n room) ≡ n = length-take-le n room (fits q n c.row_width-width.ensures) in
    let p : length x ≡ m = ap length c.points-points.ensures ∙ points_count q.bytes.now q.shape m q.asks in
    let e : from + 4 * length (take n room) * length x ≡ from + 4 * n * m = ap₂ (λ (i j : ℕ). from + 4 * i * j) a p in
    let f = answers_fit (sizes_in q.shape) m n from (length c.args.reply.now) c.row_width-width.ensures c.answers_at.ensures c.requires.0 in (
      omega (arith, a, c.row_width-width.ensures, mul_comm q.shape.nu q.shape.w),
      c.requires.1 ∙ ap (λ (k : ℕ). q.shape.w * k) (sym p),
      omega (arith, e, f),
    )

pub returns : goal.returns
returns c =
    let q = c.args.query.now in
    let m : ℕ = q.m in
    let n : ℕ = c.row_width-width.result in
    let a : length (take n room) ≡ n = length-take-le n room (fits q n c.row_width-width.ensures) in
    let w = well_asked q.bytes.now q.shape m q.asks in
    c.all_values.ensures
    ∙ values_done (read_question q.bytes.now) c.args.reply.now (sizes_in q.shape) (length (take n room)) c.answers_at.result (take m c.points-points.result) w.1
    (a ∙ c.row_width-width.ensures) c.answers_at.ensures c.points-points.ensures
    (ap length c.points-points.ensures ∙ points_count q.bytes.now q.shape m q.asks ∙ w.2)
