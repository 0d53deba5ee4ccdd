-- `checker::asked_verdict` meets its contract.
use mathlib.Core.Path.{◌≡◌, sym, ap, ap₂, ◌∙◌}
use mathlib.Core.List.{List}
use Prim.Native.Nat.{ℕ, ◌-◌}
use lib.ListN.{length, take, drop}
use Rattle.refusal.specs.Numbers.{number_of}
use Rattle.lists.specs.Tests.{verdict_of}
use Rattle.scheme.specs.Question.{Question}
use Rattle.scheme.specs.Work.{work_by}
use Rattle.scheme.specs.Check.{reply_tests}
use Rattle.scheme.specs.Sizes.{SizesInOrder}
use Rattle.scheme.proofs.Accepted.{sizes_in_order}
use Rattle.commitment.specs.Shape.{sizes_in}
use Rattle.question.specs.declared.Query.{Query}
use Rattle.question.proofs.Answer.{Taken, taken, asked_indices, challenges_count, points_count}
use Rattle.checker.proofs.Asking.{was_posed, posed_is}
use borrow.Author.Rules.{rules}
use native.Mathlib.Omega.{arith}
use Rattle.checker.proofs.asked_verdict.Goals as goal

known : (q : Query) → Taken q.bytes.now q.shape q.m
known q = taken q.bytes.now q.shape q.m q.asks

in_order : (q : Query) → SizesInOrder (sizes_in q.shape)
in_order q = sizes_in_order (sizes_in q.shape) (known q).sizes_ok_lem

pub slice_bounds-task-end : goal.slice_bounds-task-end
slice_bounds-task-end c = omega (arith, c.salt_at-salt.ensures, (known c.args.query.now).long)

pub slice_bounds-task-end-2 : goal.slice_bounds-task-end-2
slice_bounds-task-end-2 c = omega (arith, c.challenges_at-end.ensures, (known c.args.query.now).long)

pub slice_bounds-challenges-end : goal.slice_bounds-challenges-end
slice_bounds-challenges-end c =
    let b : length c.challenges-challenges.result ≡ 4 = search rules in
    omega (arith, (in_order c.args.query.now).η-high, b)

pub slice_bounds-task-end-3 : goal.slice_bounds-task-end-3
slice_bounds-task-end-3 c =
    let q = c.args.query.now in
    sym (ap length c.challenges-challenges.ensures ∙ challenges_count q.bytes.now q.shape q.m q.asks)

pub slice_bounds-points-end : goal.slice_bounds-points-end
slice_bounds-points-end c =
    let b : length c.points-points.result ≡ 8 = search rules in
    omega (arith, (known c.args.query.now).m_high, b)

pub slice_bounds-task-end-4 : goal.slice_bounds-task-end-4
slice_bounds-task-end-4 c =
    let q = c.args.query.now in
    sym (ap length c.points-points.ensures ∙ points_count q.bytes.now q.shape q.m q.asks)

pub slice_bounds-indices-end : goal.slice_bounds-indices-end
slice_bounds-indices-end c =
    let b : length c.indices-indices.result ≡ 64 = search rules in
    omega (arith, (in_order c.args.query.now).ℓ-high, b)

pub slice_bounds-task-end-5 : goal.slice_bounds-task-end-5
slice_bounds-task-end-5 c =
    let q = c.args.query.now in
    sym (ap length c.indices-indices.ensures ∙ (asked_indices q.bytes.now q.shape q.m q.asks).0)

pub invariant_of-task : goal.invariant_of-task
invariant_of-task c =
    let q = c.args.query.now in
    let salt = c.salt_at-salt in
    let end = c.challenges_at-end in record {
      well_posed = was_posed q.bytes.now q.shape q.m (take (end.result - salt.result) (drop salt.result q.bytes.now)) (take q.shape.eta c.challenges-challenges.result)
          (take q.m c.points-points.result) (take q.shape.l c.indices-indices.result) q.asks
          (ap₂ (λ (to from : ℕ). take (to - from) (drop from q.bytes.now)) end.ensures salt.ensures) c.challenges-challenges.ensures c.points-points.ensures
          c.indices-indices.ensures;
    }

pub returns : goal.returns
returns c =
    let q = c.args.query.now in
    let b : List ℕ = q.bytes.now in
    let root = c.root_at-root in
    let salt = c.salt_at-salt in
    let end = c.challenges_at-end in
    let same =
    posed_is b q.shape q.m (take (salt.result - root.result) (drop root.result b)) (take (end.result - salt.result) (drop salt.result b))
    (take q.shape.eta c.challenges-challenges.result) (take q.m c.points-points.result) (take q.shape.l c.indices-indices.result) q.asks
    (ap₂ (λ (to from : ℕ). take (to - from) (drop from b)) salt.ensures root.ensures)
    (ap₂ (λ (to from : ℕ). take (to - from) (drop from b)) end.ensures salt.ensures)
    c.challenges-challenges.ensures c.points-points.ensures c.indices-indices.ensures in record {
      verdict_value = c.reply_verdict.ensures.verdict_value ∙ ap (λ (u : Question). verdict_of (reply_tests u c.args.reply.now)) same;
      permutations_value = c.reply_verdict.ensures.permutations_value ∙ ap (λ (u : Question). work_by u (number_of c.reply_verdict.result.outcome)) same;
    }
