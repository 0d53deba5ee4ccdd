-- `planner::asked_missing` meets its contract.
use mathlib.Core.Path.{◌≡◌, sym, ap, ◌∙◌, subst}
use mathlib.Core.List.{List}
use native.Mathlib.Omega.{arith}
use lib.ListN.{length}
use Rattle.tree.specs.Clauses.{IndexSet}
use Rattle.tree.specs.Sets.{missing}
use Rattle.scheme.proofs.Accepted.{sizes_in_order}
use Rattle.commitment.specs.Shape.{sizes_in}
use Rattle.question.proofs.Answer.{taken, asked_indices}
use borrow.Author.Rules.{rules}
use Rattle.planner.proofs.asked_missing.Goals as goal

pub slice_bounds-indices-end : goal.slice_bounds-indices-end
slice_bounds-indices-end c =
    let s = c.args in
    let b : length c.indices-indices.result ≡ 64 = search rules in
    omega (arith, (sizes_in_order (sizes_in s.query.now.shape) (taken s.query.now.bytes.now s.query.now.shape s.query.now.m s.query.now.asks).sizes_ok_lem).ℓ-high, b)

pub slice_bounds-count_missing-end : goal.slice_bounds-count_missing-end
slice_bounds-count_missing-end c =
    let s = c.args in
    sym (ap length c.indices-indices.ensures ∙ (asked_indices s.query.now.bytes.now s.query.now.shape s.query.now.m s.query.now.asks).0)

pub count_missing-requires : goal.count_missing-requires
count_missing-requires c =
    let s = c.args in
    subst (IndexSet s.query.now.shape.h) (sym c.indices-indices.ensures) (asked_indices s.query.now.bytes.now s.query.now.shape s.query.now.m s.query.now.asks).1

pub returns : goal.returns
returns c =
    c.count_missing.ensures ∙ ap (λ (x : List _). length (missing 2 c.args.query.now.shape.h x)) c.indices-indices.ensures
