-- `question::header` meets its contract.
use mathlib.Core.Path.{sym, ap, ap₂, ◌∙◌}
use mathlib.Core.Bool.{not, ◌&&◌}
use lib.ListN.{length}
use borrow.Author.Tests.{lt-ltb, le-ltb}
use Rattle.lists.specs.Tests.{verdict_of, within}
use Rattle.scheme.specs.Sizes.{sizes_ok}
use Rattle.scheme.specs.Question.{header_length}
use Rattle.commitment.specs.Shape.{sizes_in}
use Rattle.commitment.specs.declared.Shape.{Shape}
use native.Mathlib.Omega.{arith}
use Rattle.question.proofs.header.Goals as goal

pub returns-then-b-root_at-clause-verdict : goal.returns-then-b-root_at-clause-verdict
unfolding verdict_of
returns-then-b-root_at-clause-verdict c = simp (lt-ltb (length c.args.b.now) header_length (omega (arith, c.root_at.ensures, c.if-b-root_at.true)))

pub marked-requires : goal.marked-requires
marked-requires c = omega (arith, c.root_at.ensures, c.if-b-root_at.false)

pub returns-then-not-marked-clause-verdict : goal.returns-then-not-marked-clause-verdict
unfolding verdict_of
returns-then-not-marked-clause-verdict c =
    simp (
      le-ltb (length c.args.b.now) header_length (omega (arith, c.root_at.ensures, c.if-b-root_at.false)),
      ap not
          (sym c.marked.ensures) ∙ (ap not c.if-not-marked.true),
    )

pub header_shape-shape-requires : goal.header_shape-shape-requires
header_shape-shape-requires c = omega (arith, c.root_at.ensures, c.if-b-root_at.false)

pub bounds-b-13 : goal.bounds-b-13
bounds-b-13 c = omega (arith, c.root_at.ensures, c.if-b-root_at.false)

pub returns-then-not-both-clause-verdict : goal.returns-then-not-both-clause-verdict
unfolding verdict_of
returns-then-not-both-clause-verdict c =
    let tested = c.both.ensures ∙ ap₂ ◌&&◌ (c.sizes_ok-sizes.ensures ∙ ap (λ (s : Shape). sizes_ok (sizes_in s)) c.header_shape-shape.ensures)
    (c.in_range.ensures ∙ ap (within 1 8) c.wide-m.ensures.0) in
    simp (
      le-ltb (length c.args.b.now) header_length
          (omega (arith, c.root_at.ensures, c.if-b-root_at.false)),
      ap not
          (sym c.marked.ensures) ∙ (ap not c.if-not-marked.false),
      ap not (sym tested) ∙ (ap not c.if-not-both.true),
    )

pub returns-clause-verdict : goal.returns-clause-verdict
unfolding verdict_of
returns-clause-verdict c =
    let tested = c.both.ensures ∙ ap₂ ◌&&◌ (c.sizes_ok-sizes.ensures ∙ ap (λ (s : Shape). sizes_ok (sizes_in s)) c.header_shape-shape.ensures)
    (c.in_range.ensures ∙ ap (within 1 8) c.wide-m.ensures.0) in
    simp (
      le-ltb (length c.args.b.now) header_length
          (omega (arith, c.root_at.ensures, c.if-b-root_at.false)),
      ap not
          (sym c.marked.ensures) ∙ (ap not c.if-not-marked.false),
      ap not (sym tested) ∙ (ap not c.if-not-both.false),
    )

pub returns-clause-header : goal.returns-clause-header
returns-clause-header c = record { verdict = sym (returns-clause-verdict c); shape = c.header_shape-shape.ensures; points = c.wide-m.ensures.0 }
