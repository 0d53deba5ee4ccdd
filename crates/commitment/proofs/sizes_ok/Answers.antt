-- `commitment::sizes_ok` meets its contract.
use mathlib.Core.Path.{sym, ◌∙◌}
use Rattle.lists.specs.Tests.{every, within_high}
use Rattle.scheme.specs.Sizes.{sizes_ok}
use Rattle.commitment.proofs.sizes_ok.Goals as goal

pub leaf_count-requires : goal.leaf_count-requires
leaf_count-requires c = within_high 1 12 c.args.s.h (sym c.in_range.ensures ∙ c.if-in_range.true)

pub returns-then-in_range : goal.returns-then-in_range
unfolding sizes_ok every
returns-then-in_range c = simp (c.widths_ok.ensures, c.leaf_count.ensures, sym c.in_range.ensures ∙ c.if-in_range.true)

pub returns-else-in_range : goal.returns-else-in_range
unfolding sizes_ok every
returns-else-in_range c = simp (sym c.in_range.ensures ∙ c.if-in_range.false)
