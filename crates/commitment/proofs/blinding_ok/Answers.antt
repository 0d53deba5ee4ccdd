-- `commitment::blinding_ok` meets its contract.
use Rattle.lists.specs.Tests.{every, within_high}
use Rattle.commitment.proofs.Sizes.{blinding_is}
use Prim.Native.Nat.{◌≤◌}
use mathlib.Core.Path.{◌∙◌, sym}
use borrow.Author.Rules.{rules}
use Rattle.commitment.proofs.blinding_ok.Goals as goal

pub overflow_sub-s : goal.overflow_sub-s
overflow_sub-s c =
    let h : c.args.s.beta ≤ 16 = within_high 0 16 c.args.s.beta (sym c.in_range.ensures ∙ c.if-in_range.true) in search rules

pub returns-then-in_range : goal.returns-then-in_range
unfolding every
returns-then-in_range c =
    blinding_is c.args.s.mu c.args.s.beta _
    (sym c.in_range.ensures ∙ c.if-in_range.true) c.both.ensures

pub returns-else-in_range : goal.returns-else-in_range
unfolding every
returns-else-in_range c = simp (sym c.in_range.ensures ∙ c.if-in_range.false)
