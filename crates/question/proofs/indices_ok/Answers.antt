use mathlib.Core.Path.{◌≡◌, refl, ap, ◌∙◌}
use mathlib.Core.Bool.{Bool, ◌&&◌}
use Prim.Native.Nat.{ℕ, ◌+◌}
use Rattle.lists.specs.Pieces.{pieces}
use Rattle.lists.specs.Rising.{rising}
use Rattle.lists.specs.Tests.{all}
use Rattle.lists.specs.Numbers.{numbers, numbers_next}
use Rattle.lists.specs.Scan.{placed, placed_next}
use Rattle.lists.specs.Snoc.{snoc}
use borrow.Author.Rules.{rules}
use native.Mathlib.Omega.{arith}
use Rattle.question.proofs.indices_ok.Goals as goal

pub loop-i-init : goal.loop-i-init
unfolding pieces all rising
loop-i-init c = (search rules, refl, refl)

pub loop-i-preserved : goal.loop-i-preserved
loop-i-preserved c =
    let s = c.args in
    let i = c.loop-i.i in
    let v = c.loop-i.invariant in
    let next = placed_next s.leaves (numbers 2 i s.at s.b.now) (numbers 2 (i + 1) s.at s.b.now) c.loop-i.ok c.loop-i.low c.half-x.result
    (ap (λ (y : ℕ). snoc (numbers 2 i s.at s.b.now) y) c.half-x.ensures.0 ∙ numbers_next 2 i s.at s.b.now) v.1 v.2 in
    (search rules, c.both-ok.ensures ∙ ap (λ (t : Bool). c.loop-i.ok && t) c.both.ensures ∙ next.0, next.1)

pub returns : goal.returns
returns c =
    let e : c.loop-i.i ≡ c.args.n = omega arith in
    c.loop-i.invariant.1 ∙ ap (λ (k : ℕ). placed c.args.leaves (numbers 2 k c.args.at c.args.b.now)) e
