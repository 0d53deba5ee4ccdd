-- `commitment::widths_ok` meets its contract.
use Rattle.commitment.proofs.Sizes.{product_fits}
use lib.Dec.{leb}
use Rattle.lists.specs.Tests.{every}
use mathlib.Core.Path.{◌∙◌, ap, ap₂}
use Prim.Native.Nat.{◌*◌, ◌+◌}
use mathlib.Core.Bool.{Bool, ◌&&◌}
use borrow.Author.Rules.{rules}
use native.Mathlib.Omega.{arith}
use Rattle.commitment.proofs.widths_ok.Goals as goal

pub overflow_mul-columns : goal.overflow_mul-columns
overflow_mul-columns c = omega (arith, product_fits c.args.s.w c.args.s.nu (search rules) (search rules))

pub overflow_add-columns : goal.overflow_add-columns
overflow_add-columns c = omega (arith, product_fits c.args.s.w c.args.s.nu (search rules) (search rules))

pub returns : goal.returns
unfolding every
returns c =
    let s = c.args.s in
    let fit = c.both-fit.ensures ∙ ap
    (λ (t : Bool). leb (s.w * s.nu + s.l) c.args.leaves && t)
    c.blinding_ok.ensures in
    let eta = c.both-eta.ensures ∙ ap₂ ◌&&◌ c.in_range.ensures fit in
    let l = c.both-l.ensures ∙ ap₂ ◌&&◌ c.in_range-2.ensures eta in
    let few = c.both-c.ensures ∙ ap (λ (t : Bool). leb (s.w * s.nu) 256 && t) l in
    let w = c.both-w.ensures ∙ ap₂ ◌&&◌ c.in_range-3.ensures few in
    let nu = c.both-nu.ensures ∙ ap₂ ◌&&◌ c.in_range-4.ensures w in
    c.both.ensures ∙ ap₂ ◌&&◌ c.in_range-5.ensures nu
