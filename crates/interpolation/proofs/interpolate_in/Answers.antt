-- `interpolation::interpolate_in` meets its contract: the coefficients of Newton's form, then its expansion.
use mathlib.Core.Path.{sym, ◌∙◌, ap}
use mathlib.Core.List.{List}
use Prim.Native.Nat.{ℕ}
use native.Mathlib.Nat.{suc-ne-zero}
use Rattle.algebra.specs.Divided.{nform_n}
use Rattle.scheme.proofs.Interpolation.{samples_pass, verdict_equal, verdict_taken, left, filled}
use Rattle.interpolation.proofs.interpolate_in.Goals as goal

pub returns-then-not-divide : goal.returns-then-not-divide
returns-then-not-divide c =
    let args = c.args in
    left args.points.now args.values.now args.out.now 13
    (verdict_equal args.points.now args.values.now args.out.now (samples_pass args.points.now args.values.now args.out.now c.requires.0) (sym c.divide.ensures.0 ∙ c.if-not-divide.true))
    (λ e. suc-ne-zero 12 e)

pub returns : goal.returns
returns c =
    let expand = c.expand in
    let divide = c.divide in
    let args = c.args in
    let points : List ℕ = args.points.now in
    let values : List ℕ = args.values.now in
    let d = c.if-not-divide.false in
    filled points values args.out.now expand.new.s
    (verdict_taken points values args.out.now (samples_pass points values args.out.now c.requires.0) (sym divide.ensures.0 ∙ d))
    (expand.ensures ∙ ap (nform_n points) c.copy.ensures ∙ divide.ensures.1 d)
