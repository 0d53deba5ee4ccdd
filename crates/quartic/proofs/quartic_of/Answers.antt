-- `quartic::quartic_of` meets its contract, call by call.
use Rattle.algebra.specs.Quartic.{factored}
use Rattle.quartic.proofs.quartic_of.Goals as goal

pub returns : goal.returns
returns c =
    let x = c.args.x.0 in
    let y = c.args.y.0 in
    let z = c.args.z.0 in
    let w = c.args.w.0 in
    let a = c.less_both-a in
    let b = c.multiply-b in
    let m = c.less_both-c in
    let d = c.multiply-d in
    let e₁ = c.less_both-e1 in
    let t = c.multiply_add in
    let e₂ = c.multiply_add-e2 in
    let r = c.multiply in
    let e₃ = c.multiply_add-e3 in
    let e₄ = c.multiply-e4 in
    factored x y z w a.result.0 b.result.0 m.result.0 d.result.0 e₁.result.0 t.result.0 e₂.result.0 r.result.0 e₃.result.0 e₄.result.0
    c.requires.0 c.requires.1 c.requires.2 c.requires.3 a.ensures b.ensures m.ensures d.ensures e₁.ensures t.ensures e₂.ensures r.ensures e₃.ensures e₄.ensures
