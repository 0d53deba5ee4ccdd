-- `expansion::expand_four` meets its contract: the coefficients expanded by themselves, then swept.
use Rattle.algebra.specs.Quartic.{expand_four}
use native.Mathlib.Omega.{arith}
use Rattle.expansion.proofs.expand_four.Goals as goal

pub returns : goal.returns
returns c =
    let low = c.expand_singly in
    let f = c.quartic_of-f in
    let r = c.sweep_four in
    expand_four c.args.points.now c.args.s.now low.new.s r.new.s f.result.e1 f.result.e2 f.result.e3 f.result.e4 c.requires.1 (omega arith)
    f.ensures low.ensures r.ensures
