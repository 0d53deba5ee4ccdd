use mathlib.Core.Path.{refl}
use lib.ListN.{length-set}
use Rattle.loading.proofs.Signs.{load_none, load_turn}
use native.Mathlib.Omega.{arith}
use Rattle.loading.proofs.load_lane.Goals as goal

pub loop-r-init : goal.loop-r-init
loop-r-init c =
    let s = c.args in
    (omega arith, c.requires.0, c.requires.1, refl, c.requires.3, load_none s.values.now s.width s.lines s.j s.t.now c.requires.2)

pub loop-r-preserved : goal.loop-r-preserved
loop-r-preserved c =
    let loop = c.loop-r in let s = c.args in (
      omega arith,
      loop.invariant.1,
      simp length-set loop.invariant.2,
      simp length-set loop.invariant.3,
      loop.invariant.4,
      load_turn s.values.now s.width s.lines s.j s.t.now loop.t loop.r c.signed_value.result
          loop.invariant.1 c.loop-r-test.true loop.invariant.2 loop.invariant.5 c.signed_value.ensures,
    )
