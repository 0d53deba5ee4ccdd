use mathlib.Core.Path.{◌≡◌}
use lib.ListN.{length-set}
use Rattle.stepping.specs.Lanes.{run}
use Rattle.stepping.proofs.Kernel.{fold_kept, lane_holds, lane_turn, lane_done, lane_fits}
use native.Mathlib.Omega.{arith}
use Rattle.stepping.proofs.lane.Goals as goal

pub loop-n-init : goal.loop-n-init
loop-n-init c =
    let args = c.args in (
      omega arith,
      c.requires.0,
      c.requires.1,
      c.requires.2,
      c.requires.3,
      lane_holds args.t.now args.at args.w.now args.j c.requires.2
          c.requires.3 c.requires.4,
    )

pub turn-v-requires : goal.turn-v-requires
turn-v-requires c =
    let loop = c.loop-n in let args = c.args in
    lane_fits args.t.now args.at args.w.now args.j loop.w loop.v loop.n loop.invariant.2 loop.invariant.0 loop.invariant.5

pub loop-n-preserved : goal.loop-n-preserved
loop-n-preserved c =
    let loop = c.loop-n in let args = c.args in (
      omega arith,
      loop.invariant.1,
      loop.invariant.2,
      simp length-set loop.invariant.3,
      loop.invariant.4,
      lane_turn args.t.now args.at args.w.now args.j loop.w loop.v c.turn-v.result loop.n loop.invariant.2
          c.loop-n-test.true loop.invariant.5 c.turn-v.ensures,
    )

pub returns : goal.returns
returns c =
    let loop = c.loop-n in let args = c.args in
    let z : loop.n ≡ run = omega (arith, loop.invariant.0, c.loop-n-test.false) in
    lane_done args.t.now args.at c.folded.result c.folded-2.result c.folded-3.result c.folded-4.result c.folded-5.result
    loop.invariant.1 args.w.now args.j loop.w loop.v loop.n z loop.invariant.4 loop.invariant.5 (fold_kept _ _ c.folded.ensures) (fold_kept _ _ c.folded-2.ensures)
    (fold_kept _ _ c.folded-3.ensures) (fold_kept _ _ c.folded-4.ensures) (fold_kept _ _ c.folded-5.ensures)
