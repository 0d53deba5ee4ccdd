use mathlib.Core.Path.{refl, ap}
use Prim.Native.Nat.{ℕ, ◌+◌, ◌*◌, ◌%◌}
use lib.ListN.{get_or, length-set}
use Rattle.extrapolation.proofs.Putting.{put_none, put_turn}
use native.Mathlib.Omega.{arith}
use Rattle.extrapolation.proofs.put_lanes.Goals as goal

pub loop-j-init : goal.loop-j-init
loop-j-init c =
    let args = c.args in
    (omega arith, c.requires.0, c.requires.1, c.requires.2, c.requires.3, refl, put_none args.w.now args.n args.start args.out.now)

pub loop-j-preserved : goal.loop-j-preserved
loop-j-preserved c =
    let loop = c.loop-j in let args = c.args in (
      omega arith,
      loop.invariant.1,
      loop.invariant.2,
      loop.invariant.3,
      simp length-set loop.invariant.4,
      simp length-set loop.invariant.5,
      put_turn args.w.now args.n loop.j args.start args.out.now loop.out _
          (omega (arith, loop.invariant.4, c.loop-j-test.true)) (ap (λ (m : ℕ). get_or args.w.now (4 * args.n + loop.j) 0 % m) c.from.ensures) loop.invariant.6,
    )
