use mathlib.Core.Path.{refl}
use Prim.Native.Nat.{ℕ, ◌*◌, ◌%◌}
use lib.ListN.{get_or, length-set}
use Rattle.algebra.specs.Prime.{q}
use Rattle.algebra.specs.Divided.{sweep_turn, sweep_done}
use native.Mathlib.Omega.{arith}
use Rattle.expansion.proofs.sweep.Goals as goal

pub loop-i-preserved : goal.loop-i-preserved
loop-i-preserved c =
    let loop = c.loop-i in
    let x : ℕ = c.args.x.0 in (
      refl,
      omega arith,
      omega arith,
      sweep_turn c.args.s.now loop.s x loop.i (x * get_or loop.s loop.i 0 % q) c.subtract_product-v.result.0 (omega arith) (omega arith) loop.invariant.3 refl
          c.subtract_product-v.ensures,
      simp length-set loop.invariant.4,
    )

pub returns : goal.returns
returns c =
    let loop = c.loop-i in
    sweep_done c.args.s.now loop.s c.args.x.0 loop.i (omega arith) (omega arith) (omega arith) loop.invariant.3
