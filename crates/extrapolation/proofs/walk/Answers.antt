use mathlib.Core.Path.{refl, ◌∙◌}
use Prim.Native.Nat.{ℕ, ◌+◌, ◌*◌}
use Rattle.stepping.specs.Lanes.{run}
use Rattle.extrapolation.proofs.Putting.{zeros, walk_none, walk_turn, walk_done}
use native.Mathlib.Omega.{arith}
use Rattle.extrapolation.proofs.walk.Goals as goal

pub loop-i-init : goal.loop-i-init
loop-i-init c =
    let s = c.args in (
      refl,
      omega arith,
      c.requires.0,
      refl,
      c.requires.1,
      c.requires.3,
      c.requires.4,
      refl,
      c.requires.5,
      walk_none (5 * s.blocks) s.lanes s.first
          (s.first + s.count) s.stride s.lo s.t.now s.out.now c.requires.2,
    )

pub loop-i-preserved : goal.loop-i-preserved
loop-i-preserved c =
    let loop = c.loop-i in let s =
    c.args in (
      loop.invariant.0,
      omega arith,
      omega (arith, loop.invariant.2, c.steps.auto.t),
      c.steps.auto.t ∙
          loop.invariant.3,
      loop.invariant.4,
      loop.invariant.5,
      omega (arith, loop.invariant.6, c.put_steps.auto.out),
      c.put_steps.auto.out ∙ loop.invariant.7,
      loop.invariant.8,
      walk_turn (5 * s.blocks) s.lanes s.first (s.first + s.count) s.stride s.lo s.t.now s.out.now loop.t loop.out loop.i
          c.steps.new.t c.steps.new.w
          c.put_steps.new.out loop.invariant.9 c.steps.ensures c.put_steps.ensures,
    )

pub steps-requires : goal.steps-requires
steps-requires c =
    let loop = c.loop-i in
    (loop.invariant.2, loop.invariant.4, refl, loop.invariant.9.small, zeros (4 * run))

pub returns-2 : goal.returns-2
returns-2 c =
    let loop = c.loop-i in
    let s = c.args in
    let lines : ℕ = 5 * s.blocks in
    let end : ℕ = s.first + s.count in
    walk_done lines s.lanes s.first end s.stride s.lo s.t.now s.out.now c.steps.new.t c.put_steps.new.out (loop.i + run) (omega arith)
    (walk_turn lines s.lanes s.first end s.stride s.lo s.t.now s.out.now loop.t loop.out loop.i c.steps.new.t c.steps.new.w c.put_steps.new.out loop.invariant.9 c.steps.ensures c.put_steps.ensures)

pub returns : goal.returns
returns c =
    let loop = c.loop-i in let s = c.args in
    walk_done (5 * s.blocks) s.lanes s.first (s.first + s.count) s.stride s.lo s.t.now s.out.now loop.t loop.out loop.i (omega (arith, loop.invariant.0, c.loop-i-test.false)) loop.invariant.9
