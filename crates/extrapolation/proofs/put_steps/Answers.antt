use mathlib.Core.Path.{◌≡◌, refl, ◌∙◌}
use mathlib.Core.Logic.{◌⊎◌}
use Prim.Native.Nat.{ℕ, ◌+◌, ◌-◌}
use Rattle.extrapolation.proofs.Putting.{steps_none, steps_turn, steps_done}
use borrow.Author.Rules.{rules}
use Rattle.stepping.specs.Lanes.{run}
use native.Mathlib.Omega.{arith}
use Rattle.extrapolation.proofs.put_steps.Goals as goal

pub loop-n-init : goal.loop-n-init
loop-n-init c =
    let s = c.args in (
      refl,
      omega arith,
      omega arith,
      omega (arith, c.saturating_sub-n.ensures),
      omega (arith, c.saturating_sub-n.ensures, c.requires.4),
      c.requires.0,
      c.requires.1,
      c.requires.2,
      c.requires.3,
      refl,
      c.requires.5,
      c.requires.4,
      steps_none s.w.now s.i s.lanes s.first (s.first + s.count) s.stride s.lo s.out.now c.saturating_sub-n.result c.saturating_sub-n.ensures,
    )

pub loop-n-preserved : goal.loop-n-preserved
loop-n-preserved c =
    let loop = c.loop-n in let s = c.args in
    let x : ℕ = s.first + s.count - 1 - (s.i + loop.n) in
    let t = steps_turn s.w.now loop.n s.lanes x s.stride s.lo loop.out c.put_lanes.new.out loop.invariant.7 c.put_lanes.ensures s.i s.first
    (s.first + s.count) s.out.now (omega (arith, loop.invariant.2, loop.invariant.3, c.loop-n-test.true)) loop.invariant.12 in (
      loop.invariant.0,
      loop.invariant.1,
      loop.invariant.2,
      omega (arith, loop.invariant.3),
      omega (arith, loop.invariant.1, c.loop-n-test.true),
      loop.invariant.5,
      loop.invariant.6,
      loop.invariant.7,
      omega
          (arith, loop.invariant.8, c.put_lanes.auto.out),
      c.put_lanes.auto.out ∙ loop.invariant.9,
      loop.invariant.10,
      loop.invariant.11,
      t,
    )

pub returns : goal.returns
returns c =
    let loop = c.loop-n in let s = c.args in
    let to : (c.min-n-end.result ≡ run) ⊎ (c.min-n-end.result ≡ s.first + s.count - s.i) = search rules in
    steps_done s.w.now s.i s.lanes s.first (s.first + s.count) s.stride s.lo s.out.now loop.out loop.n c.min-n-end.result c.loop-n-test.false
    to loop.invariant.12
