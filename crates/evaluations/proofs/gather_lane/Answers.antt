use mathlib.Core.Path.{◌≡◌, refl, subst}
use Prim.Native.Nat.{ℕ, ◌+◌, ◌*◌, ◌<◌}
use lib.ListN.{get_or, length-set}
use Rattle.lent.specs.Rows.{strided}
use Rattle.lent.proofs.Strides.{strided_at}
use Rattle.evaluations.specs.Values.{Gathered}
use Rattle.evaluations.proofs.Gathering.{gather_none, gather_turn}
use native.Mathlib.Omega.{arith}
use Rattle.evaluations.proofs.gather_lane.Goals as goal

pub loop-i-init : goal.loop-i-init
loop-i-init c =
    let s = c.args in
    (refl, gather_none (strided s.elements.now s.first s.step) s.to s.j s.values.now)

pub loop-i-preserved : goal.loop-i-preserved
loop-i-preserved c =
    let s = c.args in let loop = c.loop-i in
    let f : ℕ → ℕ = strided s.elements.now s.first s.step in
    let v : ℕ = get_or s.elements.now (s.first + s.step * loop.i) 0 in
    let l : loop.i < s.count = c.loop-i-test.true in (
      simp length-set loop.invariant.0,
      gather_turn f s.to s.j s.values.now loop.values loop.i v c.requires.0 (omega (arith, c.requires.0, c.requires.2, loop.invariant.0, l)) loop.invariant.1 (strided_at s.elements.now s.first s.step loop.i),
    )

pub returns : goal.returns
returns c =
    let s = c.args in let loop = c.loop-i in
    let e : loop.i ≡ s.count = omega (arith, c.loop-i-test.false) in
    (loop.invariant.1.kept, subst (λ (k : ℕ). Gathered (strided s.elements.now s.first s.step) k s.to s.j s.values.now loop.values) e loop.invariant.1.gathered)
