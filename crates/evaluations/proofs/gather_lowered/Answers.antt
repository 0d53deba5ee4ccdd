use mathlib.Core.Path.{◌≡◌, refl, subst}
use Prim.Native.Nat.{ℕ, ◌*◌, ◌+◌, ◌<◌}
use lib.ListN.{get_or, length-set}
use Rattle.algebra.specs.Numbers.{elements_at}
use Rattle.algebra.specs.Prime.{q}
use Rattle.lent.specs.Rows.{strided}
use Rattle.evaluations.specs.Values.{Gathered, strided_difference}
use Rattle.evaluations.proofs.Gathering.{gather_none, gather_turn}
use native.Mathlib.Omega.{arith}
use Rattle.evaluations.proofs.gather_lowered.Goals as goal

pub loop-i-init : goal.loop-i-init
loop-i-init c =
    let s = c.args in
    (refl, gather_none (strided_difference s.elements.now s.first s.step s.blinds.now s.start s.apart) s.to s.j s.values.now)

pub subtract-requires : goal.subtract-requires
subtract-requires c =
    let s = c.args in
    let k : ℕ = s.start + s.apart * c.loop-i.i in
    let b : get_or s.blinds.now k 0 < q = elements_at s.blinds.now c.requires.3 k in
    omega (arith, b)

pub loop-i-preserved : goal.loop-i-preserved
unfolding strided
loop-i-preserved c =
    let s = c.args in
    let loop = c.loop-i in
    let l : loop.i < s.count = c.loop-i-test.true in (
      simp length-set loop.invariant.0,
      gather_turn (strided_difference s.elements.now s.first s.step s.blinds.now s.start s.apart) s.to s.j s.values.now loop.values loop.i
          c.subtract.result.0 c.requires.0 (omega (arith, c.requires.0, c.requires.4, loop.invariant.0, l)) loop.invariant.1 c.subtract.ensures,
    )

pub returns : goal.returns
returns c =
    let s = c.args in
    let loop = c.loop-i in
    let e : loop.i ≡ s.count = omega (arith, c.loop-i-test.false) in (
      loop.invariant.1.kept,
      subst (λ (k : ℕ). Gathered (strided_difference s.elements.now s.first s.step s.blinds.now s.start s.apart) k s.to s.j s.values.now loop.values) e
          loop.invariant.1.gathered,
    )
