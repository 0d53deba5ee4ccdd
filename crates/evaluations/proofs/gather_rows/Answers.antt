use mathlib.Core.Path.{◌≡◌, refl, ◌∙◌, subst}
use Prim.Native.Nat.{ℕ}
use Rattle.lent.specs.Witnessed.{witnessed}
use Rattle.commitment.specs.Shape.{sizes_in}
use Rattle.evaluations.specs.Values.{RowLanes}
use Rattle.evaluations.proofs.Gathering.{rows_none, rows_turn}
use native.Mathlib.Omega.{arith}
use Rattle.evaluations.proofs.gather_rows.Goals as goal

pub loop-j-init : goal.loop-j-init
loop-j-init c =
    let a = c.args in
    (refl, rows_none (sizes_in a.s) (witnessed a.witness.now) a.lo a.values.now)

pub loop-j-preserved : goal.loop-j-preserved
loop-j-preserved c =
    let a = c.args in
    let loop = c.loop-j in
    let kept = c.gather_row.auto.values in (
      kept ∙ loop.invariant.0,
      rows_turn (sizes_in a.s) (witnessed a.witness.now) a.lo loop.j loop.values c.gather_row.new.values
          (omega (arith, c.requires.2, c.loop-j-test.true)) loop.invariant.1 c.gather_row.ensures.0 c.gather_row.ensures.1,
    )

pub returns : goal.returns
returns c =
    let a = c.args in
    let loop = c.loop-j in
    let e : loop.j ≡ a.lanes = omega (arith, c.loop-j-test.false) in
    subst (λ (k : ℕ). RowLanes (sizes_in a.s) (witnessed a.witness.now) a.lo k loop.values) e loop.invariant.1
