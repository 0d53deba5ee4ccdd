use mathlib.Core.List.{List}
use mathlib.Core.Path.{◌∙◌, ◌≡◌, ap, refl, subst}
use Prim.Native.Nat.{ℕ, ◌*◌}
use Rattle.stepping.specs.Lanes.{entry}
use Rattle.scheme.specs.Layers.{Lent, column}
use Rattle.lent.specs.Witnessed.{witnessed}
use Rattle.scheme.specs.Sizes.{Sizes}
use Rattle.commitment.specs.Shape.{sizes_in}
use Rattle.lent.proofs.Rows.{tails_there}
use Rattle.evaluations.specs.Values.{Gathered}
use Rattle.evaluations.proofs.Gathering.{GatherInv, both_kept, columns_turn, gather_none, row-lane}
use native.Mathlib.Omega.{arith}
use Rattle.evaluations.proofs.gather_row.Goals as goal

pub loop-i-init : goal.loop-i-init
loop-i-init c =
    let a = c.args in
    let L : Lent = witnessed a.witness.now in
    let f : ℕ → ℕ = λ (k : ℕ). entry (column (sizes_in a.s) L k) a.row in
    let e : 0 ≡ a.s.nu * 0 = omega arith in
    (refl, subst (λ (k : ℕ). GatherInv f 0 a.j a.values.now a.values.now k) e (gather_none f 0 a.j a.values.now))

pub gather_polynomial-requires : goal.gather_polynomial-requires
gather_polynomial-requires c =
    let a = c.args in
    let pre = c.requires in
    let loop = c.loop-i in
    let S : Sizes = sizes_in a.s in
    let L : Lent = witnessed a.witness.now in
    (pre.0.laid, c.loop-i-test.true, pre.1, pre.2, omega (arith, pre.3, loop.invariant.0))

pub loop-i-preserved : goal.loop-i-preserved
loop-i-preserved c =
    let a = c.args in
    let pre = c.requires in
    let loop = c.loop-i in
    let S : Sizes = sizes_in a.s in
    let L : Lent = witnessed a.witness.now in
    let v : List ℕ = c.gather_polynomial.new.values in (
      c.gather_polynomial.auto.values ∙ loop.invariant.0,
      columns_turn S L loop.i a.row a.j a.values.now loop.values v loop.invariant.1 c.gather_polynomial.ensures,
    )

pub gather_lane-requires : goal.gather_lane-requires
gather_lane-requires c =
    let a = c.args in
    let pre = c.requires in
    let h = tails_there (sizes_in a.s) (witnessed a.witness.now) pre.0 a.row pre.1 in
    (pre.2, omega (arith, h), omega (arith, pre.3, c.column_count-columns.ensures, c.loop-i.invariant.0))

pub returns : goal.returns
returns c =
    let a = c.args in
    let pre = c.requires in
    let loop = c.loop-i in
    let S : Sizes = sizes_in a.s in
    let L : Lent = witnessed a.witness.now in
    let f : ℕ → ℕ = λ (k : ℕ). entry (column S L k) a.row in
    let v : List ℕ = c.gather_lane.new.values in
    let n : ℕ = c.column_count-columns.result in
    let e : loop.i ≡ a.s.w = omega (arith, c.loop-i-test.false) in
    let d : a.s.nu * loop.i ≡ n = ap (λ (k : ℕ). a.s.nu * k) e ∙ omega (arith, c.column_count-columns.ensures) in (
      both_kept a.j a.values.now loop.values v loop.invariant.1.kept c.gather_lane.ensures.0,
      row-lane S L pre.0 a.row n a.j a.values.now loop.values v pre.1 c.column_count-columns.ensures
          (subst (λ (k : ℕ). Gathered f k 0 a.j a.values.now loop.values) d loop.invariant.1.gathered) c.gather_lane.ensures.1,
    )
