-- `evaluations::gather_coefficients` meets its contract: column 0 and the lowered ones after it, or all columns as they are.
use mathlib.Core.List.{List}
use mathlib.Core.Path.{refl}
use Prim.Native.Nat.{ℕ}
use Rattle.scheme.specs.Layers.{Lent}
use Rattle.lent.specs.Witnessed.{witnessed}
use Rattle.scheme.specs.Sizes.{Sizes, blind_count}
use Rattle.commitment.specs.Shape.{sizes_in}
use Rattle.evaluations.proofs.Entries.{blinds_there, first_there, kept_row, lowered-row, lowered_there, polynomial_room, row_there}
use Rattle.evaluations.proofs.Gathering.{both_kept}
use native.Mathlib.Omega.{arith}
use Rattle.evaluations.proofs.gather_coefficients.Goals as goal

pub gather_lane-requires : goal.gather_lane-requires
gather_lane-requires c =
    let a = c.args in
    let pre = c.requires in
    let S : Sizes = sizes_in a.s in
    let L : Lent = witnessed a.witness.now in
    let k = c.coefficient_count in
    let m = c.blind_count in (
      pre.3,
      first_there S L pre.0 a.i pre.1 k.result m.result k.ensures m.ensures a.row c.if-row-beta.true,
      omega (arith, polynomial_room S L pre.0 a.i pre.1 k.result m.result k.ensures m.ensures, pre.4, pre.0.sizes.ν-low),
    )

pub gather_lowered-requires : goal.gather_lowered-requires
gather_lowered-requires c =
    let a = c.args in
    let pre = c.requires in
    let S : Sizes = sizes_in a.s in
    let L : Lent = witnessed a.witness.now in
    let k = c.coefficient_count in
    let m = c.blind_count in (
      pre.3,
      omega (arith, lowered_there S L pre.0 a.i pre.1 k.result m.result k.ensures m.ensures a.row c.if-row-beta.true),
      blinds_there S L pre.0 a.i pre.1 k.result m.result k.ensures m.ensures a.row c.if-row-beta.true,
      pre.0.blinds_below,
      omega (arith, polynomial_room S L pre.0 a.i pre.1 k.result m.result k.ensures m.ensures, pre.4, pre.0.sizes.ν-low, c.gather_lane.auto.values),
    )

pub gather_lane-requires-else-row-beta : goal.gather_lane-requires-else-row-beta
gather_lane-requires-else-row-beta c =
    let a = c.args in
    let pre = c.requires in
    let S : Sizes = sizes_in a.s in
    let L : Lent = witnessed a.witness.now in
    let k = c.coefficient_count in (
      pre.3,
      row_there S L pre.0 a.i pre.1 k.result (blind_count S) k.ensures refl a.row pre.2,
      omega (arith, polynomial_room S L pre.0 a.i pre.1 k.result (blind_count S) k.ensures refl, pre.4),
    )

pub returns-then-row-beta : goal.returns-then-row-beta
returns-then-row-beta c =
    let a = c.args in
    let pre = c.requires in
    let S : Sizes = sizes_in a.s in
    let L : Lent = witnessed a.witness.now in
    let k = c.coefficient_count in
    let m = c.blind_count in
    let v₁ : List ℕ = c.gather_lane.new.values in
    let v₂ : List ℕ = c.gather_lowered.new.values in (
      both_kept a.j a.values.now v₁ v₂ c.gather_lane.ensures.0 c.gather_lowered.ensures.0,
      lowered-row S L pre.0 a.i pre.1 k.result m.result k.ensures m.ensures a.row a.j a.values.now v₁ v₂ c.if-row-beta.true
          c.gather_lane.ensures.1 c.gather_lowered.ensures.1,
    )

pub returns-else-row-beta : goal.returns-else-row-beta
returns-else-row-beta c =
    let a = c.args in
    let pre = c.requires in
    let S : Sizes = sizes_in a.s in
    let L : Lent = witnessed a.witness.now in
    let k = c.coefficient_count in (
      c.gather_lane-else-row-beta.ensures.0,
      kept_row S L pre.0 a.i pre.1 k.result (blind_count S) k.ensures refl a.row a.j a.values.now c.gather_lane-else-row-beta.new.values c.if-row-beta.false pre.2
          c.gather_lane-else-row-beta.ensures.1,
    )
