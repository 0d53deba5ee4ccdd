-- `evaluations::gather_blinds` meets its contract: the blinds, then the top coefficient.
use mathlib.Core.List.{List}
use Prim.Native.Nat.{ℕ}
use Rattle.scheme.specs.Layers.{Lent}
use Rattle.lent.specs.Witnessed.{witnessed}
use Rattle.scheme.specs.Sizes.{Sizes}
use Rattle.commitment.specs.Shape.{sizes_in}
use Rattle.evaluations.proofs.Entries.{blinding_row, blinds_there, polynomial_room, top_there}
use Rattle.evaluations.proofs.Gathering.{both_kept}
use native.Mathlib.Omega.{arith}
use Rattle.evaluations.proofs.gather_blinds.Goals as goal

pub gather_lane-requires : goal.gather_lane-requires
gather_lane-requires c =
    let a = c.args in
    let pre = c.requires in
    let S : Sizes = sizes_in a.s in
    let L : Lent = witnessed a.witness.now in
    let k = c.coefficient_count in
    let m = c.blind_count in (
      pre.3,
      blinds_there S L pre.0 a.i pre.1 k.result m.result k.ensures m.ensures a.b pre.2,
      omega (arith, polynomial_room S L pre.0 a.i pre.1 k.result m.result k.ensures m.ensures, pre.4, pre.0.sizes.ν-low),
    )

pub gather_lane-requires-2 : goal.gather_lane-requires-2
gather_lane-requires-2 c =
    let a = c.args in
    let pre = c.requires in
    let S : Sizes = sizes_in a.s in
    let L : Lent = witnessed a.witness.now in
    let k = c.coefficient_count in
    let m = c.blind_count in (
      pre.3,
      omega (arith, top_there S L pre.0 a.i pre.1 k.result m.result k.ensures m.ensures a.b pre.2),
      omega (arith, polynomial_room S L pre.0 a.i pre.1 k.result m.result k.ensures m.ensures, pre.4, pre.0.sizes.ν-low, c.gather_lane.auto.values),
    )

pub returns : goal.returns
returns c =
    let a = c.args in
    let pre = c.requires in
    let S : Sizes = sizes_in a.s in
    let L : Lent = witnessed a.witness.now in
    let k = c.coefficient_count in
    let m = c.blind_count in
    let v₁ : List ℕ = c.gather_lane.new.values in
    let v₂ : List ℕ = c.gather_lane-2.new.values in (
      both_kept a.j a.values.now v₁ v₂ c.gather_lane.ensures.0 c.gather_lane-2.ensures.0,
      blinding_row S L pre.0 a.i pre.1 k.result m.result k.ensures m.ensures a.b a.j a.values.now v₁ v₂ pre.2
          c.gather_lane.ensures.1 c.gather_lane-2.ensures.1,
    )
