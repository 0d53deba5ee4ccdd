use mathlib.Core.Path.{◌≡◌, refl, sym, ◌∙◌, subst}
use mathlib.Core.List.{List}
use Prim.Native.Nat.{ℕ, ◌+◌, ◌≤◌, ◌<◌}
use native.Mathlib.Nat.{not-suc-le-zero, le_refl}
use lib.ListN.{length, get_or}
use Rattle.lists.specs.All.{Distinct}
use Rattle.lists.specs.Differ.{true_differ}
use Rattle.algebra.specs.Prime.{q}
use Rattle.algebra.specs.Numbers.{interp_n}
use Rattle.algebra.specs.Divided.{nform_n}
use Rattle.algebra.specs.Rests.{Divided, divided_start, divided_front, divided_turn, divided_done, weights_behind, rests_grow}
use native.Mathlib.Omega.{arith}
use Rattle.divided_differences.proofs.divide.Goals as goal

pub loop-k-init : goal.loop-k-init
loop-k-init c =
    let widen = c.widen in
    let args = c.args in
    let e = widen.ensures in (
      refl,
      omega arith,
      omega arith,
      widen.auto.rests ∙ c.requires.3,
      omega arith,
      λ j l m. absurd (not-suc-le-zero {n = 0} (omega arith)),
      divided_start args.points.now args.values.now args.out.now widen.new.rests args.products.now c.requires.1 e c.requires.5 c.requires.7,
    )

pub loop-k-preserved : goal.loop-k-preserved
loop-k-preserved c =
    let on : c.loop-k.k + 1 ≤ c.next_weights-end.result = omega arith in
    let less : c.loop-k.k < c.next_weights-end.result = omega arith in
    let fits : c.next_weights-end.result
    ≤ length c.args.points.now = omega arith in
    let inside : c.loop-k.k
    < length c.args.points.now = omega arith in
    let few : c.opposite-minus.result ≤ q = omega arith in
    let next-weights = c.next_weights-end in
    let take-off = c.take_off in
    let args = c.args in
    let xs : List ℕ = args.points.now in
    let ys : List ℕ = args.values.now in
    let k : ℕ = c.loop-k.k in
    let ws : List ℕ = next-weights.new.weights in
    let d : Divided xs ys ws c.loop-k.rests c.loop-k.products k =
    divided_front xs ys c.loop-k.out ws c.loop-k.rests c.loop-k.products k (next-weights.auto.weights ∙ c.loop-k.invariant.6.count) next-weights.ensures.3 c.loop-k.invariant.6 in (
      refl,
      on,
      fits,
      take-off.auto.rests ∙ c.loop-k.invariant.3,
      take-off.auto.products ∙ c.loop-k.invariant.4,
      weights_behind xs ws k next-weights.result c.multiply-c.result.0 next-weights.ensures.2,
      divided_turn xs ys ws c.loop-k.rests c.loop-k.products k (get_or ws k 0)
          c.reduced-r.result.0
          c.multiply-c.result.0
          c.opposite-minus.result
          c.requires.0 c.requires.1 c.requires.2 inside d (next-weights.ensures.2 k (le_refl k) less)
          c.reduced-r.ensures
          c.multiply-c.ensures
          c.opposite-minus.ensures
          take-off.new.rests take-off.new.products take-off.ensures.0
          (rests_grow xs ys ws c.loop-k.rests c.loop-k.products k c.opposite-minus.result few d) take-off.ensures.1,
    )

pub returns : goal.returns
returns c =
    let xs : List ℕ = c.args.points.now in
    let ys : List ℕ = c.args.values.now in
    let e : c.loop-k.k ≡ length xs = omega arith in
    let d : Distinct xs × (nform_n xs c.loop-k.out ≡ interp_n xs ys) =
    divided_done xs ys c.loop-k.out c.loop-k.rests c.loop-k.products c.requires.0 c.requires.1 c.requires.2
    (subst (λ (t : ℕ). Divided xs ys c.loop-k.out c.loop-k.rests c.loop-k.products t) e c.loop-k.invariant.6) in
    (sym (true_differ xs d.0), λ t. d.1)
