use mathlib.Core.Path.{◌≡◌, refl, sym, ◌∙◌, subst}
use mathlib.Core.List.{List}
use Prim.Native.Nat.{ℕ, ◌+◌, ◌-◌, ◌*◌, ◌≤◌}
use lib.ListN.{length, take, drop}
use Rattle.evaluations.specs.Values.{MaskLanes}
use Rattle.evaluations.proofs.Masks.{masks_none, masks_turn, masks_length, part_count, part_values}
use native.Mathlib.Omega.{arith}
use Rattle.evaluations.proofs.gather_masks.Goals as goal

pub loop-t-init : goal.loop-t-init
loop-t-init c =
    let s = c.args in
    (refl, refl, masks_none s.first.0 s.masks.now (length s.weights.now) s.eta s.values.now)

pub point-requires : goal.point-requires
point-requires c = omega (arith, c.requires.0, c.loop-t-test.true)

pub mask_values-requires : goal.mask_values-requires
mask_values-requires c =
    let s = c.args in let loop = c.loop-t in let pre = c.requires in
    let e = part_count s.eta loop.t loop.values (omega (arith, loop.invariant.1, pre.4, c.loop-t-test.true)) pre.3 in
    (omega (arith, loop.invariant.0, pre.1), subst (λ (k : ℕ). length loop.weights * k ≤ length s.masks.now) (sym e) (subst (λ (w : ℕ). w * s.eta ≤ length s.masks.now) (sym loop.invariant.0) pre.2))

pub loop-t-preserved : goal.loop-t-preserved
loop-t-preserved c =
    let s = c.args in let loop = c.loop-t in let pre = c.requires in
    let w : ℕ = length s.weights.now in
    let room : 4 * loop.t + 4 ≤ length loop.values = omega (arith, loop.invariant.1, pre.4, c.loop-t-test.true) in
    let ys : List ℕ = c.mask_values.new.out in
    let e = part_count s.eta loop.t loop.values room pre.3 in
    let is = part_values (length loop.weights) w (length (take (4 * loop.t + s.eta - 4 * loop.t) (drop (4 * loop.t) loop.values))) s.eta c.point.result.0
    s.masks.now ys loop.invariant.0 e c.mask_values.ensures in (
      c.mask_values.auto.weights ∙ loop.invariant.0,
      masks_length s.masks.now w s.eta loop.t c.point.result.0 loop.values ys room pre.3 is ∙ loop.invariant.1,
      masks_turn s.first.0 s.masks.now w s.eta loop.t c.point.result.0 loop.values ys room pre.3 c.point.ensures is loop.invariant.2,
    )

pub returns : goal.returns
returns c =
    let s = c.args in let loop = c.loop-t in
    let e : loop.t ≡ length s.weights.now = omega (arith, c.loop-t-test.false) in
    subst (λ (k : ℕ). MaskLanes s.first.0 s.masks.now (length s.weights.now) s.eta k loop.values) e loop.invariant.2
