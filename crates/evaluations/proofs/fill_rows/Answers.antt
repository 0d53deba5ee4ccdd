use mathlib.Core.Path.{◌≡◌, refl, ◌∙◌, subst}
use Prim.Native.Nat.{ℕ, ◌+◌, ◌≤◌}
use Rattle.extrapolation.specs.Extrapolated.{Columns}
use Rattle.scheme.specs.Layers.{Lent}
use Rattle.lent.specs.Witnessed.{witnessed}
use Rattle.scheme.specs.Sizes.{Sizes, rows}
use Rattle.commitment.specs.Shape.{sizes_in}
use Rattle.evaluations.specs.Values.{row_polynomial}
use Rattle.evaluations.proofs.Columns.{columns_none, rows_more, row-columns}
use borrow.Author.Rules.{rules}
use native.Mathlib.Omega.{arith}
use Rattle.evaluations.proofs.fill_rows.Goals as goal

pub loop-lo-init : goal.loop-lo-init
loop-lo-init c =
    let a = c.args in
    (omega arith, refl, refl, refl, c.requires.1.small, columns_none (row_polynomial (sizes_in a.s) (witnessed a.witness.now)) c.leaf_count-n.result c.record_values-stride.result a.table.now)

pub loop-lo-preserved : goal.loop-lo-preserved
loop-lo-preserved c =
    let leaf = c.leaf_count-n in
    let wide = c.row_width-width in
    let stride = c.record_values-stride in
    let lanes = c.gather_rows in
    let out = c.extrapolate in
    let loop = c.loop-lo in
    let pre = c.requires in
    let S : Sizes = sizes_in c.args.s in
    let L : Lent = witnessed c.args.witness.now in
    let e : c.min-lanes.result ≡ 4 = search rules in
    let u : loop.lo + c.min-lanes.result ≤ rows S = omega (arith, e, c.row_count-rows.ensures) in (
      omega arith,
      out.auto.values ∙ lanes.auto.values ∙ loop.invariant.1,
      out.auto.lines ∙ loop.invariant.2,
      out.auto.out ∙ loop.invariant.3,
      out.ensures.0,
      subst (λ (n : ℕ). Columns (row_polynomial S L) (loop.lo + n) leaf.result 0 stride.result out.new.out) e
          (rows_more S L pre.0 pre.0.laid.sizes loop.lo c.min-lanes.result wide.result leaf.result stride.result lanes.new.values loop.table out.new.out u
          wide.ensures leaf.ensures stride.ensures lanes.ensures loop.invariant.5 out.ensures.1 out.ensures.2),
    )

pub returns-2 : goal.returns-2
returns-2 c =
    let leaf = c.leaf_count-n in
    let wide = c.row_width-width in
    let stride = c.record_values-stride in
    let lanes = c.gather_rows in
    let out = c.extrapolate in
    let loop = c.loop-lo in
    let pre = c.requires in
    let S : Sizes = sizes_in c.args.s in
    let L : Lent = witnessed c.args.witness.now in
    let e : loop.lo + c.min-lanes.result ≡ c.row_count-rows.result = search rules in
    let u : loop.lo + c.min-lanes.result ≡ rows S = e ∙ c.row_count-rows.ensures in (
      out.ensures.0,
      row-columns S pre.0.laid.sizes leaf.result wide.result stride.result leaf.ensures wide.ensures stride.ensures L (rows S) out.new.out
          (subst (λ (n : ℕ). Columns (row_polynomial S L) n leaf.result 0 stride.result out.new.out) u
          (rows_more S L pre.0 pre.0.laid.sizes loop.lo c.min-lanes.result wide.result leaf.result stride.result lanes.new.values loop.table out.new.out (omega (arith, u))
          wide.ensures leaf.ensures stride.ensures lanes.ensures loop.invariant.5 out.ensures.1 out.ensures.2)),
    )
