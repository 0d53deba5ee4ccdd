-- `evaluations::fill_masks` meets its contract.
use mathlib.Core.List.{List}
use Prim.Native.Nat.{ℕ}
use lib.ListN.{length, take}
use Rattle.commitment.specs.Shape.{sizes_in}
use Rattle.evaluations.proofs.Columns.{front_count, masks_asked, mask_columns, kept-columns}
use Rattle.evaluations.proofs.fill_masks.Goals as goal

pub gather_masks-requires : goal.gather_masks-requires
gather_masks-requires c =
    let leaf = c.leaf_count-n in
    let wide = c.row_width-width in
    let stride = c.record_values-stride in
    let a = c.args in
    let pre = c.requires in
    let count = front_count (sizes_in a.s) pre.0 leaf.result wide.result stride.result leaf.ensures wide.ensures stride.ensures a.weights.now pre.2 in
    masks_asked (sizes_in a.s) pre.0 leaf.result wide.result stride.result leaf.ensures wide.ensures stride.ensures
    (length (take wide.result a.weights.now)) a.masks.now a.values.now count pre.1 pre.3.points

pub returns : goal.returns
returns c =
    let leaf = c.leaf_count-n in
    let wide = c.row_width-width in
    let stride = c.record_values-stride in
    let height = c.row_count-rows in
    let out = c.extrapolate in
    let lanes = c.gather_masks in
    let a = c.args in
    let pre = c.requires in
    let count = front_count (sizes_in a.s) pre.0 leaf.result wide.result stride.result leaf.ensures wide.ensures stride.ensures a.weights.now pre.2 in
    let t : List ℕ = out.new.out in (
      kept-columns (sizes_in a.s) pre.0 leaf.result wide.result stride.result leaf.ensures wide.ensures stride.ensures height.result a.table.now t height.ensures
          out.ensures.1,
      mask_columns (sizes_in a.s) pre.0 leaf.result wide.result stride.result leaf.ensures wide.ensures stride.ensures
          (length (take wide.result a.weights.now)) height.result a.masks.now lanes.new.values t count height.ensures pre.1
          lanes.ensures out.ensures.2,
    )
