-- `evaluations::fill_columns` meets its contract: the columns of the rows and of the masks are the whole table.
use mathlib.Core.Path.{◌∙◌}
use Rattle.scheme.specs.Sizes.{width}
use Rattle.commitment.specs.Shape.{sizes_in}
use Rattle.lent.specs.Witnessed.{witnessed}
use Rattle.evaluations.proofs.Columns.{table_filled, room_of_zeros}
use Rattle.evaluations.proofs.fill_columns.Goals as goal

pub fill_rows-requires : goal.fill_rows-requires
fill_rows-requires g c = (c.requires.0.extend, room_of_zeros (width (sizes_in c.args.s)) g.row.LANES c.requires.2, c.requires.0.table-length)

pub returns : goal.returns
returns g c =
    let a = c.args in
    let pre = c.requires in
    table_filled (sizes_in a.s) (witnessed a.witness.now) c.fill_rows.new.table c.fill_masks.new.table pre.0.extend.laid.sizes.η-low
    c.fill_rows.ensures.1 c.fill_masks.ensures.0 c.fill_masks.ensures.1
    (c.fill_masks.auto.table ∙ c.fill_rows.auto.table ∙ pre.0.table-length)
