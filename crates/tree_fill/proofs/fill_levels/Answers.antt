use mathlib.Core.Path.{◌≡◌, refl}
use Prim.Native.Nat.{◌+◌, ◌-◌, ◌<◌}
use native.Mathlib.Nat.{sub-zero, le_refl, div-le_self}
use native.Mathlib.Omega.{arith}
use Rattle.tree_fill.proofs.Filling.{fill-levels_holds, fill-levels_hash, fill-levels_fits, fill-levels_again, fill-levels_done}
use Rattle.tree_fill.proofs.fill_levels.Goals as goal

pub loop-init : goal.loop-init
loop-init c = rw sub-zero (fill-levels_holds c.requires)

pub nonzero_div-w : goal.nonzero_div-w
nonzero_div-w c = c.requires.arity

pub slice_bounds-hash_level-count : goal.slice_bounds-hash_level-count
slice_bounds-hash_level-count c = omega (arith, fill-levels_fits c.requires c.loop.invariant (omega arith))

pub slice_bounds-hash_level-start : goal.slice_bounds-hash_level-start
slice_bounds-hash_level-start c = (omega (arith, fill-levels_fits c.requires c.loop.invariant (omega arith)))

pub slice_bounds-hash_level-end : goal.slice_bounds-hash_level-end
slice_bounds-hash_level-end c = le_refl _

pub hash_level-requires : goal.hash_level-requires
hash_level-requires c = fill-levels_hash c.requires c.loop.invariant (omega arith)

pub overflow_mul-start : goal.overflow_mul-start
overflow_mul-start c =
    let l = c.loop in
    let more : 0 < c.args.h - l.counter = omega arith in
    omega (arith, fill-levels_fits c.requires l.invariant more, div-le_self l.n c.args.b, l.invariant.same_tree, c.well_formed)

pub overflow_add-start : goal.overflow_add-start
overflow_add-start c =
    let l = c.loop in
    let more : 0 < c.args.h - l.counter = omega arith in
    omega (arith, fill-levels_fits c.requires l.invariant more, div-le_self l.n c.args.b, l.invariant.same_tree, c.well_formed)

pub loop-preserved : goal.loop-preserved
loop-preserved c =
    let l = c.loop in
    let a = c.args in
    let more : 0 < a.h - l.counter = omega arith in
    let one : a.h - l.counter - 1 ≡ a.h - (l.counter + 1) = omega arith in
    let g = c.hash_level in
    rw (← one)
    (fill-levels_again c.requires l.invariant more g.new.part g.ensures.part_after g.auto.part refl g.ensures.buf_unchanged g.auto.buf)

pub shape_of-tree : goal.shape_of-tree
shape_of-tree c = c.loop.invariant.same_tree

pub shape_of-buf : goal.shape_of-buf
shape_of-buf c = c.loop.invariant.same_buf

pub returns : goal.returns
returns c = fill-levels_done c.requires c.loop.invariant (omega arith)
