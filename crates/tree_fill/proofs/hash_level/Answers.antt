use mathlib.Core.Path.{◌≡◌, refl}
use Prim.Native.Nat.{ℕ, ◌-◌, ◌*◌, ◌<◌}
use native.Mathlib.Nat.{mul_assoc, le_refl}
use native.Mathlib.Omega.{arith}
use lib.ListN.{length}
use Rattle.digests.proofs.Copies.{put_span, span_kept}
use Rattle.sponge.specs.Digest.{digest-length}
use Rattle.tree_fill.proofs.Filling.{hash_level_holds, hash_level_part, hash_level_place, hash_level_read, hash_level_again, hash_level_done}
use Rattle.tree_fill.proofs.hash_level.Goals as goal

pub overflow_mul-size : goal.overflow_mul-size
overflow_mul-size c = omega (arith, c.requires.room, c.well_formed)

pub overflow_mul-above : goal.overflow_mul-above
overflow_mul-above c =
    omega (arith, mul_assoc 32 c.args.b c.args.w, c.requires.whole, c.requires.levels, c.well_formed)

pub loop-p-init : goal.loop-p-init
loop-p-init c = hash_level_holds c.requires

pub overflow_mul-children : goal.overflow_mul-children
overflow_mul-children c =
    let l = c.loop-p in
    let more : l.p < c.args.w = omega arith in
    omega (arith, hash_level_read c.requires l.invariant more, l.invariant.same_part, c.well_formed)

pub slice_bounds-write_digest-count : goal.slice_bounds-write_digest-count
slice_bounds-write_digest-count c =
    let l = c.loop-p in
    let more : l.p < c.args.w = omega arith in
    hash_level_part c.requires l.invariant more

pub slice_bounds-write_digest-start : goal.slice_bounds-write_digest-start
slice_bounds-write_digest-start c = (let l = c.loop-p in
    let more : l.p < c.args.w = omega arith in
    hash_level_part c.requires l.invariant more)

pub slice_bounds-write_digest-end : goal.slice_bounds-write_digest-end
slice_bounds-write_digest-end c = le_refl _

pub write_digest-requires : goal.write_digest-requires
write_digest-requires c =
    let l = c.loop-p in
    let more : l.p < c.args.w = omega arith in
    hash_level_place c.requires l.invariant more

pub loop-p-preserved : goal.loop-p-preserved
loop-p-preserved c =
    let l = c.loop-p in
    let a = c.args in
    let more : l.p < a.w = omega arith in
    let g = c.copy_from_slice in
    let d = c.write_digest in
    let size : ℕ = 32 * a.b in
    let fit : length l.buf - a.off ≡ size = omega (arith, c.requires.room, l.invariant.same_buf) in
    hash_level_again c.requires l.invariant more d.new.row digest-length
    (put_span l.buf l.part a.off (length l.buf - a.off) (size * l.p) size fit g.ensures.after)
    (span_kept l.buf l.part a.off (length l.buf - a.off) (size * l.p) size fit g.ensures.after (omega (arith, c.requires.room, l.invariant.same_buf)) (hash_level_read c.requires l.invariant more))
    d.ensures.row_after refl

pub shape_of-part : goal.shape_of-part
shape_of-part c = c.loop-p.invariant.same_part

pub shape_of-buf : goal.shape_of-buf
shape_of-buf c = c.loop-p.invariant.same_buf

pub returns : goal.returns
returns c = record { part_after = hash_level_done c.requires c.loop-p.invariant (omega arith); buf_unchanged = c.loop-p.invariant.prefix }
