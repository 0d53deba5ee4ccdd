use mathlib.Core.Path.{◌≡◌, sym, ◌∙◌}
use mathlib.Core.Bool.{false}
use Prim.Native.Nat.{ℕ, ◌+◌, ◌-◌, ◌*◌, ◌/◌, ◌≤◌, ◌<◌}
use native.Mathlib.Omega.{arith}
use lib.ListN.{length, drop}
use Rattle.digests.proofs.Copies.{put_span, span_kept}
use Rattle.tree.specs.Walk.{heads}
use Rattle.tree.proofs.Children.{heads_lt}
use Rattle.missing_nodes.proofs.Listing.{listing_own, listing_fits, listing_listed, listing_done, copy_node, copy_rest}
use Rattle.missing_nodes.proofs.list_children.Goals as goal
use Rattle.missing_nodes.proofs.list_children.Goals.{then-next_is, else-next_is}

pub overflow_add-a : goal.overflow_add-a
overflow_add-a c = omega (arith, heads_lt c.args.set.now c.loop-c.a c.loop-c.c (sym c.next_is.ensures ∙ c.if-next_is.true))

pub overflow_mul-to : goal.overflow_mul-to
overflow_mul-to c =
    let more : 0 < c.args.first + c.args.b - c.loop-c.c = omega arith in
    omega (arith, listing_fits c.requires c.loop-c.invariant more (sym c.next_is.ensures ∙ c.if-next_is.false), c.well_formed)

pub overflow_add-to : goal.overflow_add-to
overflow_add-to c =
    let more : 0 < c.args.first + c.args.b - c.loop-c.c = omega arith in
    omega (arith, listing_fits c.requires c.loop-c.invariant more (sym c.next_is.ensures ∙ c.if-next_is.false), c.well_formed)

pub slice_bounds-copy_from_slice-end : goal.slice_bounds-copy_from_slice-end
slice_bounds-copy_from_slice-end c =
    let more : 0 < c.args.first + c.args.b - c.loop-c.c = omega arith in
    omega (arith, listing_fits c.requires c.loop-c.invariant more (sym c.next_is.ensures ∙ c.if-next_is.false), c.loop-c.invariant.same)

pub loop-c-preserved : goal.loop-c-preserved
loop-c-preserved c =
    let a = c.args in
    let l = c.loop-c in
    let v = l.invariant in
    let left : ℕ = a.first + a.b - l.c in
    let more : 0 < left = omega arith in
    let one : left - 1 ≡ a.first + a.b - (l.c + 1) = omega arith in
    elim c.if-next_is.branch [
      | then-next_is w ↦ rw (w.out-is, w.a-is, w.t-is, ← one) (listing_own v more (sym c.next_is.ensures ∙ w.if-next_is.true))
      | else-next_is w ↦
          let listed : heads (drop l.a a.set.now) l.c ≡ false = sym c.next_is.ensures ∙ w.if-next_is.false in
          let j : ℕ = a.start + l.c in
          let has : j < length a.tree.now / 32 = omega (arith, c.requires.tree_has, v.number) in
          let room : 32 * l.t + 32 ≤ length l.out = listing_fits c.requires v more listed in
          let size : 32 * l.t + 32 - 32 * l.t ≡ 32 = omega arith in
          let after = w.copy_from_slice.ensures.after in
          let copied = put_span l.out a.tree.now (32 * l.t) (32 * l.t + 32 - 32 * l.t) (32 * j) 32 size after in
          rw (w.out-is, w.a-is, w.t-is, ← one)
          (listing_listed v more listed
          (span_kept l.out a.tree.now (32 * l.t) (32 * l.t + 32 - 32 * l.t) (32 * j) 32 size after room (omega (arith, has)))
          (copy_node l.out a.tree.now l.t j copied room has)
          (copy_rest l.out a.tree.now l.t j copied room has))
    ]

pub returns : goal.returns
returns c =
    let z : c.args.first + c.args.b - c.loop-c.c ≡ 0 = omega arith in
    listing_done z c.loop-c.invariant
