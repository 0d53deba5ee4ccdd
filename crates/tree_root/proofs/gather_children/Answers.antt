use mathlib.Core.Path.{◌≡◌, sym, ◌∙◌}
use mathlib.Core.Bool.{true, false}
use Prim.Native.Nat.{ℕ, ◌+◌, ◌-◌, ◌*◌, ◌/◌, ◌≤◌, ◌<◌}
use native.Mathlib.Omega.{arith}
use lib.ListN.{length, drop}
use Rattle.tree.specs.Tree.{all_parts}
use Rattle.tree.specs.Walk.{heads}
use Rattle.tree.proofs.Children.{heads_lt}
use Rattle.tree_root.proofs.Gathering.{gathering_place, gathering_own, gathering_listed, gathering_among, gathering_done, digest-put, digest-kept}
use Rattle.tree_root.proofs.gather_children.Goals as goal
use Rattle.tree_root.proofs.gather_children.Goals.{then-next_is, else-next_is}

pub overflow_mul-own : goal.overflow_mul-own
overflow_mul-own c = omega (arith, heads_lt c.args.set.now c.loop-c.a c.loop-c.c (sym c.next_is.ensures ∙ c.if-next_is.true), c.requires.digests, c.well_formed)

pub overflow_add-own : goal.overflow_add-own
overflow_add-own c = omega (arith, heads_lt c.args.set.now c.loop-c.a c.loop-c.c (sym c.next_is.ensures ∙ c.if-next_is.true), c.requires.digests, c.well_formed)

pub slice_bounds-copy_from_slice-end-then-next_is : goal.slice_bounds-copy_from_slice-end-then-next_is
slice_bounds-copy_from_slice-end-then-next_is c =
    omega (arith, heads_lt c.args.set.now c.loop-c.a c.loop-c.c (sym c.next_is.ensures ∙ c.if-next_is.true), c.requires.digests)

pub overflow_mul-missing : goal.overflow_mul-missing
overflow_mul-missing c =
    let more : 0 < c.args.first + c.args.b - c.loop-c.c = omega arith in
    omega (arith, gathering_among c.requires c.loop-c.invariant more (sym c.next_is.ensures ∙ c.if-next_is.false), c.well_formed)

pub overflow_add-missing : goal.overflow_add-missing
overflow_add-missing c =
    let more : 0 < c.args.first + c.args.b - c.loop-c.c = omega arith in
    omega (arith, gathering_among c.requires c.loop-c.invariant more (sym c.next_is.ensures ∙ c.if-next_is.false), c.well_formed)

pub slice_bounds-copy_from_slice-end-else-next_is-2 : goal.slice_bounds-copy_from_slice-end-else-next_is-2
slice_bounds-copy_from_slice-end-else-next_is-2 c =
    let more : 0 < c.args.first + c.args.b - c.loop-c.c = omega arith in
    omega (arith, gathering_among c.requires c.loop-c.invariant more (sym c.next_is.ensures ∙ c.if-next_is.false))

pub loop-c-preserved : goal.loop-c-preserved
unfolding all_parts
loop-c-preserved c =
    let a = c.args in
    let l = c.loop-c in
    let v = l.invariant in
    let left : ℕ = a.first + a.b - l.c in
    let more : 0 < left = omega arith in
    let one : left - 1 ≡ a.first + a.b - (l.c + 1) = omega arith in
    let to : ℕ = a.off + 32 * (l.c - a.first) in
    let place : a.off + 32 * (a.b - left) ≡ to = omega arith in
    let room : to + 32 ≤ length l.buf = omega (arith, gathering_place v more c.requires.room) in
    let size : to + 32 - to ≡ 32 = omega arith in
    elim c.if-next_is.branch [
      | then-next_is w ↦
          let own : heads (drop l.a a.set.now) l.c ≡ true = sym c.next_is.ensures ∙ w.if-next_is.true in
          let has : l.a < length a.set.now = heads_lt a.set.now l.a l.c own in
          let after = w.copy_from_slice.ensures.after in
          rw (w.buf-is, w.a-is, w.t-is, ← one)
          (gathering_own v more own
          (digest-kept l.buf a.dig.now to (to + 32 - to) l.a (length a.set.now) size after room has c.requires.digests)
          (digest-put l.buf a.dig.now to (to + 32 - to) l.a (length a.set.now) size after room has c.requires.digests place))
      | else-next_is w ↦
          let listed : heads (drop l.a a.set.now) l.c ≡ false = sym c.next_is.ensures ∙ w.if-next_is.false in
          let m : ℕ = length a.nodes.now / 32 in
          let has : l.t < m = gathering_among c.requires v more listed in
          let whole : 32 * m ≤ length a.nodes.now = omega arith in
          let after = w.copy_from_slice-else-next_is.ensures.after in
          rw (w.buf-is, w.a-is, w.t-is, ← one)
          (gathering_listed v more listed
          (digest-kept l.buf a.nodes.now to (to + 32 - to) l.t m size after room has whole)
          (digest-put l.buf a.nodes.now to (to + 32 - to) l.t m size after room has whole place))
    ]

pub returns : goal.returns
returns c =
    let z : c.args.first + c.args.b - c.loop-c.c ≡ 0 = omega arith in
    gathering_done c.requires.room z c.loop-c.invariant
