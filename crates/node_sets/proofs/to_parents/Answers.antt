use mathlib.Core.Path.{◌≡◌, refl, sym, ap, ◌∙◌, subst}
use mathlib.Core.List.{List}
use Prim.Native.Nat.{ℕ, ◌+◌, ◌*◌, ◌/◌, ◌<◌, ◌≤◌}
use native.Mathlib.Nat.{mul-div-le}
use native.Mathlib.Omega.{arith}
use lib.ListN.{length, get_or, take, drop}
use lib.Seq.{take-length}
use Rattle.tree.specs.Sets.{parents}
use Rattle.tree.specs.Walk.{used}
use Rattle.node_sets.proofs.Parents.{set_holds, set_room, set_skip, set_whole, set_moves, set_again, set_done}
use Rattle.node_sets.proofs.to_parents.Goals as goal

-- a place behind children of the whole set
skipped : (b n : ℕ) (s : List ℕ) (a : ℕ) {a' : ℕ} → take n s ≡ s → a' ≡ a + used (b * (get_or s a 0 / b)) b (drop a s)
    → a' ≡ a + used (b * (get_or s a 0 / b)) b (drop a (take n s))
skipped b n s a whole e = e ∙ ap (λ (x : List ℕ). a + used (b * (get_or s a 0 / b)) b (drop a x)) (sym whole)

pub loop-a-init : goal.loop-a-init
loop-a-init c = set_holds c.requires

pub offset_bounds-set-a : goal.offset_bounds-set-a
offset_bounds-set-a c =
    omega (arith, c.well_formed, c.loop-a.invariant.same_idx, c.loop-a-test.true)

pub bounds-set-a : goal.bounds-set-a
bounds-set-a c = omega (arith, c.loop-a.invariant.same_idx, c.loop-a-test.true)

pub nonzero_div-p : goal.nonzero_div-p
nonzero_div-p c = c.requires.arity

pub overflow_mul-b : goal.overflow_mul-b
overflow_mul-b c =
    let l = c.loop-a in
    omega (arith, mul-div-le (get_or l.set l.a 0) c.args.b, c.slice_known-in-loop-a-1.given l.a)

pub skip_children-a-requires : goal.skip_children-a-requires
skip_children-a-requires c =
    let more : c.loop-a.a < length c.args.set.now = omega (arith, c.loop-a.invariant.same_idx, c.loop-a-test.true) in
    (set_skip c.requires c.loop-a.invariant more).1

pub offset_bounds-set-w : goal.offset_bounds-set-w
offset_bounds-set-w c =
    let l = c.loop-a in
    let more : l.a < length c.args.set.now = omega (arith, l.invariant.same_idx, c.loop-a-test.true) in
    omega (arith, set_room c.requires l.invariant more, l.invariant.same_idx, c.well_formed)

pub bounds-set-w : goal.bounds-set-w
bounds-set-w c =
    let l = c.loop-a in
    let more : l.a < length c.args.set.now = omega (arith, l.invariant.same_idx, c.loop-a-test.true) in
    set_room c.requires l.invariant more

pub overflow_add-w : goal.overflow_add-w
overflow_add-w c =
    let l = c.loop-a in
    let more : l.a < length c.args.set.now = omega (arith, l.invariant.same_idx, c.loop-a-test.true) in
    omega (arith, set_room c.requires l.invariant more, l.invariant.same_idx, c.well_formed)

pub loop-a-smaller : goal.loop-a-smaller
loop-a-smaller c =
    let l = c.loop-a in
    let more : l.a < length c.args.set.now = omega (arith, l.invariant.same_idx, c.loop-a-test.true) in
    let m = set_moves c.requires l.invariant more (skipped c.args.b (length c.args.set.now) l.set l.a (set_whole c.requires l.invariant) c.skip_children-a.ensures) in
    omega (arith, m, more)

pub loop-a-preserved : goal.loop-a-preserved
loop-a-preserved c =
    let l = c.loop-a in
    let more : l.a < length c.args.set.now = omega (arith, l.invariant.same_idx, c.loop-a-test.true) in
    set_again c.requires l.invariant more (skipped c.args.b (length c.args.set.now) l.set l.a (set_whole c.requires l.invariant) c.skip_children-a.ensures) refl

pub shape_of-set : goal.shape_of-set
shape_of-set c = c.loop-a.invariant.same_idx

pub returns : goal.returns
returns c =
    let l = c.loop-a in
    let done : length c.args.set.now ≤ l.a = omega (arith, l.invariant.same_idx, c.loop-a-test.false) in
    subst (λ (s : List ℕ). (l.w ≡ length (parents c.args.b s)) × (take l.w l.set ≡ parents c.args.b s)) (take-length c.args.set.now) (set_done c.requires l.invariant done)
