use mathlib.Core.Path.{◌≡◌}
use Prim.Native.Nat.{◌+◌, ◌-◌, ◌≤◌, ◌<◌}
use native.Mathlib.Nat.{sub-zero}
use native.Mathlib.Omega.{arith}
use lib.Seq.{take-length}
use Rattle.node_sets.proofs.Sets.{parents-put, parents-room}
use Rattle.tree_root.proofs.ParentDigests.{parents-alone, hashed_alone}
use Rattle.tree_root.proofs.Roots.{root_holds, root_parents, root_again, root_count, root_done, root_worked}
use Rattle.tree_root.proofs.root_from.Goals as goal

pub loop-init : goal.loop-init
loop-init c = rw sub-zero (root_holds c.requires)

pub hash_parents-level-requires : goal.hash_parents-level-requires
hash_parents-level-requires c =
    let more : 0 < c.args.h - c.loop.counter = omega arith in
    parents-alone (root_parents c.requires c.loop.invariant more)

pub overflow_add-ran : goal.overflow_add-ran
overflow_add-ran c =
    let more : 0 < c.args.h - c.loop.counter = omega arith in
    omega (arith, root_count c.requires c.loop.invariant more c.hash_parents-level.ensures.permutations_value)

pub loop-preserved : goal.loop-preserved
loop-preserved c =
    let v = c.loop.invariant in
    let more : 0 < c.args.h - c.loop.counter = omega arith in
    let one : c.args.h - c.loop.counter - 1 ≡ c.args.h - (c.loop.counter + 1) = omega arith in
    let g = c.hash_parents-level in
    let r = c.to_parents-n in
    rw (← one)
    (root_again c.requires v more (hashed_alone c.loop.dig v.can.set g.ensures.parents_hashed) g.ensures.buf_unchanged g.ensures.permutations_value
    r.ensures.0 (parents-put v.can.set r.new.set r.auto.set r.ensures.0 r.ensures.1) (parents-room v.can.set r.new.set r.auto.set) g.auto.dig g.auto.buf)

pub returns-clause-dig_after : goal.returns-clause-dig_after
returns-clause-dig_after c =
    let none : c.args.h - c.loop.counter ≤ 0 = omega arith in
    rw take-length at (root_done c.requires c.loop.invariant none)

pub returns-clause-value : goal.returns-clause-value
returns-clause-value c =
    let none : c.args.h - c.loop.counter ≤ 0 = omega arith in
    rw take-length at (root_worked c.requires c.loop.invariant none)
