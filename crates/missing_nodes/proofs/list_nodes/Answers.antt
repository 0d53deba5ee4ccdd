use mathlib.Core.Path.{◌≡◌}
use Prim.Native.Nat.{◌+◌, ◌-◌, ◌≤◌, ◌<◌}
use native.Mathlib.Nat.{sub-zero}
use native.Mathlib.Omega.{arith}
use lib.Seq.{take-length}
use Rattle.node_sets.proofs.Sets.{parents-put, parents-room}
use Rattle.missing_nodes.proofs.ListedLevels.{level-alone, list_nodes_holds, list_nodes_list, list_nodes_next, list_nodes_again, list_nodes_done}
use Rattle.missing_nodes.proofs.list_nodes.Goals as goal

pub loop-init : goal.loop-init
loop-init c = rw sub-zero (list_nodes_holds c.requires)

pub list_level-t-requires : goal.list_level-t-requires
list_level-t-requires c =
    let more : 0 < c.args.h - c.loop.counter = omega arith in
    level-alone (list_nodes_list c.requires c.loop.invariant more)

pub overflow_add-start : goal.overflow_add-start
overflow_add-start c =
    let more : 0 < c.args.h - c.loop.counter = omega arith in
    omega (arith, list_nodes_next c.requires c.loop.invariant more, c.well_formed)

pub loop-preserved : goal.loop-preserved
loop-preserved c =
    let v = c.loop.invariant in
    let more : 0 < c.args.h - c.loop.counter = omega arith in
    let one : c.args.h - c.loop.counter - 1 ≡ c.args.h - (c.loop.counter + 1) = omega arith in
    let g = c.list_level-t in
    let r = c.to_parents-n in
    rw (← one)
    (list_nodes_again c.requires v more g.ensures g.auto.out r.ensures.0 (parents-put v.can.set r.new.set r.auto.set r.ensures.0 r.ensures.1) (parents-room v.can.set r.new.set r.auto.set))

pub returns : goal.returns
returns c =
    let none : c.args.h - c.loop.counter ≤ 0 = omega arith in
    rw take-length at (list_nodes_done c.requires c.loop.invariant none)
