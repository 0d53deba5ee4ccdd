use mathlib.Core.Path.{◌≡◌}
use Prim.Native.Nat.{◌+◌, ◌-◌}
use native.Mathlib.Nat.{sub-zero}
use native.Mathlib.Omega.{arith}
use Rattle.missing_nodes.proofs.Counting.{count_holds, count_shift, count_fits, count_again, count_done}
use Rattle.missing_nodes.proofs.count_nodes.Goals as goal

pub loop-init : goal.loop-init
loop-init c = rw sub-zero (count_holds c.requires)

pub overflow_add-shift : goal.overflow_add-shift
overflow_add-shift c = omega (arith, count_shift c.requires c.loop.invariant (omega arith))

pub count_changes-w-requires : goal.count_changes-w-requires
count_changes-w-requires c = (count_shift c.requires c.loop.invariant (omega arith), c.requires.some)

pub overflow_add-w : goal.overflow_add-w
overflow_add-w c =
    omega (arith, count_fits c.requires c.loop.invariant (omega arith) c.count_changes-w.result c.count_changes-w.ensures)

pub overflow_mul-t : goal.overflow_mul-t
overflow_mul-t c =
    omega (arith, count_fits c.requires c.loop.invariant (omega arith) c.count_changes-w.result c.count_changes-w.ensures)

pub overflow_sub-t : goal.overflow_sub-t
overflow_sub-t c =
    omega (arith, count_fits c.requires c.loop.invariant (omega arith) c.count_changes-w.result c.count_changes-w.ensures)

pub overflow_add-t : goal.overflow_add-t
overflow_add-t c =
    omega (arith, count_fits c.requires c.loop.invariant (omega arith) c.count_changes-w.result c.count_changes-w.ensures)

pub loop-preserved : goal.loop-preserved
loop-preserved c =
    let one : c.args.h - c.loop.counter - 1 ≡ c.args.h - (c.loop.counter + 1) = omega arith in
    rw (← one) (count_again c.requires c.loop.invariant (omega arith) c.count_changes-w.result c.count_changes-w.ensures)

pub returns : goal.returns
returns c = count_done c.requires c.loop.invariant (omega arith)
