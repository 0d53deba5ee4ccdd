-- `stepping::block` meets its contract. The invariant: the lanes below j are done.
use mathlib.Core.Path.{◌≡◌}
use Prim.Native.Nat.{◌+◌, ◌*◌, ◌≤◌}
use lib.ListN.{length}
use Rattle.stepping.specs.Lanes.{run}
use Rattle.stepping.proofs.Stepping.{BlockInv}
use Rattle.stepping.proofs.block.Given as goal

abbrev pub invariant-loop-j : goal.invariant-loop-j
invariant-loop-j l = (l.j ≤ l.lanes) × (l.lanes ≤ 4) × (20 * l.b + 20 ≤ length l.t) × (length l.t ≡ length l.initial.t) × (length l.w ≡ 4 * run) × BlockInv l.initial.t l.b l.initial.w l.lanes l.t l.w l.j
