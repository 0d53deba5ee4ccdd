-- `extrapolation::walk` meets its contract. The invariant: the runs before step i are written.
use mathlib.Core.Path.{◌≡◌}
use Prim.Native.Nat.{◌+◌, ◌*◌, ◌≤◌}
use lib.ListN.{length}
use Rattle.extrapolation.proofs.Putting.{WalkInv}
use Rattle.extrapolation.proofs.walk.Given as goal

abbrev pub invariant-loop-i : goal.invariant-loop-i
invariant-loop-i l =
    (l.end ≡ l.first + l.count) × (l.i ≤ 65560) × (20 * l.blocks ≤ length l.t) × (length l.t ≡ length l.initial.t) × (l.lanes ≤ 4) × (l.lo + l.lanes ≤ l.stride) × (l.count * l.stride ≤ length l.out) × (length l.out ≡ length l.initial.out) × (l.end ≤ 65536) × WalkInv (5 * l.blocks)
    l.lanes l.first (l.first + l.count) l.stride l.lo l.initial.t l.initial.out l.t l.out l.i
