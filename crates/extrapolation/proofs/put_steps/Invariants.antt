-- `extrapolation::put_steps` meets its contract. The invariant: the steps below n are written.
use mathlib.Core.Path.{◌≡◌}
use Prim.Native.Nat.{◌+◌, ◌-◌, ◌*◌, ◌≤◌, ◌<◌}
use lib.ListN.{length}
use Rattle.stepping.specs.Lanes.{run}
use Rattle.extrapolation.proofs.Putting.{StepsInv}
use Rattle.extrapolation.proofs.put_steps.Given as goal

abbrev pub invariant-loop-n : goal.invariant-loop-n
invariant-loop-n l =
    (l.end ≡ l.first + l.count) × (l.n-end ≤ run) × (l.n-end ≤ l.end - l.i) × (l.first ≤ l.i + l.n) × (l.n ≤ 65560) × (l.lanes ≤ 4) × (length l.w ≡ 4 * run) × (l.lo + l.lanes ≤ l.stride) × (l.count * l.stride ≤ length l.out) × (length l.out ≡ length l.initial.out) × (l.i < l.end) ×
    (l.end ≤ 65536) × StepsInv l.w l.i l.lanes l.first (l.first + l.count) l.stride l.lo l.initial.out l.out l.n
