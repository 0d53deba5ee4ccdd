-- `extrapolation::put_lanes` meets its contract. The invariant: the lanes below j are written.
use mathlib.Core.Path.{◌≡◌}
use Prim.Native.Nat.{◌+◌, ◌*◌, ◌≤◌, ◌<◌}
use lib.ListN.{length}
use Rattle.stepping.specs.Lanes.{run}
use Rattle.extrapolation.specs.Written.{PutLanes}
use Rattle.extrapolation.proofs.put_lanes.Given as goal

abbrev pub invariant-loop-j : goal.invariant-loop-j
invariant-loop-j l = (l.j ≤ l.lanes) × (l.n < run) × (l.lanes ≤ 4) × (length l.w ≡ 4 * run) × (l.start + l.lanes ≤ length l.out) × (length l.out ≡ length l.initial.out) × PutLanes l.w l.n l.j l.start l.initial.out l.out
