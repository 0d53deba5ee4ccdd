-- `stepping::lane` meets its contract. The invariant: n steps are made.
use mathlib.Core.Path.{◌≡◌}
use Prim.Native.Nat.{◌+◌, ◌*◌, ◌≤◌, ◌<◌}
use lib.ListN.{length}
use Rattle.stepping.specs.Lanes.{run, Small}
use Rattle.stepping.proofs.Kernel.{LaneInv}
use Rattle.stepping.proofs.lane.Given as goal

abbrev pub invariant-loop-n : goal.invariant-loop-n
invariant-loop-n l = (l.n ≤ run) × (l.at + 16 < length l.t) × (l.j < 4) × (length l.w ≡ 4 * run) × Small l.t × LaneInv l.t l.at l.initial.w l.j l.w l.v l.n
