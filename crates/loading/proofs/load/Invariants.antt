-- `loading::load` meets its contract. The invariant: the lanes below j are loaded.
use mathlib.Core.Path.{◌≡◌}
use Prim.Native.Nat.{◌*◌, ◌≤◌}
use lib.ListN.{length}
use Rattle.stepping.specs.Lanes.{Small}
use Rattle.loading.proofs.Signs.{LanesSigned}
use Rattle.loading.proofs.load.Given as goal

abbrev pub invariant-loop-j : goal.invariant-loop-j
invariant-loop-j l =
    (l.j ≤ l.lanes) × (l.lanes ≤ 4) × (4 * l.lines ≤ length l.t) × (length l.t ≡ length l.initial.t) × Small l.t × (4 * l.width ≤ length l.values) × LanesSigned l.values l.j l.width l.lines l.t
