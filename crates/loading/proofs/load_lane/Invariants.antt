-- `loading::load_lane` meets its contract. The invariant: the lines below r are loaded.
use mathlib.Core.Path.{◌≡◌}
use Prim.Native.Nat.{◌*◌, ◌≤◌, ◌<◌}
use lib.ListN.{length}
use Rattle.loading.proofs.Signs.{LoadInv}
use Rattle.loading.proofs.load_lane.Given as goal

abbrev pub invariant-loop-r : goal.invariant-loop-r
invariant-loop-r l = (l.r ≤ l.lines) × (l.j < 4) × (4 * l.lines ≤ length l.t) × (length l.t ≡ length l.initial.t) × (4 * l.width ≤ length l.values) × LoadInv l.values l.width l.lines l.j l.initial.t l.t l.r
