-- `report::put_point` meets its contract. The invariant: the lines of the polynomials below i are written.
use mathlib.Core.Path.{◌≡◌}
use Prim.Native.Nat.{◌-◌, ◌≤◌}
use lib.ListN.{length}
use Rattle.report.specs.Written.{written, point_lines}
use Rattle.report.proofs.put_point.Given as goal

abbrev pub invariant-loop-i : goal.invariant-loop-i
invariant-loop-i l = (l.i ≤ l.w) × ((l.next, l.out) ≡ written l.initial.out l.at (point_lines l.p l.w l.values l.i)) × (length l.out ≡ length l.initial.out)

abbrev pub decreases-loop-i : goal.decreases-loop-i
decreases-loop-i l = l.w - l.i
