-- `report::put_values` meets its contract. The invariant: the lines of the points below p are written.
use mathlib.Core.Path.{◌≡◌}
use Prim.Native.Nat.{◌-◌, ◌≤◌}
use lib.ListN.{length}
use Rattle.scheme.specs.Program.{value_lines}
use Rattle.report.specs.Written.{written}
use Rattle.report.proofs.put_values.Given as goal

abbrev pub invariant-loop-p : goal.invariant-loop-p
invariant-loop-p l = (l.p ≤ l.m) × ((l.next, l.out) ≡ written l.initial.out l.at (value_lines l.p l.w l.values)) × (length l.out ≡ length l.initial.out)

abbrev pub decreases-loop-p : goal.decreases-loop-p
decreases-loop-p l = l.m - l.p
