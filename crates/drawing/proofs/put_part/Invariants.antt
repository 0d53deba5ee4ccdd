-- `drawing::put_part` meets its contract.
use mathlib.Core.Path.{◌≡◌}
use Prim.Native.Nat.{◌≤◌}
use lib.ListN.{length, take}
use Rattle.lists.specs.Spliced.{spliced}
use Rattle.drawing.proofs.put_part.Given as goal

abbrev pub invariant-loop-i : goal.invariant-loop-i
invariant-loop-i l = (l.i ≤ length l.bytes) × (l.i-end ≡ length l.bytes) × (length l.out ≡ length l.initial.out) × (l.out ≡ spliced l.at l.i (take l.i l.bytes) l.initial.out)
