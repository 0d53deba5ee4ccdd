-- `question::indices_ok` meets its contract. The invariant: `ok` is the test of the indices so far, and `low` the least that may follow.
use mathlib.Core.Path.{◌≡◌}
use Prim.Native.Nat.{◌-◌, ◌≤◌}
use Rattle.lists.specs.Numbers.{numbers}
use Rattle.lists.specs.Scan.{after, placed}
use Rattle.question.proofs.indices_ok.Given as goal

abbrev pub invariant-loop-i : goal.invariant-loop-i
invariant-loop-i l = (l.i ≤ l.n) × (l.ok ≡ placed l.leaves (numbers 2 l.i l.at l.b)) × (l.low ≡ after (numbers 2 l.i l.at l.b))

abbrev pub decreases-loop-i : goal.decreases-loop-i
decreases-loop-i l = l.n - l.i
