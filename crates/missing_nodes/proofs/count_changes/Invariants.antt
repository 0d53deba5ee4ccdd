-- `count_changes` meets its contract. The invariant: n of the first a indices differ from the next one.
use mathlib.Core.Path.{◌≡◌}
use Prim.Native.Nat.{◌-◌, ◌≤◌}
use Rattle.lists.specs.Tests.{tally}
use Rattle.missing_nodes.proofs.Counting.{differs}
use Rattle.missing_nodes.proofs.count_changes.Given as goal

abbrev pub invariant-loop-a : goal.invariant-loop-a
invariant-loop-a l = (l.a ≤ l.last) × (l.n ≡ tally l.a (differs l.shift l.indices))

abbrev pub decreases-loop-a : goal.decreases-loop-a
decreases-loop-a l = l.last - l.a
