-- `field::powers` meets its contract. The invariant says of every z: where the first places had its powers, and `step` was the power that leads from one to the next of
-- its chain, the places below i have its powers.
use mathlib.Core.Path.{◌≡◌}
use Prim.Native.Nat.{ℕ, ◌≤◌, ◌<◌}
use lib.ListN.{length}
use Rattle.algebra.specs.Columns.{pow_n}
use Rattle.lists.specs.Fill.{Filled}
use Rattle.field.proofs.powers.Given as goal

abbrev pub invariant-loop-i : goal.invariant-loop-i
invariant-loop-i l =
    (l.i-end ≡ length l.initial.out) × (l.head ≤ l.i-end) × (l.head < l.i-end → l.head ≡ 8) × (length l.out ≡ l.i-end) × ((z : ℕ) → (l.head < l.i-end → l.step.0 ≡ pow_n z 8) → Filled (pow_n z) l.initial.out 0 l.head → Filled (pow_n z) l.out 0 l.i)
