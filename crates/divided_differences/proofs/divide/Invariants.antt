-- `divided_differences::divide` meets its contract. The invariant: k coefficients are found, rests and products stand behind them, and the points below `end` have their weights.
use mathlib.Core.Path.{◌≡◌}
use Prim.Native.Nat.{◌≤◌}
use lib.ListN.{length}
use Rattle.algebra.specs.Rests.{Weights, Divided}
use Rattle.divided_differences.proofs.divide.Given as goal

abbrev pub invariant-loop-k : goal.invariant-loop-k
invariant-loop-k l = (l.k-end ≡ length l.points) × (l.k ≤ l.end) × (l.end ≤ l.k-end) × (length l.rests ≡ l.k-end) × (length l.products ≡ l.k-end) × Weights l.points l.out l.k l.end × Divided l.points l.values l.out l.rests l.products l.k
