-- `barycentric::weights_from` meets its contract. The invariant: the places from c on have their weights, and the sign is that of n - c points above.
use mathlib.Core.Path.{◌≡◌}
use Prim.Native.Nat.{◌-◌}
use lib.ListN.{length}
use Rattle.algebra.specs.Barycentric.{weight_n, sign_n}
use Rattle.lists.specs.Fill.{Filled}
use Rattle.barycentric.proofs.weights_from.Given as goal

abbrev pub invariant-loop-c : goal.invariant-loop-c
invariant-loop-c l = (length l.out ≡ l.n) × (l.sign.0 ≡ sign_n (l.n - l.c)) × Filled (weight_n l.table l.n) l.out l.c l.n
