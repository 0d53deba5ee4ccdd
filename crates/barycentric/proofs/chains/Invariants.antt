-- `barycentric::chains` meets its contract. The invariant: c distances from the front and as many from the end are multiplied, and so many places on each side are done.
use mathlib.Core.Path.{◌≡◌}
use Prim.Native.Nat.{◌+◌, ◌-◌}
use lib.ListN.{length}
use Rattle.algebra.specs.Barycentric.{rise_n, fall_n, above_n}
use Rattle.lists.specs.Fill.{Filled}
use Rattle.barycentric.proofs.chains.Given as goal

abbrev pub invariant-loop-c : goal.invariant-loop-c
invariant-loop-c l =
    (length l.below ≡ l.n) × (length l.above ≡ l.n) × (l.low.0 ≡ rise_n l.near l.c) × (l.high.0 ≡ fall_n (l.near + l.n) (l.n - (l.n - l.c))) × Filled (rise_n l.near) l.below 0 l.c × Filled (above_n l.near l.n) l.above (l.n - l.c) l.n
