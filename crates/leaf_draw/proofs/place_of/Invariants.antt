-- `leaf_draw::place_of` meets its contract: the used ones before k come before the unused one.
use Rattle.leaf_draw.specs.Place.{place_of}
use lib.ListN.{drop}
use mathlib.Core.Path.{◌≡◌}
use Prim.Native.Nat.{◌+◌}
use Rattle.leaf_draw.proofs.place_of.Given as goal

abbrev pub invariant-loop-k : goal.invariant-loop-k
invariant-loop-k l = place_of l.rank l.used ≡ l.k + place_of (l.rank + l.k) (drop l.k l.used)
