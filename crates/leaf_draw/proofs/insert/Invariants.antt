-- `leaf_draw::insert` meets its contract: the places before i have what they will hold, and `carried` is what place i takes.
use mathlib.Core.List.{◌++◌, ◌∷◌}
use mathlib.Core.Path.{◌≡◌}
use lib.ListN.{length, take, drop, get_or}
use Prim.Native.Nat.{◌≤◌, ◌-◌, ◌+◌}
use Rattle.leaf_draw.proofs.insert.Given as goal

abbrev pub invariant-loop-i : goal.invariant-loop-i
invariant-loop-i l =
    (l.k ≤ l.i) × (l.i ≤ l.n) × (length l.out ≡ length l.initial.out) × (l.out ≡ take l.k l.initial.out ++ (take (l.i - l.k) (l.x ∷ take (l.n - l.k) (drop l.k l.initial.out)) ++ drop (l.k + (l.i - l.k)) l.initial.out)) × (l.carried ≡ get_or (l.x ∷ take (l.n - l.k) (drop l.k l.initial.out)) (l.i - l.k) 0)
