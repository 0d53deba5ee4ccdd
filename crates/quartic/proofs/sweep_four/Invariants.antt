-- `quartic::sweep_four` meets its contract. The invariant: the places before i are new, the others are as they were.
use mathlib.Core.Path.{◌≡◌}
use mathlib.Core.List.{List}
use Prim.Native.Nat.{ℕ, ◌+◌, ◌≤◌}
use lib.ListN.{length}
use Rattle.lists.specs.Tabulate.{filled}
use Rattle.algebra.specs.Quartic.{quartic_at}
use Rattle.quartic.proofs.sweep_four.Given as goal

abbrev pub invariant-loop-i : goal.invariant-loop-i
invariant-loop-i l =
    (l.last + 4 ≡ length l.initial.s) × (4 ≤ l.i) × (l.i ≤ l.last) × (length l.s ≡ length l.initial.s)
    × ((t : List ℕ) → length l.initial.s ≡ length t → l.initial.s ≡ filled (quartic_at l.f.e1 l.f.e2 l.f.e3 l.f.e4 t) 4 t → l.s ≡ filled (quartic_at l.f.e1 l.f.e2 l.f.e3 l.f.e4 t) l.i t)
