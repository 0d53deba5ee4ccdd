-- `counter_search::search` meets its contract: no counter below c qualifies, and the tail's front stays.
use mathlib.Core.Path.{◌≡◌}
use mathlib.Core.Bool.{false}
use lib.ListN.{length, take}
use Rattle.counter_search.specs.Tried.{tried_after}
use Prim.Native.Nat.{◌<◌, ℕ}
use Rattle.counter_search.proofs.search.Given as goal

abbrev pub invariant-loop-c : goal.invariant-loop-c
invariant-loop-c l = (length l.tail ≡ length l.initial.tail) × (take l.at l.tail ≡ take l.at l.initial.tail) × ((j : ℕ) → j < l.c → tried_after l.kappa l.a (take l.at l.initial.tail) j ≡ false)
