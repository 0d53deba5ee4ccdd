-- `permutation::keccak_f` meets its contract: before turn j of the inner loop in turn i of the outer one, s holds the state after 2 i + j rounds.
use mathlib.Core.Path.{◌≡◌}
use mathlib.Core.List.{List}
use Prim.Native.Nat.{ℕ, ◌+◌, ◌-◌, ◌*◌, ◌<◌, ◌≤◌}
use Rattle.keccak.specs.Keccak as K
use Rattle.keccak.specs.Held.{held}
use Rattle.keccak.specs.Parities.{HasParities}
use Rattle.permutation.proofs.keccak_f.Given as goal

-- what the code has after n rounds: s with its parities, which holds the state
abbrev pub After : List ℕ → ℕ → List ℕ → Type 0
After a n s = HasParities s × (held s ≡ K.rounds n a)

abbrev pub invariant-loop-j : goal.invariant-loop-j
invariant-loop-j l = (l.i < 12) × (l.j ≤ 2) × After l.a (2 * l.i + l.j) l.s

abbrev pub decreases-loop-j : goal.decreases-loop-j
decreases-loop-j l = 2 - l.j

abbrev pub invariant-loop-i : goal.invariant-loop-i
invariant-loop-i l = (l.i ≤ 12) × After l.a (2 * l.i) l.s

abbrev pub decreases-loop-i : goal.decreases-loop-i
decreases-loop-i l = 12 - l.i
