-- `codec::read_halves` meets its contract.
use mathlib.Core.Path.{◌≡◌}
use mathlib.Core.List.{◌++◌}
use lib.ListN.{length, drop}
use Rattle.lists.specs.Numbers.{numbers}
use Rattle.codec.proofs.read_halves.Given as goal

abbrev pub invariant-loop-i : goal.invariant-loop-i
invariant-loop-i l = (length l.x-items ≡ length l.initial.x-items) × (l.x-items ≡ numbers 2 l.i l.at l.b ++ drop l.i l.initial.x-items)
