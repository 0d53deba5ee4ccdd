-- `codec::read_words` meets its contract.
use mathlib.Core.Path.{◌≡◌}
use mathlib.Core.List.{◌++◌}
use lib.ListN.{length, drop}
use Rattle.lists.specs.Numbers.{numbers}
use Rattle.codec.proofs.read_words.Given as goal

abbrev pub invariant-loop-i : goal.invariant-loop-i
invariant-loop-i l = (length l.x-items ≡ length l.initial.x-items) × (l.x-items ≡ numbers 4 l.i l.at l.b ++ drop l.i l.initial.x-items)
