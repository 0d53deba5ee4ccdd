-- `sponge::xor_words` meets its contract: before each turn as many steps are taken as there are lanes passed.
use mathlib.Core.Path.{◌≡◌}
use Rattle.sponge.specs.Step.{xor_words}
use Rattle.sponge.proofs.xor_words.Given as goal

abbrev pub invariant-loop-lane : goal.invariant-loop-lane
invariant-loop-lane l = l.a ≡ xor_words l.lane l.initial.a l.s 0
