-- `drawing::draw_challenges` meets its contract: the first k places hold the first k words, each modulo q.
use mathlib.Core.Path.{◌≡◌}
use mathlib.Core.List.{◌++◌}
use lib.ListN.{drop, length}
use Rattle.drawing.proofs.Parts.{challenges_in}
use Rattle.drawing.proofs.draw_challenges.Given as goal

abbrev pub invariant-loop-k : goal.invariant-loop-k
invariant-loop-k l = (length l.out ≡ length l.initial.out) × (l.out ≡ challenges_in l.d l.k ++ drop l.k l.initial.out)
