-- `evaluation_test::weigh_answers` meets its contract: after p turns the first p answers are weighed.
use mathlib.Core.Path.{◌≡◌}
use mathlib.Core.List.{◌++◌}
use Prim.Native.Nat.{◌*◌}
use lib.ListN.{length, drop}
use Rattle.lists.specs.Rows.{rows_of}
use Rattle.evaluation_test.specs.Evaluation.{weighed_row}
use Rattle.evaluation_test.proofs.weigh_answers.Given as goal

abbrev pub invariant-loop-p : goal.invariant-loop-p
invariant-loop-p l = l.answers ≡ rows_of (weighed_row l.weights l.initial.answers) l.p ++ drop (length l.weights * l.p) l.initial.answers
