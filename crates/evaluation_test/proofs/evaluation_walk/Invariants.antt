-- `evaluation_test::evaluation_walk` meets its contract: the leaves passed so far agree.
use mathlib.Core.Path.{◌≡◌}
use mathlib.Core.Bool.{true}
use lib.ListN.{length}
use Rattle.lists.specs.Tests.{each}
use Rattle.opened.specs.Records.{record_words_at}
use Rattle.evaluation_test.specs.Evaluation.{weighed_leaf}
use Rattle.evaluation_test.proofs.evaluation_walk.Given as goal

abbrev pub invariant-loop-a : goal.invariant-loop-a
invariant-loop-a l =
    each l.a (weighed_leaf l.weighed.count l.first l.weighed.weights.now l.weighed.answers.now l.weighed.scales.now l.indices (record_words_at l.records.at l.records.size (length l.initial.rows) l.records.reply.now)) ≡ true
