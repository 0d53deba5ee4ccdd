-- `batching_test::batching_walk` meets its contract: the pairs walked so far agree, and one that does not ends both walks.
use mathlib.Core.Path.{◌≡◌}
use mathlib.Core.Bool.{true}
use lib.ListN.{length}
use Rattle.lists.specs.Tests.{each}
use Rattle.opened.specs.Records.{record_words_at}
use Rattle.batching_test.specs.Batching.{valued_at, valued_leaf}
use Rattle.batching_test.proofs.batching_walk.Given as goal

abbrev pub invariant-loop-k : goal.invariant-loop-k
invariant-loop-k l =
    (l.ok ≡ true) × (each l.k (valued_at l.batched.width l.batched.mu l.batched.challenges.now l.batched.answers.now l.batched.scales.now l.indices (record_words_at l.records.at l.records.size (length l.values) l.records.reply.now) l.a) ≡ true)

abbrev pub invariant-walk : goal.invariant-walk
invariant-walk l =
    (l.ok ≡ true) × (each l.a (valued_leaf l.batched.width l.batched.mu l.batched.challenges.now l.batched.answers.now l.batched.scales.now l.indices (record_words_at l.records.at l.records.size (length l.initial.values) l.records.reply.now)) ≡ true)
