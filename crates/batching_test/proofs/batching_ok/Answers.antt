-- `batching_test::batching_ok` meets its contract.
use mathlib.Core.Path.{◌∙◌, ap}
use Prim.Native.Nat.{ℕ, ◌+◌, ◌*◌}
use lib.ListN.{length, drop, replicate, length-replicate}
use lib.Seq.{length-take-le}
use Rattle.lists.specs.Tests.{each}
use Rattle.opened.specs.Records.{record_words_at}
use Rattle.opened.proofs.Records.{length-record_words_at}
use Rattle.batching_test.specs.Batching.{valued_leaf}
use Rattle.batching_test.proofs.Batching.{batched_is}
use native.Mathlib.Omega.{arith}
use Rattle.batching_test.proofs.batching_ok.Goals as goal

pub returns : goal.returns
returns c =
    let s = c.args in
    let n : ℕ = s.mu + length s.challenges.now in
    let m = c.requires.3 in
    let k = c.requires.4 in
    c.batching_walk.ensures
    ∙ ap (λ (j : ℕ). each (length s.indices.now) (valued_leaf s.width s.mu s.challenges.now s.batching.now c.fill_powers.new.table s.indices.now (record_words_at s.at s.size j s.reply.now)))
    (length-take-le n (replicate 68 0) (omega (arith, length-replicate {A = ℕ} 68 0)))
    ∙ batched_is s.width s.mu s.challenges.now s.batching.now s.indices.now (drop (s.mu * length s.challenges.now) (replicate 256 0))
    (record_words_at s.at s.size n s.reply.now) (length-record_words_at s.at s.size n s.reply.now) c.fill_powers.new.table c.fill_powers.ensures
