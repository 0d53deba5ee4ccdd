-- `evaluation_test::evaluation_in` meets its contract.
use mathlib.Core.Path.{ap, ◌∙◌}
use mathlib.Core.List.{List}
use Prim.Native.Nat.{ℕ, ◌*◌}
use lib.ListN.{length, drop, replicate, length-replicate}
use lib.Seq.{length-take-le}
use Rattle.lists.specs.Tests.{each}
use Rattle.algebra.specs.Barycentric.{weights_n}
use Rattle.opened.specs.Records.{record_words_at}
use Rattle.opened.proofs.Records.{length-record_words_at}
use Rattle.evaluation_test.specs.Evaluation.{weighed_leaf}
use Rattle.evaluation_test.proofs.Evaluation.{evaluated_is}
use native.Mathlib.Omega.{arith}
use Rattle.evaluation_test.proofs.evaluation_in.Goals as goal

pub returns : goal.returns
returns g c =
    let s = c.args in
    let o = s.records.now in
    let w : List ℕ = c.weights.new.out in
    let y : List ℕ = c.weigh_answers.new.answers in
    let t : List ℕ = c.fill_powers.new.table in
    let few = c.requires.5 in
    let low = c.requires.1 in
    c.choosing_walk.ensures
    ∙ ap (λ (j : ℕ). each (length s.indices.now) (weighed_leaf (length s.points.now) s.leaves w y t s.indices.now (record_words_at o.at o.size j o.reply.now)))
    (length-take-le s.mu (replicate 64 0) c.requires.6)
    ∙ evaluated_is s.leaves s.width s.mu s.points.now s.answers.now s.indices.now w y t (drop (length w * length s.points.now) s.answers.now)
    (drop (s.mu * length s.points.now) (replicate g.row.SCALES 0))
    (record_words_at o.at o.size s.mu o.reply.now) c.requires.4 few (omega arith) c.requires.2 (length-record_words_at o.at o.size s.mu o.reply.now)
    (c.weights.ensures ∙ ap weights_n (length-take-le s.width (replicate g.row.WIDTH 0) (omega (arith, length-replicate {A = ℕ} g.row.WIDTH 0))))
    c.weigh_answers.ensures c.fill_powers.ensures
