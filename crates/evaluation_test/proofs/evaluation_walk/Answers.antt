use mathlib.Core.Path.{◌≡◌, refl, sym, ◌∙◌, ap}
use mathlib.Core.List.{List}
use Prim.Native.Nat.{ℕ, ◌<◌}
use lib.ListN.{length}
use Rattle.lists.specs.All.{all_imp}
use Rattle.lists.specs.Tests.{each_none, each_next, each_stop}
use Rattle.opened.specs.Records.{record_words_at}
use Rattle.evaluation_test.specs.Evaluation.{weighed_leaf}
use Rattle.evaluation_test.proofs.Evaluation.{leaf_is}
use native.Mathlib.Omega.{arith}
use Rattle.evaluation_test.proofs.evaluation_walk.Goals as goal

pub loop-a-init : goal.loop-a-init
loop-a-init c = each_none _

pub opened_point-x-requires : goal.opened_point-x-requires
opened_point-x-requires c =
    let f = c.requires.1 in
    (omega arith, all_imp {P = λ (x : ℕ). x < c.args.first} {Q = λ (x : ℕ). x < 65536} (λ x l. omega arith) c.args.indices.now c.requires.2)

pub returns-then-not-leaf_ok : goal.returns-then-not-leaf_ok
returns-then-not-leaf_ok c =
    let s = c.args in
    let w = s.weighed.now in
    let o = s.records.now in
    let a : ℕ = c.loop-a.a in
    let t : List ℕ = c.read_values.new.values in
    let rows : ℕ → List ℕ = record_words_at o.at o.size (length s.scratch.now.rows.now) o.reply.now in
    let e : t ≡ rows a = c.read_values.ensures ∙ ap (λ (n : ℕ). record_words_at o.at o.size n o.reply.now a) c.loop-a.auto.rows in
    let h = leaf_is w.count s.first w.weights.now w.answers.now w.scales.now s.indices.now rows a c.opened_point-x.result.0 _ t c.leaf_ok.result
    c.opened_point-x.ensures refl e c.leaf_ok.ensures in
    sym (each_stop (length s.indices.now) (weighed_leaf w.count s.first w.weights.now w.answers.now w.scales.now s.indices.now rows) a c.loop-a-test.true (sym h ∙ c.if-not-leaf_ok.true))

pub loop-a-preserved : goal.loop-a-preserved
loop-a-preserved c =
    let s = c.args in
    let w = s.weighed.now in
    let o = s.records.now in
    let a : ℕ = c.loop-a.a in
    let t : List ℕ = c.read_values.new.values in
    let rows : ℕ → List ℕ = record_words_at o.at o.size (length s.scratch.now.rows.now) o.reply.now in
    let e : t ≡ rows a = c.read_values.ensures ∙ ap (λ (n : ℕ). record_words_at o.at o.size n o.reply.now a) c.loop-a.auto.rows in
    let h = leaf_is w.count s.first w.weights.now w.answers.now w.scales.now s.indices.now rows a c.opened_point-x.result.0 _ t c.leaf_ok.result
    c.opened_point-x.ensures refl e c.leaf_ok.ensures in
    each_next (weighed_leaf w.count s.first w.weights.now w.answers.now w.scales.now s.indices.now rows) a c.loop-a.invariant (sym h ∙ c.if-not-leaf_ok.false)
