use mathlib.Core.Path.{◌≡◌, refl, sym, ◌∙◌, ap}
use mathlib.Core.List.{List}
use Prim.Native.Nat.{ℕ}
use lib.ListN.{length}
use Rattle.lists.specs.Tests.{each, each_none, each_next}
use Rattle.opened.specs.Records.{record_words_at}
use Rattle.batching_test.specs.Batching.{valued_at, valued_leaf}
use Rattle.batching_test.proofs.Batching.{leaf_done, valued_is, valued_fails}
use native.Mathlib.Omega.{arith}
use Rattle.batching_test.proofs.batching_walk.Goals as goal

pub walk-init : goal.walk-init
walk-init c = (refl, each_none _)

pub loop-k-init : goal.loop-k-init
loop-k-init c = (c.walk.invariant.0, each_none _)

pub loop-k-preserved : goal.loop-k-preserved
loop-k-preserved c =
    let s = c.args in
    let b = s.batched.now in
    let o = s.records.now in
    let v = c.loop-k.invariant in
    let a : ℕ = c.walk.a in
    let x : List ℕ = c.read_values.new.values in
    let values : ℕ → List ℕ = record_words_at o.at o.size (length x) o.reply.now in
    let g : x ≡ values a = c.read_values.ensures ∙ ap (λ (n : ℕ). record_words_at o.at o.size n o.reply.now a) (sym c.read_values.auto.values) in
    let h = valued_is b.width b.mu b.challenges.now b.answers.now b.scales.now s.indices.now values x c.loop-k.k a c.opened_point-e.result.0 c.opened_point-e.ensures g in
    (v.0, each_next (valued_at b.width b.mu b.challenges.now b.answers.now b.scales.now s.indices.now values a) c.loop-k.k v.1 (sym h ∙ sym c.batching_agrees.ensures ∙ c.if-not-batching_agrees.false))

pub walk-preserved : goal.walk-preserved
walk-preserved c =
    let s = c.args in
    let b = s.batched.now in
    let o = s.records.now in
    let u = c.loop-k.invariant in
    let a : ℕ = c.walk.a in
    let n : ℕ = length c.read_values.new.values in
    let f : n ≡ length s.values.now = c.read_values.auto.values ∙ c.walk.auto.values in
    let leaf : ℕ → ℕ → _ = λ (j : ℕ). valued_leaf b.width b.mu b.challenges.now b.answers.now b.scales.now s.indices.now (record_words_at o.at o.size j o.reply.now) in (
      u.0,
      each_next (leaf (length s.values.now)) a c.walk.invariant.1
          (ap (λ (j : ℕ). leaf j a) (sym f) ∙ leaf_done b.width b.mu b.challenges.now b.answers.now b.scales.now s.indices.now (record_words_at o.at o.size n o.reply.now) a c.loop-k.k (omega arith) u.1),
    )

pub returns-then-not-batching_agrees : goal.returns-then-not-batching_agrees
returns-then-not-batching_agrees c =
    let s = c.args in
    let b = s.batched.now in
    let o = s.records.now in
    let a : ℕ = c.walk.a in
    let x : List ℕ = c.read_values.new.values in
    let values : ℕ → List ℕ = record_words_at o.at o.size (length x) o.reply.now in
    let d : length x ≡ length s.values.now = c.read_values.auto.values ∙ c.walk.auto.values in
    let g : x ≡ values a = c.read_values.ensures ∙ ap (λ (n : ℕ). record_words_at o.at o.size n o.reply.now a) (sym c.read_values.auto.values) in
    let h = valued_is b.width b.mu b.challenges.now b.answers.now b.scales.now s.indices.now values x c.loop-k.k a c.opened_point-e.result.0 c.opened_point-e.ensures g in
    sym (ap (λ (j : ℕ). each (length s.indices.now) (valued_leaf b.width b.mu b.challenges.now b.answers.now b.scales.now s.indices.now (record_words_at o.at o.size j o.reply.now))) (sym d)
    ∙ valued_fails b.width b.mu b.challenges.now b.answers.now b.scales.now s.indices.now values (length s.indices.now) a c.loop-k.k c.walk-test.true c.loop-k-test.true
    (sym h ∙ sym c.batching_agrees.ensures ∙ c.if-not-batching_agrees.true))
