use mathlib.Core.Path.{◌≡◌, refl, sym, ◌∙◌, ap, ap₂, subst}
use mathlib.Core.List.{List}
use Prim.Native.Nat.{ℕ, ◌+◌, ◌*◌, ◌-◌, ◌≤◌}
use native.Mathlib.Nat.{zero-add}
use lib.ListN.{length, take, drop, get_or}
use Rattle.lists.specs.Bytes.{words, word_from, bytes_of}
use Rattle.lists.specs.Parts.{part_is}
use Rattle.lists.specs.Range.{up_from, length-up_from, up_from_at}
use Rattle.scheme.specs.Layers.{extended_rows}
use Rattle.lent.specs.Witnessed.{witnessed}
use Rattle.scheme.proofs.HonestAnswers.{combination-length}
use Rattle.commitment.specs.Shape.{sizes_in}
use Rattle.algebra.specs.Pairs.{points_end}
use Rattle.lists.specs.Spliced.{spliced}
use Rattle.answers.specs.Answers.{batching_over, batching_at}
use Rattle.answers.proofs.Answers.{answers_none, answers_all, answers_room, answers_turn, mask_length}
use native.Mathlib.Omega.{arith}
use Rattle.answers.proofs.put_batchings.Goals as goal

pub loop-k-init : goal.loop-k-init
loop-k-init c =
    let s = c.args in
    let es : List (List ℕ) = extended_rows (sizes_in s.s) (witnessed s.witness.now) in
    (refl, refl, omega arith, answers_none (batching_at s.first.0 s.n es s.witness.now.masks.now (words s.s.eta (drop s.challenges s.question.now))) (up_from 0 s.s.eta) s.n s.at s.out.now, refl)

pub put_batching-requires : goal.put_batching-requires
put_batching-requires c =
    let s = c.args in
    let es : List (List ℕ) = extended_rows (sizes_in s.s) (witnessed s.witness.now) in
    let h : s.at + 4 * s.n * c.loop-k.k + 4 * s.n ≤ length s.out.now =
    answers_room (batching_at s.first.0 s.n es s.witness.now.masks.now (words s.s.eta (drop s.challenges s.question.now))) (up_from 0 s.s.eta) s.n s.at s.out.now s.s.eta (length-up_from 0 s.s.eta)
    (λ k. combination-length s.n (get_or (words s.s.eta (drop s.challenges s.question.now)) k 0) _) c.requires.5
    c.loop-k.k (omega arith) in
    let k : ℕ = c.loop-k.k in
    let l : length (take (s.n * k + s.n - s.n * k) (drop (s.n * k) s.witness.now.masks.now)) ≡ s.n = mask_length s.n k s.s.eta s.witness.now.masks.now
    c.requires.3 (omega arith) in (
      c.requires.0,
      l ∙ c.requires.1,
      subst (λ (j : ℕ). s.first.0 + j ≤ points_end) (sym l) c.requires.2,
      subst (λ (j : ℕ). s.at + 4 * s.n * k + 4 * j ≤ length c.loop-k.out) (sym l) (subst (λ (j : ℕ). s.at + 4 * s.n * k + 4 * s.n ≤ j) (sym c.loop-k.invariant.4) h),
    )

pub loop-k-preserved : goal.loop-k-preserved
loop-k-preserved c =
    let s = c.args in
    let k : ℕ = c.loop-k.k in
    let es : List (List ℕ) = extended_rows (sizes_in s.s) (witnessed s.witness.now) in
    let γs : List ℕ = (words s.s.eta (drop s.challenges s.question.now)) in
    let f : ℕ → List ℕ = batching_at s.first.0 s.n es s.witness.now.masks.now γs in
    let mask : List ℕ = take (s.n * k + s.n - s.n * k) (drop (s.n * k) s.witness.now.masks.now) in
    let l : length mask ≡ s.n = mask_length s.n k s.s.eta s.witness.now.masks.now c.requires.3 (omega arith) in
    let γ : c.word.result ≡ get_or γs k 0 = c.word.ensures ∙ sym (word_from s.s.eta s.challenges k s.question.now (omega arith)) in
    let i : k ≡ get_or (up_from 0 s.s.eta) k 0 = sym (up_from_at 0 s.s.eta k (omega arith) ∙ zero-add k) in
    let r = answers_turn f (up_from 0 s.s.eta) s.n s.at s.out.now s.s.eta (length-up_from 0 s.s.eta)
    (λ k. combination-length s.n (get_or γs k 0) _) c.requires.5 k
    c.loop-k.out c.put_batching.new.out (omega arith) c.loop-k.invariant.3
    (c.put_batching.ensures
    ∙ ap (λ (j : ℕ). spliced (s.at + 4 * s.n * k) (4 * j) (bytes_of (batching_over s.first.0 j es mask c.word.result)) c.loop-k.out) l
    ∙ ap₂ (λ (x : List ℕ) (y : ℕ). spliced (s.at + 4 * s.n * k) (4 * s.n) (bytes_of (batching_over s.first.0 s.n es x y)) c.loop-k.out) (part_is s.n k s.witness.now.masks.now) γ
    ∙ ap (λ (j : ℕ). spliced (s.at + 4 * s.n * k) (4 * s.n) (bytes_of (f j)) c.loop-k.out) i) in
    (refl, refl, omega arith, r.0, r.1)

pub returns : goal.returns
returns c =
    let s = c.args in
    let es : List (List ℕ) = extended_rows (sizes_in s.s) (witnessed s.witness.now) in
    c.loop-k.invariant.3 ∙ answers_all (batching_at s.first.0 s.n es s.witness.now.masks.now (words s.s.eta (drop s.challenges s.question.now))) (up_from 0 s.s.eta) s.n s.at s.out.now s.s.eta
    (length-up_from 0 s.s.eta) c.loop-k.k (omega arith)
