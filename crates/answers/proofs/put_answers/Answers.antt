use mathlib.Core.Path.{◌≡◌, refl, sym, ◌∙◌, ap, subst}
use mathlib.Core.List.{List}
use Prim.Native.Nat.{ℕ, ◌+◌, ◌*◌, ◌≤◌}
use lib.ListN.{length, drop, get_or}
use Rattle.lists.specs.Bytes.{words, length-words, word_from, bytes_of}
use Rattle.scheme.specs.Layers.{extended_rows}
use Rattle.lent.specs.Witnessed.{witnessed}
use Rattle.scheme.proofs.HonestAnswers.{combination-length}
use Rattle.commitment.specs.Shape.{sizes_in}
use Rattle.lists.specs.Spliced.{spliced}
use Rattle.answers.specs.Answers.{answer_at}
use Rattle.answers.proofs.Answers.{answers_none, answers_all, answers_room, answers_turn}
use native.Mathlib.Omega.{arith}
use Rattle.answers.proofs.put_answers.Goals as goal

pub loop-p-init : goal.loop-p-init
loop-p-init c =
    let s = c.args in (
      refl,
      omega arith,
      answers_none (answer_at s.n (extended_rows (sizes_in s.s) (witnessed s.witness.now))) (words s.m (drop s.points s.question.now)) s.n s.at
          s.out.now,
      refl,
    )

pub put_answer-requires : goal.put_answer-requires
put_answer-requires c =
    let s = c.args in
    let es : List (List ℕ) = extended_rows (sizes_in s.s) (witnessed s.witness.now) in
    let h : s.at + 4 * s.n * c.loop-p.p + 4 * s.n ≤ length s.out.now =
    answers_room (answer_at s.n es) (words s.m (drop s.points s.question.now)) s.n s.at s.out.now s.m (length-words s.m (drop s.points s.question.now))
    (λ z. combination-length s.n z es) c.requires.3 c.loop-p.p (omega arith) in (
      c.requires.0,
      c.requires.1,
      subst
          (λ (k : ℕ). s.at + 4 * s.n * c.loop-p.p + 4 * s.n ≤ k) (sym c.loop-p.invariant.3) h,
    )

pub loop-p-preserved : goal.loop-p-preserved
loop-p-preserved c =
    let s = c.args in
    let p : ℕ = c.loop-p.p in
    let xs : List ℕ = (words s.m (drop s.points s.question.now)) in
    let es : List (List ℕ) = extended_rows (sizes_in s.s) (witnessed s.witness.now) in
    let f : ℕ → List ℕ = answer_at s.n es in
    let z : c.word.result ≡ get_or xs p 0 = c.word.ensures ∙ sym (word_from s.m s.points p s.question.now (omega arith)) in
    let r = answers_turn f xs s.n s.at s.out.now s.m (length-words s.m (drop s.points s.question.now))
    (λ z. combination-length s.n z es) c.requires.3 p c.loop-p.out
    c.put_answer.new.out (omega arith) c.loop-p.invariant.2
    (c.put_answer.ensures ∙ ap (λ (y : ℕ). spliced (s.at + 4 * s.n * p) (4 * s.n) (bytes_of (f y)) c.loop-p.out) z) in
    (refl, omega arith, r.0, r.1)

pub returns : goal.returns
returns c =
    let s = c.args in
    c.loop-p.invariant.2 ∙ answers_all (answer_at s.n (extended_rows (sizes_in s.s) (witnessed s.witness.now))) (words s.m (drop s.points s.question.now)) s.n s.at
    s.out.now
    s.m (length-words s.m (drop s.points s.question.now)) c.loop-p.p (omega arith)
