-- `prover::put_string` meets its contract.
use mathlib.Core.Path.{◌∙◌, ◌≡◌, ap, sym}
use mathlib.Core.List.{◌++◌, ◌∷◌}
use lib.ListN.{drop, length, length-drop, take}
use Rattle.scheme.specs.Reply.{records_at}
use Rattle.scheme.specs.Layers.{Lent}
use Rattle.lent.specs.Witnessed.{witnessed}
use Rattle.prover.proofs.Answers.{few_points, sized, string_fits, string_put}
use Rattle.lists.specs.Parts.{mid_tail}
use Rattle.fiat_shamir.specs.Prove.{proved_answers}
use Rattle.commitment.specs.Shape.{sizes_in}
use Prim.Native.Nat.{◌+◌, ◌-◌, ◌≤◌, suc, ℕ}
use borrow.Author.Rules.{rules}
use native.Mathlib.Omega.{arith}
use Rattle.prover.proofs.put_string.Goals as goal

pub put_question-requires : goal.put_question-requires
put_question-requires c =
    let s = c.args in
    omega (arith, string_fits s.query.now.bytes.now (sizes_in s.query.now.shape) s.query.now.m (witnessed s.witness.now) c.requires.0, c.requires.1)

pub slice_bounds-put_answers-count : goal.slice_bounds-put_answers-count
slice_bounds-put_answers-count c =
    let s = c.args in
    omega (
      arith,
      string_fits s.query.now.bytes.now (sizes_in s.query.now.shape) s.query.now.m (witnessed s.witness.now) c.requires.0,
      c.requires.1,
      c.put_question.auto.string,
    )

pub slice_bounds-put_answers-start : goal.slice_bounds-put_answers-start
slice_bounds-put_answers-start c =
    let putQuestion' = c.put_question in
    let s = c.args in
    let fit : length s.query.now.bytes.now + 1 ≤ length putQuestion'.new.string = omega
    (arith, string_fits s.query.now.bytes.now (sizes_in s.query.now.shape) s.query.now.m (witnessed s.witness.now) c.requires.0, c.requires.1, putQuestion'.auto.string) in
    search rules

pub put_answers-requires : goal.put_answers-requires
put_answers-requires c =
    let putQuestion' = c.put_question in
    let s = c.args in
    let at : ℕ = length s.query.now.bytes.now + 1 in
    let o = putQuestion'.new.string in
    let size : length (take (length o - at) (drop at o)) ≡ length o - at = ap length (mid_tail at o) ∙ length-drop at o in (
      c.requires.0,
      omega (
        arith,
        size,
        string_fits s.query.now.bytes.now (sizes_in s.query.now.shape) s.query.now.m (witnessed s.witness.now) c.requires.0,
        c.requires.1,
        putQuestion'.auto.string,
      ),
    )

pub records_at-requires : goal.records_at-requires
records_at-requires c =
    let s = c.args in
    let l : Lent = witnessed s.witness.now in
    (sized s.query.now.bytes.now (sizes_in s.query.now.shape) s.query.now.m l c.requires.0, few_points s.query.now.bytes.now (sizes_in s.query.now.shape) s.query.now.m l c.requires.0)

pub overflow_add-result : goal.overflow_add-result
overflow_add-result c =
    let s = c.args in
    omega (arith, c.records_at.ensures, string_fits s.query.now.bytes.now (sizes_in s.query.now.shape) s.query.now.m (witnessed s.witness.now) c.requires.0)

pub returns : goal.returns
returns c =
    let putAnswers' = c.put_answers in
    let putQuestion' = c.put_question in
    let records_at' = c.records_at in
    let s = c.args in
    let b = s.query.now.bytes.now in
    let l : Lent = witnessed s.witness.now in
    let fits = string_fits b (sizes_in s.query.now.shape) s.query.now.m l c.requires.0 in
    let n : length b + 1 + records_at'.result ≡ suc (length b) + records_at (sizes_in s.query.now.shape) s.query.now.m = omega (arith, records_at'.ensures) in record {
      value = n;
      string_after = string_put b (sizes_in s.query.now.shape) s.query.now.m l c.requires.0 s.string.now putQuestion'.new.string putAnswers'.new.out (length b + 1) (search rules) (omega (arith, fits, c.requires.1))
          putQuestion'.ensures putAnswers'.ensures
          ∙ ap (λ (k : ℕ). (3 ∷ (b ++ proved_answers b l)) ++ drop (length b + 1 + k) s.string.now) (sym records_at'.ensures);
    }
