-- `proof_checker::draw_string` meets its contract.
use lib.ListN.{length}
use Rattle.sponge.specs.Draw.{draw}
use Rattle.lists.specs.Bytes.{Bytes}
use Rattle.proof_checker.specs.Parts.{drawn_from}
use Rattle.proof_checker.proofs.Draws.{counter_length_lem, answers_part, string_put}
use mathlib.Core.Path.{sym, ◌∙◌, ap}
use native.Mathlib.Omega.{arith}
use Rattle.proof_checker.proofs.draw_string.Goals as goal

pub slice_bounds-put_bytes-end-2 : goal.slice_bounds-put_bytes-end-2
slice_bounds-put_bytes-end-2 c =
    sym (counter_length_lem c.args.proof.now c.args.answers c.requires.0)

pub put_bytes-requires-2 : goal.put_bytes-requires-2
put_bytes-requires-2 c =
    let kept = c.put_question.auto.string in
    let kept2 = c.put_bytes.auto.out in
    omega (arith, c.requires.1, counter_length_lem c.args.proof.now c.args.answers c.requires.0, kept, kept2)

pub returns : goal.returns
unfolding drawn_from
returns c =
    let s = c.args in
    let front = c.put_question.ensures in
    let middle = c.put_bytes.ensures in
    let end = c.put_bytes-2.ensures in
    let part = answers_part s.proof.now s.answers c.requires.0 in
    c.draw.ensures
    ∙ ap (λ (x : Bytes). draw x (length s.out.now))
    (string_put s.proof.now s.answers c.requires.0 s.question.now _ s.string.now _ _ _ c.requires.1 part front middle end)
