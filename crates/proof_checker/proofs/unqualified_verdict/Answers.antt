-- `proof_checker::unqualified_verdict` meets its contract.
use mathlib.Core.Path.{sym, ◌∙◌}
use Rattle.commitment.specs.Shape.{sizes_in}
use Rattle.proof_checker.proofs.Verdicts.{say_7, say_3, say_12}
use Rattle.proof_checker.proofs.unqualified_verdict.Goals as goal

pub returns-then-reply-length_for : goal.returns-then-reply-length_for
returns-then-reply-length_for c =
    let length-for = c.length_for in
    let s = c.args in
    say_7 (sizes_in s.s) s.m s.indices.now s.reply.now length-for.result length-for.ensures c.if-reply-length_for.true

pub returns-then-not-reply_elements : goal.returns-then-not-reply_elements
returns-then-not-reply_elements c =
    let length-for = c.length_for in
    let reply-elements = c.reply_elements in
    let s = c.args in
    say_3 (sizes_in s.s) s.m s.indices.now s.reply.now length-for.result length-for.ensures c.if-reply-length_for.false (sym reply-elements.ensures ∙ c.if-not-reply_elements.true)

pub returns : goal.returns
returns c =
    let length-for = c.length_for in
    let reply-elements = c.reply_elements in
    let s = c.args in
    say_12 (sizes_in s.s) s.m s.indices.now s.reply.now length-for.result length-for.ensures c.if-reply-length_for.false (sym reply-elements.ensures ∙ c.if-not-reply_elements.false)
