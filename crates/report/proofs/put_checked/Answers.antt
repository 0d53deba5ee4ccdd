-- `report::put_checked` meets its contract: the text of what the check returned and left.
use mathlib.Core.Path.{ap, ◌∙◌}
use Prim.Native.Nat.{ℕ}
use Rattle.scheme.proofs.Work.{uncounted}
use Rattle.report.proofs.Split.{text-checked}
use Rattle.report.proofs.put_checked.Goals as goal

pub returns : goal.returns
returns c =
    let s = c.args in
    let vs = c.check-checked.new.values in
    text-checked s.out.now s.question.now s.reply.now s.m s.w s.values.now c.number_of.result vs _
    (ap (λ (v : ℕ). (v, vs)) c.number_of.ensures ∙ uncounted s.question.now s.reply.now s.values.now _ _ _ c.check-checked.ensures) c.put_text.ensures
