-- `report::report` meets its contract: by the answer of the header's tests.
use mathlib.Core.Path.{ap, ◌∙◌}
use mathlib.Core.List.{[]}
use Prim.Native.Nat.{ℕ}
use Rattle.refusal.specs.Numbers.{number, number_positive}
use Rattle.scheme.specs.Program.{text, printed}
use Rattle.report.specs.Written.{overwritten}
use Rattle.report.proofs.Writing.{written_front}
use Rattle.report.proofs.Split.{printed-number}
use borrow.Author.Rules.{rules}
use Rattle.report.proofs.report.Goals as goal

pub put_split-requires : goal.put_split-requires
put_split-requires c = (c.in-Ok.ensures.header, search rules, search rules)

pub returns-in-Ok : goal.returns-in-Ok
returns-in-Ok c =
    let s = c.args in
    c.put_split.ensures ∙ written_front s.out.now (printed s.input.now)

pub returns-in-Err : goal.returns-in-Err
returns-in-Err c =
    let s = c.args in
    let refusal = c.in-Err.refusal in
    c.put_verdict.ensures
    ∙ written_front s.out.now (text c.number.result [])
    ∙ ap (overwritten s.out.now) (ap (λ (n : ℕ). text n []) c.number.ensures ∙ printed-number s.input.now (number refusal) c.requires.0 (number_positive refusal) c.in-Err.ensures.verdict)
