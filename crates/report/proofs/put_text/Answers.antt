-- `report::put_text` meets its contract: after verdict 0 the lines stand behind the first one.
use mathlib.Core.List.{[]}
use Rattle.scheme.specs.Program.{value_lines}
use Rattle.report.proofs.Text.{lines_room, accepted-text, refused-text}
use Rattle.report.proofs.put_text.Goals as goal

pub put_values-requires : goal.put_values-requires
put_values-requires c =
    let s = c.args in
    let p = c.requires in
    let w = c.put_verdict-at in
    (p.0, p.1, p.2, lines_room s.out.now s.verdict [] p.3 w.result w.new.out w.ensures s.m s.w p.0 p.1)

pub returns-then-verdict-eq0 : goal.returns-then-verdict-eq0
returns-then-verdict-eq0 c =
    let s = c.args in
    let w = c.put_verdict-at in
    accepted-text s.out.now s.verdict (value_lines s.m s.w s.values.now) c.requires.3 w.result w.new.out w.ensures
    c.if-verdict-eq0.true _ c.put_values.ensures

pub returns : goal.returns
returns c =
    let s = c.args in
    let w = c.put_verdict-at in
    refused-text s.out.now s.verdict (value_lines s.m s.w s.values.now) c.requires.3 w.result w.new.out w.ensures c.if-verdict-eq0.false
