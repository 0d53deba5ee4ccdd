use mathlib.Core.Path.{◌≡◌, ap, ◌∙◌}
use Prim.Native.Nat.{ℕ}
use native.Mathlib.Omega.{arith}
use borrow.Author.Rules.{rules}
use Rattle.report.specs.Written.{written, point_lines}
use Rattle.report.proofs.Writing.{written_none}
use Rattle.report.proofs.Lines.{point_none, point_room, point_turn}
use Rattle.report.proofs.put_point.Goals as goal

pub loop-i-init : goal.loop-i-init
loop-i-init c = (
  search rules,
  written_none c.args.out.now c.args.at ∙ ap (written c.args.out.now c.args.at)
      (point_none c.args.p c.args.w c.args.values.now),
  search rules,
)

pub put_line-next-requires : goal.put_line-next-requires
put_line-next-requires c =
    let s = c.args in
    let l = c.loop-i in
    let h = point_room s.out.now s.at s.p s.w s.values.now l.i l.next l.out (omega arith) (omega arith) c.requires.3 l.invariant.1 in
    (omega arith, omega arith, h)

pub loop-i-preserved : goal.loop-i-preserved
loop-i-preserved c =
    let s = c.args in
    let l = c.loop-i in (
      omega arith,
      point_turn s.out.now s.at s.p s.w s.values.now l.i l.next l.out (omega arith) (omega arith) c.requires.3
          l.invariant.1 _ c.put_line-next.ensures,
      c.put_line-next.auto.out ∙ l.invariant.2,
    )

pub returns : goal.returns
returns c =
    let s = c.args in
    let l = c.loop-i in
    let e : l.i ≡ s.w = omega arith in
    l.invariant.1 ∙ ap (λ (n : ℕ). written s.out.now s.at (point_lines s.p s.w s.values.now n)) e
