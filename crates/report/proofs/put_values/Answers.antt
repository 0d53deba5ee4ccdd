use mathlib.Core.Path.{◌≡◌, ap, ◌∙◌}
use Prim.Native.Nat.{ℕ}
use native.Mathlib.Omega.{arith}
use borrow.Author.Rules.{rules}
use Rattle.scheme.specs.Program.{value_lines}
use Rattle.report.specs.Written.{written}
use Rattle.report.proofs.Writing.{written_none}
use Rattle.report.proofs.Lines.{values_none, values_fit, values_room, values_turn}
use Rattle.report.proofs.put_values.Goals as goal

pub loop-p-init : goal.loop-p-init
loop-p-init c =
    let s = c.args in
    (search rules, written_none s.out.now s.at ∙ ap (written s.out.now s.at) (values_none s.w s.values.now), search rules)

pub put_point-next-requires : goal.put_point-next-requires
put_point-next-requires c =
    let s = c.args in
    let l = c.loop-p in
    let h = values_room s.out.now s.at s.m s.w s.values.now l.p l.next l.out c.requires.0 (omega arith) c.requires.3 l.invariant.1 in
    (omega arith, search rules, omega (arith, values_fit s.w l.p s.m (omega arith)), h)

pub loop-p-preserved : goal.loop-p-preserved
loop-p-preserved c =
    let s = c.args in
    let l = c.loop-p in (
      omega arith,
      values_turn s.out.now s.at s.m s.w s.values.now l.p l.next l.out c.requires.0 (omega arith)
          c.requires.3 l.invariant.1 _ c.put_point-next.ensures,
      c.put_point-next.auto.out ∙ l.invariant.2,
    )

pub returns : goal.returns
returns c =
    let s = c.args in
    let l = c.loop-p in
    let e : l.p ≡ s.m = omega arith in
    l.invariant.1 ∙ ap (λ (n : ℕ). written s.out.now s.at (value_lines n s.w s.values.now)) e
