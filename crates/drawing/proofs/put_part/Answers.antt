use mathlib.Core.Path.{ap, ◌∙◌}
use mathlib.Core.List.{List}
use Prim.Native.Nat.{ℕ, ◌+◌}
use lib.ListN.{get_or, set, length-set}
use Rattle.lists.specs.Spliced.{spliced_none, copy_next, copy_done}
use borrow.Author.Rules.{rules}
use native.Mathlib.Omega.{arith}
use Rattle.drawing.proofs.put_part.Goals as goal

pub loop-i-init : goal.loop-i-init
loop-i-init c = (search rules, search rules, search rules, spliced_none c.args.at c.args.out.now)

pub loop-i-preserved : goal.loop-i-preserved
loop-i-preserved c =
    let s = c.args in
    let i = c.loop-i.i in
    let v = c.loop-i.invariant in (
      search rules,
      search rules,
      length-set c.loop-i.out (s.at + i) (get_or s.bytes.now i 0) ∙ v.2,
      ap (λ (l : List ℕ). set l (s.at + i) (get_or s.bytes.now i 0)) v.3 ∙ copy_next s.at i s.bytes.now s.out.now (omega arith) (search rules),
    )

pub returns : goal.returns
returns c =
    c.loop-i.invariant.3 ∙ copy_done c.args.at c.loop-i.i c.args.bytes.now c.args.out.now (omega arith)
