-- `report::put_split` meets its contract: the two parts are those of the definition, and the values fit into 2,048 words.
use Prim.Native.Nat.{◌*◌, ◌-◌}
use lib.ListN.{take, replicate}
use Rattle.lists.specs.Parts.{front_length}
use Rattle.report.proofs.Split.{few_values, printed-split}
use borrow.Author.Rules.{rules}
use native.Mathlib.Omega.{arith}
use Rattle.report.proofs.put_split.Goals as goal

pub question_end-k-requires : goal.question_end-k-requires
question_end-k-requires c = (few_values c.args.input.now c.args.heading.shape c.args.heading.m c.requires.0).0

pub overflow_mul-n : goal.overflow_mul-n
overflow_mul-n c =
    let h = few_values c.args.input.now c.args.heading.shape c.args.heading.m c.requires.0 in omega arith

pub slice_bounds-values-end : goal.slice_bounds-values-end
slice_bounds-values-end c =
    let h = few_values c.args.input.now c.args.heading.shape c.args.heading.m c.requires.0 in omega arith

pub put_checked-requires : goal.put_checked-requires
put_checked-requires c =
    let h = few_values c.args.input.now c.args.heading.shape c.args.heading.m c.requires.0 in (
      h.0,
      h.1,
      front_length (c.args.heading.shape.w * c.args.heading.m)
          (replicate 2048 0) (omega arith),
      search rules,
    )

pub returns : goal.returns
returns c =
    let s = c.args in
    let h = few_values c.args.input.now c.args.heading.shape c.args.heading.m c.requires.0 in
    printed-split s.out.now s.input.now s.heading.shape s.heading.m c.question_end-k.result
    (take (s.heading.shape.w * s.heading.m - 0) (replicate 2048 0)) _
    c.requires.1 c.requires.0
    c.question_end-k.ensures
    (front_length (s.heading.shape.w * s.heading.m) (replicate 2048 0) (omega arith)) c.put_checked.ensures
