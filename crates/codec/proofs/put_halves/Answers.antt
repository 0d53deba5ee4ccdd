use Rattle.lists.specs.Bytes.{little_endian, length-little_endian}
use lib.ListN.{get_or}
use mathlib.Core.Path.{◌∙◌}
use Rattle.lists.specs.Spliced.{up_to_none, up_to_turn, up_to_all}
use borrow.Author.Rules.{rules}
use native.Mathlib.Omega.{arith}
use Rattle.codec.proofs.put_halves.Goals as goal

pub loop-i-init : goal.loop-i-init
loop-i-init c =
    let s = c.args in
    (search rules, up_to_none (little_endian 2) s.numbers.now 2 s.at s.out.now)

pub loop-i-preserved : goal.loop-i-preserved
loop-i-preserved c =
    let s = c.args in
    let loop = c.loop-i in
    let turn = up_to_turn (little_endian 2) s.numbers.now 2 s.at s.out.now (λ k _. length-little_endian 2 (get_or s.numbers.now k 0)) (search rules) loop.i loop.out c.put_half.new.out (omega arith) loop.invariant.1 c.put_half.ensures in
    (turn.1, turn.0)

pub returns : goal.returns
returns c =
    let s = c.args in
    c.loop-i.invariant.1 ∙ up_to_all (little_endian 2) s.numbers.now 2 s.at s.out.now c.loop-i.i (omega arith)
