use mathlib.Core.Path.{refl, ap, ◌∙◌}
use mathlib.Core.List.{List, flatten}
use Prim.Native.Nat.{ℕ, ◌+◌, ◌*◌}
use lib.ListN.{get_or}
use Rattle.lists.specs.Bytes.{little_endian}
use Rattle.lists.specs.Spliced.{spliced, spliced_none, words_next, words_done}
use borrow.Author.Rules.{rules}
use native.Mathlib.Omega.{arith}
use Rattle.codec.proofs.put_words.Goals as goal

pub loop-i-init : goal.loop-i-init
unfolding flatten
loop-i-init c = (refl, spliced_none c.args.at c.args.out.now)

pub loop-i-preserved : goal.loop-i-preserved
loop-i-preserved c =
    let s = c.args in
    let i = c.loop-i.i in
    let v = c.loop-i.invariant in (
      search rules,
      c.put_word.ensures ∙ ap (λ (l : List ℕ). spliced (s.at + 4 * i) 4 (little_endian 4 (get_or s.words.now i 0)) l) v.1 ∙ words_next s.at i s.words.now s.out.now (omega arith) (search rules),
    )

pub returns : goal.returns
returns c =
    c.loop-i.invariant.1 ∙ words_done c.args.at c.loop-i.i c.args.words.now c.args.out.now (omega arith)
