-- `reply_elements::record_elements` meets its contract.
use mathlib.Core.Path.{refl, ◌∙◌}
use Rattle.std.proofs.Common.{rules, tests, arith}
use Rattle.std.proofs.lemmas.Iterator.{serves_from_Range, YieldsList-from_range}
use Rattle.std.proofs.lemmas.Iterator.Search.{all_from_yields_List}
use Rattle.lists.specs.Parts.{row_fits}
use Rattle.reply_elements.specs.Elements.{record_elements_at}
use Rattle.reply_elements.proofs.Tested.{range_each}
use Rattle.reply_elements.proofs.record_elements.Goals as goal

pub all-requires-clause-callable : goal.all-requires-clause-callable
all-requires-clause-callable c =
    serves_from_Range (λ x q k. search (rules, tests))
    (λ x low high. let h = row_fits c.args.size x c.args.count high in λ lifetimes pointer name same range fits more. (omega arith, c.requires.1))

pub returns : goal.returns
returns c =
    let s = c.args in
    all_from_yields_List (record_elements_at s.at s.size s.n s.reply.now) _ _ c.all.result c.all.ensures.ran (YieldsList-from_range 0 s.count s.count refl (omega arith)) (λ x b q k. search (rules, tests))
    ∙ range_each (record_elements_at s.at s.size s.n s.reply.now) s.count
