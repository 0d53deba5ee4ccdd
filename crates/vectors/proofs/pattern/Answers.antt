-- `vectors::pattern` meets its contract.
use Rattle.std.proofs.Common.{◌+◌, ◌*◌, ◌%◌}
use Rattle.lists.specs.Tabulate.{tabulate_is}
use borrow.Author.Rules.{rules}
use Rattle.vectors.proofs.pattern.Goals as goal

pub returns : goal.returns
returns c =
    tabulate_is 408 (λ i. (i % 256 * 7 + 3) % 256) c.from_fn.result
    c.from_fn.ensures.items.long
    (λ k b. let h = c.from_fn.ensures.items.at k 0 b in search rules)
