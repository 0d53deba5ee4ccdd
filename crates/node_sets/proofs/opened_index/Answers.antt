-- `opened_index` meets its contract.
use Prim.Native.Nat.{ℕ, ◌<◌}
use Rattle.lists.specs.All.{all_at}
use borrow.Author.Rules.{rules}
use Rattle.node_sets.proofs.opened_index.Goals as goal

pub overflow_cast-result : goal.overflow_cast-result
overflow_cast-result c =
    let h = all_at (λ (x : ℕ). x < 65536) 0 c.args.indices.now c.requires.1 c.args.a c.requires.0 in search rules
