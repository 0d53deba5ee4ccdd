-- `next_is` meets its contract.
use mathlib.Core.Path.{sym, ◌∙◌}
use Prim.Native.Nat.{◌≤◌}
use native.Mathlib.Omega.{arith}
use lib.ListN.{length}
use Rattle.std.proofs.lemmas.Bool.{le-ltb}
use Rattle.tree.proofs.Children.{heads_at, heads_none}
use Rattle.node_sets.proofs.next_is.Goals as goal

pub returns-then-a-set : goal.returns-then-a-set
returns-then-a-set c = sym (heads_at c.args.set.now c.args.a c.args.c (omega arith))

pub returns-else-a-set : goal.returns-else-a-set
returns-else-a-set c =
    let behind : length c.args.set.now ≤ c.args.a = omega arith in
    le-ltb c.args.a (length c.args.set.now) behind ∙ sym (heads_none c.args.set.now c.args.a c.args.c behind)
