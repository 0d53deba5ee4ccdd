-- `fill_tree` meets its contract.
use mathlib.Core.Path.{ap, ◌∙◌}
use mathlib.Core.List.{flatten}
use Rattle.sponge.specs.Digest.{digest}
use Rattle.lists.specs.Bytes.{Bytes}
use Rattle.tree.specs.Tree.{parts, tree}
use native.Mathlib.Omega.{arith}
use Rattle.tree_fill.proofs.fill_tree.Goals as goal

pub fill_levels-requires : goal.fill_levels-requires
fill_levels-requires c =
    record { arity = omega arith; leaves = c.requires.1; whole = c.requires.2; room = omega (arith, c.node_buffer-buf.ensures.0) }

pub returns : goal.returns
returns c =
    let a = c.args in
    c.fill_levels.ensures ∙ ap (λ (pre : Bytes). flatten (tree digest 2 pre a.h (parts a.n a.tree.now))) c.node_buffer-buf.ensures.1
