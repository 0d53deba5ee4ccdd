-- `committer::fill` meets its contract: the table, and the tree from it.
use mathlib.Core.List.{List}
use Prim.Native.Nat.{ℕ}
use Rattle.scheme.proofs.Accepted.{sizes_in_order}
use Rattle.commitment.specs.Shape.{sizes_in}
use Rattle.lent.specs.Witnessed.{witnessed}
use Rattle.committer.proofs.Filled.{evaluable, salt_right, hashable, first_length, tree_is}
use Rattle.committer.proofs.fill.Goals as goal

pub fill_table-requires : goal.fill_table-requires
fill_table-requires c =
    let a = c.args in
    evaluable (sizes_in a.s) (witnessed a.witness.now) a.table.now a.tree.now c.requires

pub hash_leaves-requires : goal.hash_leaves-requires
hash_leaves-requires c =
    let a = c.args in
    let t : List ℕ = c.fill_table.new.table in
    let e = c.fill_table.ensures in
    hashable (sizes_in a.s) (witnessed a.witness.now) a.table.now a.tree.now
    c.requires t e

pub leaf_count-requires : goal.leaf_count-requires
leaf_count-requires c =
    (sizes_in_order (sizes_in c.args.s)
    c.requires.right.sizes).h_high

pub fill_tree-requires : goal.fill_tree-requires
fill_tree-requires c =
    let a = c.args in
    let t : List ℕ = c.fill_table.new.table in
    let e = c.fill_table.ensures in (
      salt_right (sizes_in a.s) (witnessed a.witness.now) a.table.now a.tree.now c.requires,
      c.leaf_count.ensures,
      first_length (sizes_in a.s) (witnessed a.witness.now) a.table.now a.tree.now
          c.requires t
          c.hash_leaves.new.tree e c.hash_leaves.ensures,
    )

pub returns : goal.returns
returns c =
    let a = c.args in
    let t : List ℕ = c.fill_table.new.table in
    let e = c.fill_table.ensures in record {
      table_after = e;
      tree_after = tree_is (sizes_in a.s) (witnessed a.witness.now) a.table.now a.tree.now
          c.requires t
          c.hash_leaves.new.tree e c.hash_leaves.ensures
          c.leaf_count.result c.fill_tree.new.tree c.leaf_count.ensures c.fill_tree.ensures;
    }
