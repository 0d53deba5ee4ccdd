-- `root_of` meets its contract.
use Rattle.tree_root.proofs.Indices.{index_root}
use Rattle.tree_root.proofs.root_of.Goals as goal

pub root_from-requires : goal.root_from-requires
root_from-requires c =
    let p = c.requires in
    rw c.copy_from_slice.ensures.after (index_root p.1 p.2 c.node_buffer-buf.ensures.0 p.3)
