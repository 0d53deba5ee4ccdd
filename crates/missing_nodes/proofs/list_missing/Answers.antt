-- `list_missing` meets its contract.
use Rattle.missing_nodes.proofs.Indices.{index_list}
use Rattle.missing_nodes.proofs.list_missing.Goals as goal

pub list_nodes-requires : goal.list_nodes-requires
list_nodes-requires c =
    let p = c.requires in
    rw c.copy_from_slice.ensures.after (index_list p.0 p.1 p.2 p.3)
