-- `count_missing` meets its contract.
use Rattle.missing_nodes.proofs.Indices.{index_count}
use Rattle.missing_nodes.proofs.count_missing.Goals as goal

pub count_nodes-requires : goal.count_nodes-requires
count_nodes-requires c = index_count c.requires
