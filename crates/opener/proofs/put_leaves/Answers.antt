-- `opener::put_leaves` meets its contract: the records, and the nodes after them.
use mathlib.Core.Path.{ap₂}
use Prim.Native.Nat.{ℕ, ◌+◌, ◌*◌, ◌≤◌}
use Rattle.tree.specs.Tree.{all_parts, opened}
use mathlib.Core.List.{flatten}
use Rattle.commitment.specs.Shape.{sizes_in}
use Rattle.opener.proofs.Leaves.{records_ask, nodes_ask, leaves_are, reply_fits}
use borrow.Author.Rules.{rules}
use Rattle.opener.proofs.put_leaves.Goals as goal

pub records_at-records-requires : goal.records_at-records-requires
records_at-records-requires c = (c.requires.sizes, c.requires.points)

pub put_records-requires : goal.put_records-requires
put_records-requires c =
    let s = c.args in
    records_ask (sizes_in s.s) s.m s.table.now s.nonces.now s.indices.now s.tree.now s.reply.now c.requires c.records_at-records.result
    c.records_at-records.ensures

pub nodes_at-nodes-requires : goal.nodes_at-nodes-requires
nodes_at-nodes-requires c = (c.requires.sizes, c.requires.points)

pub list_missing-count-requires : goal.list_missing-count-requires
list_missing-count-requires c =
    let s = c.args in
    nodes_ask (sizes_in s.s) s.m s.table.now s.nonces.now s.indices.now s.tree.now s.reply.now
    c.requires c.nodes_at-nodes.result c.leaf_count.result
    c.put_records.new.out c.nodes_at-nodes.ensures c.leaf_count.ensures
    c.put_records.auto.out

pub overflow_mul-result : goal.overflow_mul-result
overflow_mul-result c =
    let s = c.args in
    let h : c.nodes_at-nodes.result + 32 * c.list_missing-count.result ≤ 65536 =
    reply_fits (sizes_in s.s) s.m s.table.now s.nonces.now s.indices.now s.tree.now s.reply.now
    c.requires c.nodes_at-nodes.result
    c.list_missing-count.result c.nodes_at-nodes.ensures c.list_missing-count.ensures.value in
    search rules

pub overflow_add-result : goal.overflow_add-result
overflow_add-result c =
    let s = c.args in
    let h : c.nodes_at-nodes.result + 32 * c.list_missing-count.result ≤ 65536 =
    reply_fits (sizes_in s.s) s.m s.table.now s.nonces.now s.indices.now s.tree.now s.reply.now
    c.requires c.nodes_at-nodes.result
    c.list_missing-count.result c.nodes_at-nodes.ensures c.list_missing-count.ensures.value in
    search rules

pub returns : goal.returns
returns c =
    let s = c.args in record {
      value = ap₂ (λ (n c : ℕ). n + 32 * c) c.nodes_at-nodes.ensures c.list_missing-count.ensures.value;
      reply_after = leaves_are (sizes_in s.s) s.m s.table.now s.nonces.now s.indices.now s.tree.now s.reply.now
          c.requires
          c.records_at-records.result c.nodes_at-nodes.result c.list_missing-count.result
          (flatten (opened 2 s.s.h (all_parts s.tree.now) s.indices.now))
          c.put_records.new.out c.list_missing-count.new.out
          c.records_at-records.ensures c.nodes_at-nodes.ensures
          c.list_missing-count.ensures.value c.put_records.ensures c.list_missing-count.ensures.out_after;
    }
