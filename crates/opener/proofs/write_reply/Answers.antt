-- `opener::write_reply` meets its contract: the answers, and what the indices open after them.
use Rattle.lent.specs.Witnessed.{witnessed}
use Rattle.commitment.specs.Shape.{sizes_in}
use Rattle.opener.proofs.Replying.{can_sum, leaves_ask, reply_are}
use Rattle.opener.proofs.write_reply.Goals as goal

pub put_sums-requires : goal.put_sums-requires
put_sums-requires c =
    let s = c.args in
    let q = s.query.now in
    can_sum q.bytes.now (sizes_in q.shape) q.m (witnessed s.witness.now) s.table.now s.tree.now s.reply.now c.requires.0

pub put_leaves-requires : goal.put_leaves-requires
put_leaves-requires c =
    let s = c.args in
    let q = s.query.now in
    leaves_ask q.bytes.now (sizes_in q.shape) q.m (witnessed s.witness.now) s.table.now s.tree.now s.reply.now
    c.requires.0 s.indices.now c.put_sums.new.reply
    c.requires.1 c.put_sums.auto.reply

pub returns : goal.returns
returns c =
    let s = c.args in
    let q = s.query.now in
    let r = reply_are q.bytes.now (sizes_in q.shape) q.m (witnessed s.witness.now) s.table.now s.tree.now s.reply.now
    c.requires.0 c.put_leaves.result s.indices.now
    c.put_sums.new.reply c.put_leaves.new.reply
    c.requires.1 c.put_sums.ensures
    c.put_leaves.ensures.value c.put_leaves.ensures.reply_after in
    record { value = r.0; reply_after = r.1 }
