-- `opened::LeafRecords::read_values` meets its contract.
use Rattle.opened.proofs.Records.{values_read}
use Rattle.opened.proofs.LeafRecords.read_values.Goals as goal

pub returns : goal.returns
returns c =
    let s = c.args in
    let o = s.self.now in
    values_read o.at o.size o.reply.now s.values.now s.a c.record.result.now c.read_words.new.out c.record.ensures c.read_words.ensures
