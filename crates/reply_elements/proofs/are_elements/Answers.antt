-- `reply_elements::are_elements` meets its contract.
use Rattle.reply_elements.proofs.Tested.{record_tested}
use Rattle.reply_elements.proofs.are_elements.Goals as goal

pub returns : goal.returns
returns c =
    let s = c.args in
    let o = s.records.now in
    record_tested o.at o.size s.n o.reply.now s.a c.record.result.now c.elements_in.result c.record.ensures c.elements_in.ensures
