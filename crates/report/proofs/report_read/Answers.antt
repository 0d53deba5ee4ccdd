-- `report::report_read` meets its contract: the bytes that were read are the buffer's front.
use Rattle.std.proofs.Common.{take}
use Rattle.report.proofs.report_read.Goals as goal

pub returns-clause-text : goal.returns-clause-text
returns-clause-text g c = (take c.read_full-n.result c.read_full-n.new.buffer, c.read_full-n.ensures.bytes, c.report.ensures)
