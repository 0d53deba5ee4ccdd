-- `question::marked` meets its contract.
use Rattle.lists.specs.Bytes.{little_endian}
use Rattle.question.proofs.marked.Goals as goal

pub returns : goal.returns
unfolding little_endian
returns c = c.same_bytes.ensures
