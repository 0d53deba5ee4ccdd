-- `question::header_shape` meets its contract.

use Rattle.question.proofs.header_shape.Goals as goal

pub returns : goal.returns
returns c = cc
