-- `words::number` meets its contract.
use mathlib.Core.Path.{◌∙◌}
use Rattle.words.proofs.Eight.{eight_of}
use Rattle.words.proofs.number.Goals as goal

pub returns : goal.returns
returns c = c.from_le_bytes.ensures ∙ eight_of c.args.bytes.now c.copy_from_slice.new.self c.requires c.copy_from_slice.ensures.after
