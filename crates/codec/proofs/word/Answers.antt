-- `codec::word` meets its contract.
use mathlib.Core.Path.{ap, ◌∙◌}
use Rattle.lists.specs.Bytes.{from_bytes}
use Rattle.codec.proofs.Library.{word-read}
use borrow.Author.Rules.{rules}
use Rattle.codec.proofs.word.Goals as goal

pub returns : goal.returns
returns c = c.from_le_bytes.ensures ∙ word-read c.bytes_at.result (search rules) ∙ ap from_bytes c.bytes_at.ensures
