-- `codec::half` meets its contract.
use mathlib.Core.Path.{ap, ◌∙◌}
use Rattle.lists.specs.Bytes.{from_bytes}
use Rattle.codec.proofs.Library.{half-read}
use borrow.Author.Rules.{rules}
use native.Mathlib.Omega.{arith}
use Rattle.codec.proofs.half.Goals as goal

pub returns : goal.returns
returns c =
    let read = c.from_le_bytes in
    (c.from.ensures ∙ read.ensures ∙ half-read c.bytes_at.result (search rules) ∙ ap from_bytes c.bytes_at.ensures, omega (arith, c.from.ensures, read.type_inv))
