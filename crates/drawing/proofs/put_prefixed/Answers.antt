-- `drawing::put_prefixed` meets its contract.
use Rattle.drawing.proofs.Parts.{prefixed}
use mathlib.Core.Path.{◌∙◌}
use lib.ListN.{length-set}
use native.Mathlib.Omega.{arith}
use Rattle.drawing.proofs.put_prefixed.Goals as goal

pub put_bytes-requires : goal.put_bytes-requires
put_bytes-requires c = simp length-set (omega arith)

pub shape_of-out : goal.shape_of-out
shape_of-out c =
    c.put_bytes.auto.out ∙ length-set c.args.out.now 0 c.args.prefix

pub returns : goal.returns
returns c =
    c.put_bytes.ensures ∙ prefixed c.args.prefix c.args.string.now
    c.args.out.now (omega arith)
