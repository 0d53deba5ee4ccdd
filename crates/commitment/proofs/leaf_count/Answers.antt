-- `commitment::leaf_count` meets its contract.
use mathlib.Core.Path.{◌∙◌}
use native.Mathlib.Nat.{one-mul}
use lib.Pow.{shl_exact}
use native.Mathlib.Omega.{arith}
use Rattle.commitment.proofs.leaf_count.Goals as goal

pub returns : goal.returns
returns c = shl_exact 1 c.args.h 64 (omega arith) (omega arith) ∙ one-mul _
