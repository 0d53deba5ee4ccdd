use mathlib.Core.Path.{refl}
use Rattle.algebra.specs.Table.{inverse_factorials}
use Rattle.field.proofs.inverse_factorials.Goals as goal

pub returns : goal.returns
unfolding inverse_factorials
returns c = refl
