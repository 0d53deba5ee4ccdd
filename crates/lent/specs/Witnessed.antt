-- What the code is lent to read is what the definitions are lent.
use Rattle.scheme.specs.Sizes.{Sizes}
use Rattle.scheme.specs.Layers.{Lent, lent_of}
use Rattle.lent.specs.declared.Witness.{Witness}
use Rattle.lent.specs.Rows.{CanLayOut, CanExtend}

abbrev pub witnessed : Witness → Lent
witnessed w = lent_of w.coefficients.now w.tails.now w.blinds.now w.masks.now w.nonces.now w.salt.now

-- its matrix can be laid out
abbrev pub LaysOut : Sizes → Witness → Type 0
LaysOut s w = CanLayOut s w.coefficients.now w.blinds.now

-- and its rows extended by tails
abbrev pub Extends : Sizes → Witness → Type 0
Extends s w = CanExtend s w.coefficients.now w.tails.now w.blinds.now
