-- `keccak_round::theta_effect` meets its contract.
use mathlib.Core.Path.{refl, ap, ◌∙◌}
use lib.Bits.{bit_xor}
use lib.ListN.{get_or}
use Rattle.keccak.proofs.Literal.{cons}
use Rattle.keccak.proofs.Carried.{effects_are}
use Rattle.keccak_round.proofs.theta_effect.Goals as goal

pub returns : goal.returns
returns c =
    let a = c.args.a in
    (cons (ap (bit_xor (get_or a 29 0)) c.rotate.ensures)
    (cons (ap (bit_xor (get_or a 25 0)) c.rotate-2.ensures)
    (cons (ap (bit_xor (get_or a 26 0)) c.rotate-3.ensures)
    (cons (ap (bit_xor (get_or a 27 0)) c.rotate-4.ensures)
    (cons (ap (bit_xor (get_or a 28 0)) c.rotate-5.ensures)
    refl)))))
    ∙ effects_are a c.requires
