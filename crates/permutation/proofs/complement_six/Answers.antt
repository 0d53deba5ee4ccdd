-- `permutation::complement_six` meets its contract.
use mathlib.Core.Path.{refl, sym}
use lib.Bits.{xor_zero_r}
use lib.ListN.{get_or}
use Rattle.keccak.proofs.Literal.{cons}
use Rattle.permutation.proofs.complement_six.Goals as goal

pub returns : goal.returns
returns c =
    let a = c.args.a in
    (cons (sym (xor_zero_r (get_or a 0 0)))
    (cons refl
    (cons refl
    (cons (sym (xor_zero_r (get_or a 3 0)))
    (cons (sym (xor_zero_r (get_or a 4 0)))
    (cons (sym (xor_zero_r (get_or a 5 0)))
    (cons (sym (xor_zero_r (get_or a 6 0)))
    (cons (sym (xor_zero_r (get_or a 7 0)))
    (cons refl
    (cons (sym (xor_zero_r (get_or a 9 0)))
    (cons (sym (xor_zero_r (get_or a 10 0)))
    (cons (sym (xor_zero_r (get_or a 11 0)))
    (cons refl
    (cons (sym (xor_zero_r (get_or a 13 0)))
    (cons (sym (xor_zero_r (get_or a 14 0)))
    (cons (sym (xor_zero_r (get_or a 15 0)))
    (cons (sym (xor_zero_r (get_or a 16 0)))
    (cons refl
    (cons (sym (xor_zero_r (get_or a 18 0)))
    (cons (sym (xor_zero_r (get_or a 19 0)))
    (cons refl
    (cons (sym (xor_zero_r (get_or a 21 0)))
    (cons (sym (xor_zero_r (get_or a 22 0)))
    (cons (sym (xor_zero_r (get_or a 23 0)))
    (cons (sym (xor_zero_r (get_or a 24 0)))
    refl)))))))))))))))))))))))))
