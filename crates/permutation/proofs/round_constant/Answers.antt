-- `permutation::round_constant` meets its contract: each number is that of the register, which antt computes and compares.
use mathlib.Core.Path.{◌≡◌, sym, ap}
use native.Mathlib.Omega.{arith}
use Rattle.keccak.specs.Keccak as K
use Rattle.permutation.proofs.round_constant.Goals as goal

pub returns-in-0 : goal.returns-in-0
unfolding K.constant K.constant_from K.rc K.register K.next_register K.feedback
returns-in-0 c = ap K.constant (sym c.in-0.is)

pub returns-in-1 : goal.returns-in-1
unfolding K.constant K.constant_from K.rc K.register K.next_register K.feedback
returns-in-1 c = ap K.constant (sym c.in-1.is)

pub returns-in-2 : goal.returns-in-2
unfolding K.constant K.constant_from K.rc K.register K.next_register K.feedback
returns-in-2 c = ap K.constant (sym c.in-2.is)

pub returns-in-3 : goal.returns-in-3
unfolding K.constant K.constant_from K.rc K.register K.next_register K.feedback
returns-in-3 c = ap K.constant (sym c.in-3.is)

pub returns-in-4 : goal.returns-in-4
unfolding K.constant K.constant_from K.rc K.register K.next_register K.feedback
returns-in-4 c = ap K.constant (sym c.in-4.is)

pub returns-in-5 : goal.returns-in-5
unfolding K.constant K.constant_from K.rc K.register K.next_register K.feedback
returns-in-5 c = ap K.constant (sym c.in-5.is)

pub returns-in-6 : goal.returns-in-6
unfolding K.constant K.constant_from K.rc K.register K.next_register K.feedback
returns-in-6 c = ap K.constant (sym c.in-6.is)

pub returns-in-7 : goal.returns-in-7
unfolding K.constant K.constant_from K.rc K.register K.next_register K.feedback
returns-in-7 c = ap K.constant (sym c.in-7.is)

pub returns-in-8 : goal.returns-in-8
unfolding K.constant K.constant_from K.rc K.register K.next_register K.feedback
returns-in-8 c = ap K.constant (sym c.in-8.is)

pub returns-in-9 : goal.returns-in-9
unfolding K.constant K.constant_from K.rc K.register K.next_register K.feedback
returns-in-9 c = ap K.constant (sym c.in-9.is)

pub returns-in-10 : goal.returns-in-10
unfolding K.constant K.constant_from K.rc K.register K.next_register K.feedback
returns-in-10 c = ap K.constant (sym c.in-10.is)

pub returns-in-11 : goal.returns-in-11
unfolding K.constant K.constant_from K.rc K.register K.next_register K.feedback
returns-in-11 c = ap K.constant (sym c.in-11.is)

pub returns-in-12 : goal.returns-in-12
unfolding K.constant K.constant_from K.rc K.register K.next_register K.feedback
returns-in-12 c = ap K.constant (sym c.in-12.is)

pub returns-in-13 : goal.returns-in-13
unfolding K.constant K.constant_from K.rc K.register K.next_register K.feedback
returns-in-13 c = ap K.constant (sym c.in-13.is)

pub returns-in-14 : goal.returns-in-14
unfolding K.constant K.constant_from K.rc K.register K.next_register K.feedback
returns-in-14 c = ap K.constant (sym c.in-14.is)

pub returns-in-15 : goal.returns-in-15
unfolding K.constant K.constant_from K.rc K.register K.next_register K.feedback
returns-in-15 c = ap K.constant (sym c.in-15.is)

pub returns-in-16 : goal.returns-in-16
unfolding K.constant K.constant_from K.rc K.register K.next_register K.feedback
returns-in-16 c = ap K.constant (sym c.in-16.is)

pub returns-in-17 : goal.returns-in-17
unfolding K.constant K.constant_from K.rc K.register K.next_register K.feedback
returns-in-17 c = ap K.constant (sym c.in-17.is)

pub returns-in-18 : goal.returns-in-18
unfolding K.constant K.constant_from K.rc K.register K.next_register K.feedback
returns-in-18 c = ap K.constant (sym c.in-18.is)

pub returns-in-19 : goal.returns-in-19
unfolding K.constant K.constant_from K.rc K.register K.next_register K.feedback
returns-in-19 c = ap K.constant (sym c.in-19.is)

pub returns-in-20 : goal.returns-in-20
unfolding K.constant K.constant_from K.rc K.register K.next_register K.feedback
returns-in-20 c = ap K.constant (sym c.in-20.is)

pub returns-in-21 : goal.returns-in-21
unfolding K.constant K.constant_from K.rc K.register K.next_register K.feedback
returns-in-21 c = ap K.constant (sym c.in-21.is)

pub returns-in-22 : goal.returns-in-22
unfolding K.constant K.constant_from K.rc K.register K.next_register K.feedback
returns-in-22 c = ap K.constant (sym c.in-22.is)

-- the last is not tested for
pub returns-in_default : goal.returns-in_default
unfolding K.constant K.constant_from K.rc K.register K.next_register K.feedback
returns-in_default c = let e : c.args.i ≡ 23 = omega arith in ap K.constant (sym e)
