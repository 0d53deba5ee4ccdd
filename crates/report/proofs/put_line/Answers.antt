-- `report::put_line` meets its contract: three numbers and three separators, each in what the one before left of the room.
use native.Mathlib.Omega.{arith}
use Prim.Native.Nat.{◌+◌}
use Rattle.report.proofs.Decimal.{decimal_few, decimal_fits}
use Rattle.report.proofs.Line.{after_point, after_first, after_polynomial, after_second, after_value, whole_line}
use borrow.Author.Rules.{rules}
use Rattle.report.proofs.put_line.Goals as goal

pub put_decimal-point-requires : goal.put_decimal-point-requires
put_decimal-point-requires c = decimal_fits _ _ _ (search rules)

pub put_byte-first-requires : goal.put_byte-first-requires
put_byte-first-requires c =
    let s = c.args in
    let w1 = c.put_decimal-point in
    omega (arith, after_point s.out.now s.at s.p s.i s.v c.requires.0 c.requires.2 w1.result w1.new.out w1.ensures)

pub put_decimal-polynomial-requires : goal.put_decimal-polynomial-requires
put_decimal-polynomial-requires c =
    let s = c.args in
    let w1 = c.put_decimal-point in
    let w2 = c.put_byte-first in
    omega (
      arith,
      after_first s.out.now s.at s.p s.i s.v c.requires.0
          c.requires.2 w1.result w1.new.out w1.ensures w2.result w2.new.out w2.ensures,
      decimal_few (s.i + 1),
    )

pub put_byte-second-requires : goal.put_byte-second-requires
put_byte-second-requires c =
    let s = c.args in
    let w1 = c.put_decimal-point in
    let w2 = c.put_byte-first in
    let w3 = c.put_decimal-polynomial in
    omega (
      arith,
      after_polynomial s.out.now s.at s.p s.i s.v c.requires.0
          c.requires.2 w1.result w1.new.out w1.ensures w2.result w2.new.out w2.ensures w3.result
          w3.new.out w3.ensures,
    )

pub put_decimal-value-requires : goal.put_decimal-value-requires
put_decimal-value-requires c =
    let s = c.args in
    let w1 = c.put_decimal-point in
    let w2 = c.put_byte-first in
    let w3 = c.put_decimal-polynomial in
    let w4 = c.put_byte-second in
    omega (
      arith,
      after_second s.out.now s.at s.p s.i s.v c.requires.0
          c.requires.2 w1.result w1.new.out w1.ensures w2.result w2.new.out
          w2.ensures w3.result w3.new.out w3.ensures w4.result w4.new.out w4.ensures,
      decimal_few s.v,
    )

pub put_byte-requires : goal.put_byte-requires
put_byte-requires c =
    let s = c.args in
    let w1 = c.put_decimal-point in
    let w2 = c.put_byte-first in
    let w3 = c.put_decimal-polynomial in
    let w4 = c.put_byte-second in
    let w5 = c.put_decimal-value in
    omega (
      arith,
      after_value s.out.now s.at s.p s.i s.v c.requires.0
          c.requires.2 w1.result w1.new.out
          w1.ensures w2.result w2.new.out w2.ensures w3.result w3.new.out w3.ensures w4.result w4.new.out w4.ensures w5.result w5.new.out w5.ensures,
    )

pub returns : goal.returns
returns c =
    let s = c.args in
    let w1 = c.put_decimal-point in
    let w2 = c.put_byte-first in
    let w3 = c.put_decimal-polynomial in
    let w4 = c.put_byte-second in
    let w5 = c.put_decimal-value in
    whole_line s.out.now s.at s.p s.i s.v c.requires.0
    c.requires.2 w1.result
    w1.new.out w1.ensures w2.result w2.new.out w2.ensures w3.result w3.new.out w3.ensures w4.result w4.new.out w4.ensures w5.result w5.new.out w5.ensures _ c.put_byte.ensures
