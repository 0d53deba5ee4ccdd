-- `report::put_verdict` meets its contract: `verdict `, the number, a line end, each in what the one before left of the room.
use native.Mathlib.Omega.{arith}
use Rattle.report.proofs.Decimal.{decimal_few}
use Rattle.report.proofs.Text.{after_head, after_number, whole_first}
use Rattle.report.proofs.put_verdict.Goals as goal

pub put_decimal-number-requires : goal.put_decimal-number-requires
put_decimal-number-requires c =
    let s = c.args in
    omega (
      arith,
      after_head s.out.now s.verdict c.requires c.put_bytes.new.out c.put_bytes.ensures,
      decimal_few
          s.verdict,
    )

pub put_byte-requires : goal.put_byte-requires
put_byte-requires c =
    let s = c.args in
    omega (
      arith,
      after_number s.out.now s.verdict c.requires
          c.put_bytes.new.out c.put_bytes.ensures c.put_decimal-number.result
          c.put_decimal-number.new.out c.put_decimal-number.ensures,
    )

pub returns : goal.returns
returns c =
    let s = c.args in
    whole_first s.out.now s.verdict c.requires
    c.put_bytes.new.out c.put_bytes.ensures
    c.put_decimal-number.result c.put_decimal-number.new.out c.put_decimal-number.ensures _
    c.put_byte.ensures
