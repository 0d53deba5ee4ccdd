use mathlib.Core.Path.{sym, ap, ◌∙◌}
use lib.ListN.{length}
use native.Mathlib.Omega.{arith}
use Rattle.report.specs.Written.{written}
use Rattle.report.proofs.Decimal.{decimal_one, shorter, room_for_last, last_written}
use Rattle.report.proofs.+put_decimal.Goals as goal

pub put_byte-requires : goal.put_byte-requires
put_byte-requires t c = omega (arith, ap length (decimal_one c.args.n c.if-n-lt10.true))

pub returns-then-n-lt10 : goal.returns-then-n-lt10
returns-then-n-lt10 t c =
    let s = c.args in
    c.put_byte.ensures ∙ ap (written s.out.now s.at) (sym (decimal_one s.n c.if-n-lt10.true))

pub put_decimal-next-requires : goal.put_decimal-next-requires
put_decimal-next-requires t c =
    let s = c.args in
    let h = shorter s.n s.at (length s.out.now) c.if-n-lt10.false (omega arith) c.requires in
    (omega arith, omega arith)

pub put_byte-requires-2 : goal.put_byte-requires-2
put_byte-requires-2 t c =
    let s = c.args in
    room_for_last s.out.now s.at s.n c.put_decimal-next.result c.put_decimal-next.new.out c.if-n-lt10.false (omega arith) c.requires c.put_decimal-next.ensures

pub returns : goal.returns
returns t c =
    let s = c.args in
    last_written s.out.now s.at s.n c.put_decimal-next.result c.put_decimal-next.new.out c.if-n-lt10.false (omega arith) c.requires c.put_decimal-next.ensures _ c.put_byte-2.ensures
