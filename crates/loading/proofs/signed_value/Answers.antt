-- `loading::signed_value` meets its contract.
use Rattle.loading.proofs.Signs.{value_inside, value_outside}
use native.Mathlib.Omega.{arith}
use Rattle.loading.proofs.signed_value.Goals as goal

pub returns-then-k-width : goal.returns-then-k-width
returns-then-k-width c =
    let s = c.args in
    (value_inside s.values.now s.width s.j s.k c.signed.result c.if-k-width.true c.signed.ensures.0, c.signed.ensures.1)

pub returns-else-k-width : goal.returns-else-k-width
returns-else-k-width c =
    let s = c.args in
    (value_outside s.values.now s.width s.j s.k c.if-k-width.false, omega arith)
