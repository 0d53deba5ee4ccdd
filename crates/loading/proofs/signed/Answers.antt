-- `loading::signed` meets its contract.
use Prim.Native.Nat.{◌<◌}
use borrow.Author.Rules.{rules}
use native.Mathlib.Omega.{arith}
use Rattle.loading.proofs.Signs.{signed_even, signed_odd}
use Rattle.loading.proofs.signed.Goals as goal

pub returns-then-k-eq0 : goal.returns-then-k-eq0
returns-then-k-eq0 c =
    let l : c.args.v < 4294967296 = search rules in
    rw c.from-value.ensures (signed_even c.args.v c.args.k (omega (arith, c.if-k-eq0.true)), omega arith)

pub returns-else-k-eq0 : goal.returns-else-k-eq0
returns-else-k-eq0 c =
    let l : c.args.v < 4294967296 = search rules in
    rw c.from-value.ensures (signed_odd c.args.v c.args.k l (λ e. c.if-k-eq0.false e), omega arith)
