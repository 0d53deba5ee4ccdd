use mathlib.Core.List.{List}
use Prim.Native.Nat.{ℕ, ◌+◌, ◌*◌, ◌≤◌}
use lib.ListN.{length}
use Rattle.lists.specs.Parts.{row_fits}
use Rattle.lists.specs.Rows.{rows_start, row_turn, part_length}
use Rattle.opened.specs.Powers.{powers_at}
use Rattle.opened.proofs.Powers.{length-powers_at, powers_is}
use native.Mathlib.Omega.{arith}
use Rattle.opened.proofs.fill_powers.Goals as goal

pub loop-a-init : goal.loop-a-init
loop-a-init c =
    let s = c.args in
    rows_start s.n (powers_at s.n s.xs.now) s.table.now

pub loop-a-preserved : goal.loop-a-preserved
loop-a-preserved c =
    let s = c.args in
    let n : ℕ = s.n in
    let a : ℕ = c.loop-a.a in
    let t : List ℕ = c.loop-a.table in
    let r : List ℕ = c.powers.new.out in
    let b : n * a + n ≤ length t = omega (arith, row_fits n a (length s.xs.now) c.loop-a-test.true) in
    row_turn n (powers_at n s.xs.now) (length-powers_at n s.xs.now) s.table.now t r a c.loop-a.invariant (powers_is n _ s.xs.now a r (part_length n a t b) c.powers.ensures)
