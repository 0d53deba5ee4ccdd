use mathlib.Core.Path.{◌≡◌, ◌∙◌, ap, subst}
use mathlib.Core.List.{List}
use Prim.Native.Nat.{ℕ}
use lib.ListN.{length, length-set}
use Rattle.lists.specs.Fill.{Filled, filled_none, filled_is, fill_next}
use Rattle.algebra.specs.Inverses.{before_n, before_none, before_turn}
use native.Mathlib.Omega.{arith}
use Rattle.divided_differences.proofs.products_before.Goals as goal

pub loop-i-init : goal.loop-i-init
loop-i-init c =
    let s : List ℕ = c.args.s.now in
    (omega arith, before_none s, filled_none (before_n s) c.args.room.now 0 0 (omega arith))

pub loop-i-preserved : goal.loop-i-preserved
loop-i-preserved c =
    let multiply = c.multiply-p in
    let loop = c.loop-i in
    let s : List ℕ = c.args.s.now in (
      simp length-set loop.invariant.0,
      before_turn s loop.i loop.p.0 multiply.result.0 loop.invariant.1 multiply.ensures,
      fill_next (before_n s) loop.room 0 loop.i loop.p.0 (omega arith) loop.invariant.1 loop.invariant.2,
    )

pub returns : goal.returns
returns c =
    let loop = c.loop-i in
    let s : List ℕ = c.args.s.now in
    let e : loop.i ≡ length s = omega arith in (
      loop.invariant.1 ∙ ap (before_n s) e,
      filled_is (before_n s) loop.room (length s) loop.invariant.0 (subst (λ (k : ℕ). Filled (before_n s) loop.room 0 k) e loop.invariant.2),
    )
