use mathlib.Core.Path.{◌≡◌, refl, subst}
use mathlib.Core.List.{List}
use Prim.Native.Nat.{ℕ}
use lib.ListN.{length, length-set}
use Rattle.lists.specs.Fill.{Filled, entry_of, filled_none, filled_copy, fill_next}
use native.Mathlib.Omega.{arith}
use Rattle.interpolation.proofs.copy.Goals as goal

pub loop-i-init : goal.loop-i-init
loop-i-init c =
    (omega arith, filled_none (entry_of c.args.from.now) c.args.to.now 0 0 (omega arith))

pub loop-i-preserved : goal.loop-i-preserved
loop-i-preserved c =
    let loop = c.loop-i in
    let from : List ℕ = c.args.from.now in
    (simp length-set loop.invariant.0, fill_next (entry_of from) loop.to 0 loop.i _ (omega arith) refl loop.invariant.1)

pub returns : goal.returns
returns c =
    let loop = c.loop-i in
    let from : List ℕ = c.args.from.now in
    let e : loop.i ≡ length from = omega arith in
    filled_copy from loop.to (length from) refl loop.invariant.0 (subst (λ (k : ℕ). Filled (entry_of from) loop.to 0 k) e loop.invariant.1)
