use mathlib.Core.Path.{◌≡◌, refl, ◌∙◌, ap}
use mathlib.Core.List.{List}
use Prim.Native.Nat.{ℕ, ◌-◌, ◌*◌, ◌%◌, ◌<◌}
use lib.ListN.{length, length-set, get_or}
use Rattle.algebra.specs.Prime.{q}
use Rattle.algebra.specs.Barycentric.{weight_n, sign_n}
use Rattle.algebra.proofs.Barycentric.{sign_n_below}
use Rattle.algebra.specs.BarycentricTurns.{sign_start, sign_turn, weight-entry}
use Rattle.lists.specs.Fill.{filled_none, filled_is, fill-back}
use native.Mathlib.Omega.{arith}
use Rattle.barycentric.proofs.weights_from.Goals as goal

pub loop-c-init : goal.loop-c-init
loop-c-init c =
    let out = c.args.out.now in
    (refl, sign_start (length out), filled_none (weight_n c.args.table.now (length out)) out (length out) (length out) (omega arith))

pub subtract-sign-requires : goal.subtract-sign-requires
subtract-sign-requires c =
    let n : ℕ = length c.args.out.now in
    let h : sign_n (n - c.loop-c.c) < q = sign_n_below (n - c.loop-c.c) in
    omega (arith, c.loop-c.invariant.1)

pub loop-c-preserved : goal.loop-c-preserved
loop-c-preserved c =
    let loop = c.loop-c in
    let t : List ℕ = c.args.table.now in
    let n : ℕ = length c.args.out.now in
    let sign : ℕ = loop.sign.0 in
    let v : ℕ = c.multiply.result.0 in
    let e : n - 1 - (loop.c - 1) ≡ n - loop.c = omega arith in (
      simp length-set loop.invariant.0,
      sign_turn n loop.c sign c.subtract-sign.result.0 (omega arith) (omega arith) loop.invariant.1 c.subtract-sign.ensures,
      fill-back (weight_n t n) loop.out loop.c n v (omega arith) (omega arith)
          (weight-entry t n loop.c sign c.multiply-t.result.0 v (omega arith) (omega arith) loop.invariant.1 (c.multiply-t.ensures ∙ ap (λ (i : ℕ). get_or t i 0 * sign % q) e) c.multiply.ensures)
          loop.invariant.2,
    )

pub returns : goal.returns
returns c =
    let loop = c.loop-c in
    let n : ℕ = length c.args.out.now in
    filled_is (weight_n c.args.table.now n) loop.out n loop.invariant.0 (λ (j : ℕ) m u. loop.invariant.2 j (omega arith) u)
