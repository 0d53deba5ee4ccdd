use mathlib.Core.Path.{◌≡◌, refl, ◌∙◌, ap, subst}
use Prim.Native.Nat.{ℕ}
use lib.ListN.{length, length-set}
use Rattle.algebra.specs.Columns.{pow_n, pow_n_start, pow_n_turn}
use Rattle.lists.specs.Fill.{Filled, filled_none, filled_is, fill_next}
use native.Mathlib.Omega.{arith}
use Rattle.field.proofs.first_powers.Goals as goal

pub loop-place-init : goal.loop-place-init
loop-place-init c = (refl, pow_n_start c.args.x.0, filled_none (pow_n c.args.x.0) c.args.out.now 0 0 (omega arith))

pub loop-place-preserved : goal.loop-place-preserved
loop-place-preserved c =
    let loop = c.loop-place in
    let x : ℕ = c.args.x.0 in (
      simp length-set loop.invariant.0,
      pow_n_turn x loop.place-index loop.p.0 c.multiply-p.result.0 loop.invariant.1 c.multiply-p.ensures,
      fill_next (pow_n x) loop.out 0 loop.place-index loop.p.0 (omega arith) loop.invariant.1 loop.invariant.2,
    )

pub returns : goal.returns
returns c =
    let loop = c.loop-place in
    let e : loop.place-index ≡ length c.args.out.now = omega arith in (
      loop.invariant.1 ∙ ap (pow_n c.args.x.0) e,
      filled_is (pow_n c.args.x.0) loop.out (length c.args.out.now) loop.invariant.0
          (subst (λ (k : ℕ). Filled (pow_n c.args.x.0) loop.out 0 k) e loop.invariant.2),
    )
