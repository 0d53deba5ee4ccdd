use mathlib.Core.Path.{◌≡◌, refl, ◌∙◌, ap, subst}
use mathlib.Core.List.{List}
use Prim.Native.Nat.{ℕ, ◌-◌}
use lib.ListN.{length, length-set, take, drop}
use Rattle.std.proofs.Common.{◌++◌, length-append, length-drop}
use lib.Seq.{length-take-le}
use Rattle.algebra.specs.Columns.{pow_n, pow_n_ahead}
use Rattle.lists.specs.Fill.{Filled, filled_is, filled_front, fill_next}
use Rattle.lists.specs.Tabulate.{tabulate}
use native.Mathlib.Omega.{arith}
use Rattle.field.proofs.powers.Goals as goal

pub loop-i-preserved : goal.loop-i-preserved
loop-i-preserved c =
    let loop = c.loop-i in
    let v : ℕ = c.multiply.result.0 in (
      refl,
      loop.invariant.1,
      loop.invariant.2,
      simp length-set loop.invariant.3,
      λ (z : ℕ) h f. fill_next (pow_n z) loop.out 0 loop.i v (omega arith)
          (pow_n_ahead z 8 loop.i c.first_powers-step.result.0 _ v (omega arith) (h (omega arith)) (loop.invariant.4 z h f (loop.i - 8) (omega arith) (omega arith)) c.multiply.ensures)
          (loop.invariant.4 z h f),
    )

pub returns : goal.returns
returns c =
    let loop = c.loop-i in
    let x : ℕ = c.args.x.0 in
    let out : List ℕ = c.args.out.now in
    let head : ℕ = c.min-head.result in
    let e : loop.i ≡ length out = omega arith in
    let l : length (take head out) ≡ head = length-take-le head out (omega arith) in
    let first : List ℕ = c.first_powers-step.new.out in
    let m : length (first ++ drop head out) ≡ length out = omega (arith, length-append first (drop head out), length-drop head out, c.first_powers-step.auto.out, l) in
    filled_is (pow_n x) loop.out (length out) (loop.invariant.3 ∙ m)
    (subst (λ (k : ℕ). Filled (pow_n x) loop.out 0 k) e
    (loop.invariant.4 x (λ m. c.first_powers-step.ensures.0 ∙ ap (pow_n x) (l ∙ loop.invariant.2 m))
    (filled_front (pow_n x) head c.first_powers-step.new.out (drop head out) (c.first_powers-step.ensures.1 ∙ ap (λ (k : ℕ). tabulate k (pow_n x)) l))))
