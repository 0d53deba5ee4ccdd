use mathlib.Core.Path.{◌≡◌, ◌∙◌, subst}
use Prim.Native.Nat.{ℕ, ◌-◌}
use lib.ListN.{length, length-set}
use Rattle.algebra.specs.Divided.{stage}
use Rattle.algebra.specs.Pairs.{twice_n, twice_turn, twice_done}
use native.Mathlib.Omega.{arith}
use Rattle.expansion.proofs.sweep_twice.Goals as goal

pub loop-i-preserved : goal.loop-i-preserved
loop-i-preserved c =
    let loop = c.loop-i in
    let x : ℕ = c.args.x.0 in
    let y : ℕ = c.args.y.0 in (
      omega arith,
      omega arith,
      twice_turn x y c.args.s.now loop.s loop.i c.three_terms.result (omega arith) loop.invariant.2 c.three_terms.ensures.1
          c.three_terms.ensures.0,
      length-set loop.s loop.i c.three_terms.result ∙ loop.invariant.3,
    )

pub returns : goal.returns
returns c =
    let loop = c.loop-i in
    let x : ℕ = c.args.x.0 in
    let y : ℕ = c.args.y.0 in
    let last : ℕ = length c.args.s.now - 2 in
    let i : loop.i ≡ last = omega arith in
    twice_done x y c.args.s.now loop.s last c.three_terms-2.result (omega arith)
    (subst (λ (k : ℕ). loop.s ≡ stage (twice_n x y c.args.s.now)
    c.args.s.now k) i loop.invariant.2) c.three_terms-2.ensures.1 c.three_terms-2.ensures.0
