use mathlib.Core.Path.{◌≡◌, refl, ◌∙◌, ap, subst}
use mathlib.Core.List.{List}
use Prim.Native.Nat.{ℕ, ◌+◌, ◌-◌, ◌*◌, ◌%◌, ◌<◌}
use lib.ListN.{length, length-set, set}
use Rattle.algebra.specs.Prime.{q}
use Rattle.algebra.specs.Barycentric.{rise_n, fall_n, above_n}
use Rattle.algebra.specs.BarycentricTurns.{rise_start, rise_turn, fall_start, fall_turn, above_entry}
use Rattle.lists.specs.Fill.{Filled, filled_none, filled_is, fill_next, fill-back}
use native.Mathlib.Omega.{arith}
use Rattle.barycentric.proofs.chains.Goals as goal

pub loop-c-init : goal.loop-c-init
loop-c-init c =
    let k : ℕ = c.args.near in
    let below : List ℕ = c.args.below.now in
    let above : List ℕ = c.args.above.now in
    let n : ℕ = length below in
    (refl, c.requires.0, rise_start k, fall_start (k + n) n ∙ ap (λ (i : ℕ). fall_n (k + n) (n - i)) (omega arith), filled_none (rise_n k) below 0 0 (omega arith), filled_none (above_n k n) above (n - 0) n (omega arith))

pub loop-c-preserved : goal.loop-c-preserved
loop-c-preserved c =
    let loop = c.loop-c in
    let k : ℕ = c.args.near in
    let n : ℕ = length c.args.below.now in
    let high : ℕ = loop.high.0 in
    let l : 0 < n - loop.c = omega arith in
    let e : n - 1 - loop.c ≡ n - loop.c - 1 = omega arith in
    let d : n - loop.c - 1 ≡ n - (loop.c + 1) = omega arith in
    let back = fill-back (above_n k n) loop.above (n - loop.c) n high l (omega arith) (above_entry k n (n - loop.c) high l (omega arith) loop.invariant.3) loop.invariant.5 in (
      simp length-set loop.invariant.0,
      simp length-set loop.invariant.1,
      rise_turn k loop.c loop.low.0 c.multiply-low.result.0 loop.invariant.2 c.multiply-low.ensures,
      fall_turn k n (n - loop.c) high c.multiply-high.result.0 l (omega arith) loop.invariant.3 (c.multiply-high.ensures ∙ ap (λ (i : ℕ). high * (k + i) % q) e)
          ∙ ap (λ (i : ℕ). fall_n (k + n) (n - i)) d,
      fill_next (rise_n k) loop.below 0 loop.c loop.low.0 (omega arith) loop.invariant.2 loop.invariant.4,
      λ (j : ℕ) m u. subst (λ (i : ℕ). Filled (above_n k n) (set loop.above i high) (n - loop.c - 1) n) (omega arith) back j (omega arith) u,
    )

pub returns : goal.returns
returns c =
    let loop = c.loop-c in
    let k : ℕ = c.args.near in
    let n : ℕ = length c.args.below.now in (
      filled_is (rise_n k) loop.below n loop.invariant.0 (λ (j : ℕ) m u. loop.invariant.4 j m (omega arith)),
      filled_is (above_n k n) loop.above n loop.invariant.1 (λ (j : ℕ) m u. loop.invariant.5 j (omega arith) u),
    )
