use mathlib.Core.Path.{◌≡◌, ◌∙◌, ap}
use mathlib.Core.Logic.{◌≢◌}
use Prim.Native.Nat.{ℕ, ◌<◌, ◌*◌, ◌-◌, ◌%◌, ◌/◌}
use native.Mathlib.Nat.{mod-lt, mul-one, mod-eq_of_lt}
use Rattle.algebra.specs.Prime.{q, prime}
use Rattle.algebra.specs.Inverse.{inv_n-unique, inverse-step}
use native.Mathlib.Omega.{arith}
use Rattle.field.proofs.inverse.Goals as goal

pub loop-r-init : goal.loop-r-init
loop-r-init c = (omega arith, omega arith, omega arith, rw mul-one (mod-eq_of_lt c.requires.1))

pub loop-r-preserved : goal.loop-r-preserved
loop-r-preserved c =
    let a : ℕ = c.args.a.0 in
    let r : ℕ = c.loop-r.r in
    let k : ℕ = c.loop-r.k.0 in
    let h : 0 < r = omega arith in
    let u : r < q = omega arith in
    let n : q % r ≢ 0 = prime r (omega arith) u in
    let m : q % r < r = mod-lt q h in
    let e : (a * (k * (q - q / r) % q)) % q ≡ q % r = inverse-step a k r h u c.loop-r.invariant.3 in
    (omega arith, omega arith, omega arith, ap (λ (t : ℕ). a * t % q) c.multiply-k.ensures ∙ e)

pub returns : goal.returns
returns c =
    let one : c.loop-r.r ≡ 1 = omega arith in
    inv_n-unique c.args.a.0 c.loop-r.k.0 (omega arith) (c.loop-r.invariant.3 ∙ one)
