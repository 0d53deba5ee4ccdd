use mathlib.Core.Path.{◌≡◌, refl, ◌∙◌, ap, ap₂}
use mathlib.Core.List.{List}
use Prim.Native.Nat.{ℕ, ◌*◌, ◌-◌, ◌%◌}
use lib.ListN.{length, get_or, length-set}
use Rattle.algebra.specs.Prime.{q}
use Rattle.algebra.specs.Differences.{difference_start, difference_turn}
use Rattle.algebra.specs.Forward.{newton_n}
use Rattle.lists.specs.Fill.{fill_next, filled_none, filled_is}
use native.Mathlib.Omega.{arith}
use Rattle.newton.proofs.newton_from.Goals as goal

pub loop-k-init : goal.loop-k-init
loop-k-init c =
    let ys : List ℕ = c.args.values.now in
    (refl, c.requires.2, difference_start ys (length ys - 0), c.requires.0, filled_none (newton_n ys) c.args.out.now 0 0 (omega arith))

pub loop-k-preserved : goal.loop-k-preserved
loop-k-preserved c =
    let loop = c.loop-k in
    let ys : List ℕ = c.args.values.now in
    let n : ℕ = length ys in
    let v : ℕ = c.multiply.result.0 in
    let e : v ≡ newton_n ys loop.k = c.multiply.ensures ∙ ap₂ (λ (a b : ℕ). a * b % q) (loop.invariant.2 0 (omega arith) (omega arith))
    (ap (λ (t : List ℕ). get_or t loop.k 0) c.inverse_factorials-table.ensures) in
    let d = difference_turn ys loop.values c.take_differences.new.s loop.k (n - loop.k) (n - loop.k - 1) (omega arith) loop.invariant.2 c.take_differences.ensures.0 in (
      c.take_differences.auto.s ∙ loop.invariant.0,
      length-set loop.out loop.k v ∙ loop.invariant.1,
      λ (j : ℕ) m u. d j m (omega arith),
      c.take_differences.ensures.1,
      fill_next (newton_n ys) loop.out 0 loop.k v (omega arith) e loop.invariant.4,
    )

pub returns : goal.returns
returns c =
    let n : ℕ = length c.args.values.now in
    filled_is (newton_n c.args.values.now) c.loop-k.out n c.loop-k.invariant.1 (λ (j : ℕ) m u. c.loop-k.invariant.4 j m (omega arith))
