use mathlib.Core.Path.{◌≡◌, sym, ◌∙◌, ap₂, subst}
use mathlib.Core.List.{List}
use Prim.Native.Nat.{ℕ, ◌+◌, ◌<◌}
use native.Mathlib.Nat.{mod-lt}
use lib.Dec.{lit<}
use lib.ListN.{length, length-set}
use Rattle.algebra.specs.Prime.{q}
use Rattle.algebra.specs.Numbers.{elements-set}
use Rattle.algebra.specs.Divided.{sub_n}
use Rattle.algebra.specs.Differences.{neighbours}
use Rattle.lists.specs.Fill.{entry_of, fill_next, fill-rest}
use native.Mathlib.Omega.{arith}
use Rattle.newton.proofs.take_differences.Goals as goal

pub loop-i-preserved : goal.loop-i-preserved
loop-i-preserved c =
    let loop = c.loop-i in
    let s : List ℕ = c.args.s.now in
    let v : ℕ = c.difference.result in
    let e : v ≡ neighbours s loop.i = c.difference.ensures ∙ ap₂ sub_n (loop.invariant.2 (loop.i + 1) (omega arith) (omega arith)) (loop.invariant.2 loop.i (omega arith) (omega arith)) in
    let b : v < q = subst (λ (t : ℕ). t < q) (sym c.difference.ensures) (mod-lt _ (lit< tt)) in (
      length-set loop.s loop.i v ∙ loop.invariant.0,
      fill_next (neighbours s) loop.s 0 loop.i v (omega arith) e loop.invariant.1,
      fill-rest (entry_of s) loop.s loop.i (length s) v loop.invariant.2,
      elements-set loop.s loop.i v b loop.invariant.3,
    )
