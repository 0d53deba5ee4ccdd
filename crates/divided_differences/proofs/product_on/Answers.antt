use mathlib.Core.Path.{◌≡◌, ◌∙◌, ap}
use mathlib.Core.List.{List}
use Prim.Native.Nat.{ℕ, ◌+◌, ◌-◌}
use Rattle.std.proofs.Common.{get_or-drop}
use lib.ListN.{get_or, drop}
use lib.Seq.{get_or-take}
use Rattle.algebra.specs.Divided.{sub_n}
use Rattle.algebra.specs.Rests.{product_n, product_next}
use native.Mathlib.Omega.{arith}
use Rattle.divided_differences.proofs.product_on.Goals as goal

pub loop-x-preserved : goal.loop-x-preserved
loop-x-preserved c =
    let loop = c.loop-x in
    let xs : List ℕ = c.args.points.now in
    let k : ℕ = c.args.k in
    let at : ℕ = c.args.from + loop.x-index in
    let next : at + 1 ≡ c.args.from + (loop.x-index + 1) = omega arith in
    let own = get_or-take (k - c.args.from) (drop c.args.from xs) loop.x-index 0 (omega arith) ∙ get_or-drop c.args.from xs loop.x-index 0 in
    product_next xs at k c.difference-d.result loop.value.0 c.multiply-value.result.0 (omega arith) loop.invariant (c.difference-d.ensures ∙ ap (sub_n (get_or xs k 0)) own) c.multiply-value.ensures
    ∙ ap (λ (j : ℕ). product_n xs j k) next
