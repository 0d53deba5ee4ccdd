-- `divided_differences::block_weights` meets its contract: the products, inverted.
use mathlib.Core.Path.{◌≡◌, refl, sym, ◌∙◌, ap, subst}
use mathlib.Core.List.{List}
use Prim.Native.Nat.{ℕ, ◌+◌}
use lib.ListN.{length, replicate}
use lib.Seq.{length-take-le}
use Rattle.lists.specs.Tabulate.{length-tabulate}
use Rattle.algebra.specs.Numbers.{Elements}
use Rattle.algebra.specs.Rests.{product_n, block_n, block_below}
use native.Mathlib.Omega.{arith}
use Rattle.divided_differences.proofs.block_weights.Goals as goal

pub invert-requires : goal.invert-requires
invert-requires c =
    let block-products = c.block_products in
    let xs : List ℕ = c.args.points.now in
    let from : ℕ = c.args.from in
    let n : ℕ = length c.args.out.now in
    let out : List ℕ = block-products.new.out in
    let e : out ≡ block_n xs from n = block-products.ensures in
    let l : length out ≡ n = ap length e ∙ length-tabulate n (λ i. product_n xs (from + i) (from + i)) in
    let room : List ℕ = replicate 8 0 in
    let b : length room ≡ 8 = refl in
    (subst Elements (sym e) (block_below xs from n), length-take-le (length out) room (omega arith))
