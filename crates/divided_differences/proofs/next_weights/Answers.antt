-- `divided_differences::next_weights` meets its contract: the weights are there, or a block of them is put in.
use mathlib.Core.Path.{◌≡◌, sym, ◌∙◌, ap, subst}
use mathlib.Core.Bool.{Bool, true, false}
use mathlib.Core.List.{List, ◌++◌, map}
use Prim.Native.Nat.{ℕ, ◌+◌, ◌-◌}
use native.Mathlib.Nat.{not-suc-le-zero}
use lib.ListN.{length, take, drop, length-drop}
use lib.Seq.{length-take-le}
use borrow.Rule.Slice.PartMut.{mid_of, post_of, put_mid, take_put}
use Rattle.lists.specs.Choice.{pick}
use Rattle.algebra.specs.Inverse.{inv_n}
use Rattle.algebra.specs.Inverses.{invertible}
use Rattle.algebra.specs.Rests.{block_n, Weights, weights_put, block_equal}
use native.Mathlib.Omega.{arith}
use Rattle.divided_differences.proofs.next_weights.Goals as goal

pub returns-then-block_weights : goal.returns-then-block_weights
returns-then-block_weights c =
    let block-weights = c.block_weights in
    let if2 = c.if-block_weights in
    let xs : List ℕ = c.args.points.now in
    let ws : List ℕ = c.args.weights.now in
    let k : ℕ = c.args.k in
    let to : ℕ = c.min-to.result in
    let m : ℕ = to - k in
    let l : length (mid_of k m ws) ≡ m = length-take-le m (drop k ws) (omega (arith, length-drop k ws)) in
    let new : List ℕ = block-weights.new.out in
    let h : invertible (block_n xs k m) ≡ true = ap (λ (n : ℕ). invertible (block_n xs k n)) (sym l) ∙ sym block-weights.ensures.0 ∙ if2.true in
    let e : new ≡ map inv_n (block_n xs k m) =
    block-weights.ensures.1
    ∙ ap (λ (b : Bool). pick b (map inv_n (block_n xs k (length (mid_of k m ws)))) (block_n xs k (length (mid_of k m ws)))) if2.true
    ∙ ap (λ (n : ℕ). map inv_n (block_n xs k n)) l in
    let f : k + m ≡ to = omega arith in (
      omega arith,
      omega arith,
      subst (λ (n : ℕ). Weights xs (put_mid k m ws new) k n) f
          (weights_put xs (put_mid k m ws new) (take k ws) (post_of k m ws) k m (length-take-le k ws (omega arith)) h (ap (λ (t : List ℕ). take k ws ++ (t ++ post_of k m ws)) e)),
      take_put k m ws new (omega arith),
      λ z. absurd (not-suc-le-zero {n = 0} (omega arith)),
    )

pub returns-else-block_weights : goal.returns-else-block_weights
returns-else-block_weights c =
    let block-weights = c.block_weights in
    let xs : List ℕ = c.args.points.now in
    let ws : List ℕ = c.args.weights.now in
    let k : ℕ = c.args.k in
    let to : ℕ = c.min-to.result in
    let m : ℕ = to - k in
    let l : length (mid_of k m ws) ≡ m = length-take-le m (drop k ws) (omega (arith, length-drop k ws)) in
    let h : invertible (block_n xs k m) ≡ false = ap (λ (n : ℕ). invertible (block_n xs k n)) (sym l) ∙ sym block-weights.ensures.0 ∙ c.if-block_weights.false in
    (omega arith, omega arith, λ j a b. absurd (not-suc-le-zero {n = 0} (omega arith)), take_put k m ws block-weights.new.out (omega arith), λ z. block_equal xs k m c.requires.0 (omega arith) h)
