use mathlib.Core.Path.{◌≡◌, ◌∙◌, ap₂, subst}
use mathlib.Core.List.{List}
use Prim.Native.Nat.{ℕ, ◌+◌, ◌*◌, ◌%◌}
use lib.ListN.{length, get_or, set, length-set}
use Rattle.lists.specs.Fill.{Filled, entry_of, two_filled, two_rest}
use Rattle.algebra.specs.Prime.{q}
use Rattle.algebra.specs.Fold.{fold_n}
use Rattle.algebra.specs.Rests.{rest_turn, product_turn}
use native.Mathlib.Omega.{arith}
use Rattle.divided_differences.proofs.take_off.Goals as goal

pub loop-pair-preserved : goal.loop-pair-preserved
loop-pair-preserved c =
    let a = c.rest_after-a in
    let b = c.rest_after-b in
    let u = c.multiply-u in
    let v = c.multiply-v in
    let loop = c.loop-pair in
    let args = c.args in
    let rs : List ℕ = args.rests.now in
    let ps : List ℕ = args.products.now in
    let xs : List ℕ = args.points.now in
    let m : ℕ = args.minus in
    let k : ℕ = args.k in
    let i : ℕ = k + 1 + 2 * loop.pair in
    let R : List ℕ = set (set loop.rests i a.result) (i + 1) b.result in
    let P : List ℕ = set (set loop.products i u.result.0) (i + 1) v.result.0 in
    let next : i + 2 ≡ k + 1 + 2 * (loop.pair + 1) = omega arith in
    let hr : get_or loop.rests i 0 ≡ get_or rs i 0 = loop.invariant.3 i (omega arith) (omega arith) in
    let hr' : get_or loop.rests (i + 1) 0 ≡ get_or rs (i + 1) 0 = loop.invariant.3 (i + 1) (omega arith) (omega arith) in
    let hp : get_or loop.products i 0 ≡ get_or ps i 0 = loop.invariant.5 i (omega arith) (omega arith) in
    let hp' : get_or loop.products (i + 1) 0 ≡ get_or ps (i + 1) 0 = loop.invariant.5 (i + 1) (omega arith) (omega arith) in (
      simp length-set loop.invariant.0,
      simp length-set loop.invariant.1,
      subst (λ (x : ℕ). Filled (rest_turn m rs ps) R (k + 1) x) next
          (two_filled (rest_turn m rs ps) loop.rests (k + 1) i a.result b.result (omega arith) (a.ensures ∙ ap₂ (λ (s t : ℕ). s + fold_n (m * t)) hr hp)
          (b.ensures ∙ ap₂ (λ (s t : ℕ). s + fold_n (m * t)) hr' hp') loop.invariant.2),
      subst (λ (x : ℕ). Filled (entry_of rs) R x (length xs)) next (two_rest (entry_of rs) loop.rests i (length xs) a.result b.result loop.invariant.3),
      subst (λ (x : ℕ). Filled (product_turn xs k ps) P (k + 1) x) next
          (two_filled (product_turn xs k ps) loop.products (k + 1) i u.result.0 v.result.0 (omega arith) (u.ensures ∙ ap₂ (λ (s t : ℕ). s * t % q) hp c.difference-d.ensures)
          (v.ensures ∙ ap₂ (λ (s t : ℕ). s * t % q) hp' c.difference-e.ensures) loop.invariant.4),
      subst (λ (x : ℕ). Filled (entry_of ps) P x (length xs)) next (two_rest (entry_of ps) loop.products i (length xs) u.result.0 v.result.0 loop.invariant.5),
    )
