use mathlib.Core.Path.{◌≡◌, refl, sym, ◌∙◌, ap, ap₂}
use mathlib.Core.List.{List}
use Prim.Native.Nat.{ℕ, ◌+◌, ◌*◌, ◌-◌, ◌/◌, ◌%◌}
use native.Mathlib.Nat.{add-zero}
use lib.ListN.{length, set}
use borrow.Rule.Slice.PartMut.{put_mid}
use Rattle.lists.specs.Range.{up_from, length-up_from, up_from_at}
use Rattle.algebra.specs.Divided.{sweep_n, expanded, expand_turn, length-expanded}
use Rattle.expansion.proofs.Parts.{expand-last, pair_turn}
use native.Mathlib.Omega.{arith}
use Rattle.expansion.proofs.expand_from.Goals as goal

pub loop-pair-init : goal.loop-pair-init
loop-pair-init c =
    let s₀ : List ℕ = c.args.s.now in
    let last : length s₀ - 1 ≡ 2 * ((length s₀ - 1) / 2) + (length s₀ - 1) % 2 = omega arith in
    (expand-last c.args.first.0 s₀ c.requires.0 ∙ ap (expanded (up_from c.args.first.0 (length s₀)) s₀) last, refl)

pub loop-pair-preserved : goal.loop-pair-preserved
loop-pair-preserved c =
    let loop = c.loop-pair in
    let s₀ : List ℕ = c.args.s.now in
    let a : ℕ = c.args.first.0 in
    let xs : List ℕ = up_from a (length s₀) in
    let n : length xs ≡ length s₀ = length-up_from a (length s₀) in
    let k : ℕ = 2 * (loop.pair - 1) + (length s₀ - 1) % 2 in
    let up : 2 * loop.pair + (length s₀ - 1) % 2 ≡ k + 2 = omega arith in
    let s : List ℕ = set loop.s k c.three_terms.result in
    let r : put_mid (k + 1) (length s - (k + 1)) s c.sweep_twice.new.s ≡ expanded xs s₀ k =
    pair_turn xs s₀ loop.s c.sweep_twice.new.s k c.point-x.result.0 c.point-y.result.0 c.three_terms.result (omega arith) (sym n) (loop.invariant.0 ∙ ap (expanded xs s₀) up)
    (c.point-x.ensures ∙ sym (up_from_at a (length s₀) k (omega arith)))
    (c.point-y.ensures ∙ sym (up_from_at a (length s₀) (k + 1) (omega arith))) c.three_terms.ensures.1 c.three_terms.ensures.0 c.sweep_twice.ensures in
    (r, ap length r ∙ length-expanded xs s₀ k (sym n) (omega arith))

pub returns-then-odd-eq1 : goal.returns-then-odd-eq1
returns-then-odd-eq1 c =
    let loop = c.loop-pair in
    let s₀ : List ℕ = c.args.s.now in
    let a : ℕ = c.args.first.0 in
    let xs : List ℕ = up_from a (length s₀) in
    let one : 2 * loop.pair + (length s₀ - 1) % 2 ≡ 1 = omega arith in
    c.sweep.ensures
    ∙ ap₂ sweep_n (sym (up_from_at a (length s₀) 0 (omega arith) ∙ add-zero a)) (loop.invariant.0 ∙ ap (expanded xs s₀) one)
    ∙ expand_turn xs s₀ 0 (sym (length-up_from a (length s₀))) (omega (arith, length-up_from a (length s₀)))
