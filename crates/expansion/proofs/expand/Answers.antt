use mathlib.Core.Path.{◌≡◌, ◌∙◌, ap}
use mathlib.Core.List.{List}
use Prim.Native.Nat.{ℕ, ◌+◌, ◌*◌, ◌-◌}
use lib.ListN.{length}
use borrow.Rule.Slice.PartMut.{put_mid}
use Rattle.algebra.specs.Divided.{expanded, length-expanded}
use Rattle.expansion.proofs.Parts.{fours_start, fours_turn}
use native.Mathlib.Omega.{arith}
use Rattle.expansion.proofs.expand.Goals as goal

pub loop-block-preserved : goal.loop-block-preserved
loop-block-preserved c =
    let points : List ℕ = c.args.points.now in
    let s₀ : List ℕ = c.args.s.now in
    let loop = c.loop-block in
    let rest : ℕ = 4 * c.saturating_sub-blocks.result in
    let k : ℕ = 4 * (loop.block - 1) in
    let done = c.expand_singly in
    let four = c.expand_four in
    let up : 4 * loop.block ≡ k + 4 = omega arith in
    let before : List ℕ = put_mid rest (length s₀ - rest) s₀ done.new.s in
    let turn : (t : List ℕ) → length t ≡ length points → before ≡ expanded points t rest → put_mid k (length loop.s - k) loop.s four.new.s ≡ expanded points t k =
    λ t l e. fours_turn points t loop.s four.new.s k (omega arith) l (loop.invariant.1 t l e ∙ ap (expanded points t) up) four.ensures in
    (ap length (turn s₀ c.requires.1 (fours_start points s₀ done.new.s rest done.ensures)) ∙ length-expanded points s₀ k c.requires.1 (omega arith) ∙ c.requires.1, turn)
