use mathlib.Core.Path.{◌≡◌, ◌∙◌, ap}
use mathlib.Core.List.{List}
use Prim.Native.Nat.{ℕ, ◌-◌}
use lib.ListN.{length}
use borrow.Rule.Slice.PartMut.{put_mid}
use Rattle.algebra.specs.Divided.{expanded, expand_start, length-expanded}
use Rattle.expansion.proofs.Parts.{expand_loop}
use native.Mathlib.Omega.{arith}
use Rattle.expansion.proofs.expand_singly.Goals as goal

pub loop-k-init : goal.loop-k-init
loop-k-init c = (omega arith, expand_start c.args.points.now c.args.s.now c.requires.1, omega arith)

pub loop-k-preserved : goal.loop-k-preserved
loop-k-preserved c =
    let loop = c.loop-k in
    let points : List ℕ = c.args.points.now in
    let s₀ : List ℕ = c.args.s.now in
    let r : put_mid (loop.k - 1) (length loop.s - (loop.k - 1)) loop.s c.sweep.new.s ≡ expanded points s₀ (loop.k - 1) =
    expand_loop points s₀ loop.s c.sweep.new.s loop.k (omega arith) (omega arith) c.requires.1 loop.invariant.1
    c.sweep.ensures in (
      omega arith,
      r,
      ap length r ∙ length-expanded points s₀ (loop.k - 1) c.requires.1 (omega arith) ∙
          c.requires.1,
    )
