use mathlib.Core.Path.{refl, ap, ◌∙◌}
use mathlib.Core.Bool.{Bool, ◌&&◌}
use Prim.Native.Nat.{ℕ}
use lib.Dec.{ltb}
use lib.ListN.{get_or}
use Rattle.algebra.specs.Prime.{q}
use Rattle.lists.specs.Tests.{all}
use Rattle.lists.specs.Scan.{all_next, all_done}
use borrow.Author.Rules.{rules}
use native.Mathlib.Omega.{arith}
use Rattle.codec.proofs.elements_ok.Goals as goal

pub loop-x-init : goal.loop-x-init
unfolding all
loop-x-init c = (search rules, refl)

pub loop-x-preserved : goal.loop-x-preserved
loop-x-preserved c =
    let xs = c.args.xs.now in
    let i = c.loop-x.x-index in
    (search rules, ap (λ (b : Bool). b && ltb (get_or xs i 0) q) c.loop-x.invariant.1 ∙ all_next (λ (x : ℕ). ltb x q) xs i (omega arith))

pub returns : goal.returns
returns c = c.loop-x.invariant.1 ∙ all_done (λ (x : ℕ). ltb x q) c.args.xs.now c.loop-x.x-index (omega arith)
