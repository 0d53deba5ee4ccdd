use mathlib.Core.Path.{◌≡◌, refl, sym, ap, ap₂, ◌∙◌}
use mathlib.Core.Bool.{Bool, ◌&&◌}
use Prim.Native.Nat.{ℕ, ◌+◌, ◌*◌}
use lib.Dec.{ltb}
use lib.ListN.{drop, take}
use Rattle.algebra.specs.Prime.{q}
use Rattle.lists.specs.Bytes.{from_bytes}
use Rattle.lists.specs.Pieces.{pieces}
use Rattle.lists.specs.Tests.{all}
use Rattle.scheme.specs.Sizes.{elements}
use Rattle.lists.specs.Numbers.{numbers, numbers_next}
use Rattle.lists.specs.Scan.{all_snoc}
use native.Mathlib.Omega.{arith}
use Rattle.codec.proofs.elements_in.Goals as goal

pub loop-i-init : goal.loop-i-init
unfolding pieces all
loop-i-init c = refl

pub loop-i-preserved : goal.loop-i-preserved
loop-i-preserved c =
    let s = c.args in
    let i = c.loop-i.i in
    let x = from_bytes (take 4 (drop (s.at + 4 * i) s.b.now)) in
    ap₂ (λ (t : Bool) (y : ℕ). t && ltb y q) c.loop-i.invariant c.word.ensures
    ∙ sym (all_snoc (λ (y : ℕ). ltb y q) (numbers 4 i s.at s.b.now) x)
    ∙ ap elements (numbers_next 4 i s.at s.b.now)

pub returns : goal.returns
returns c =
    let e : c.loop-i.i ≡ c.args.n = omega arith in
    c.loop-i.invariant ∙ ap (λ (k : ℕ). elements (numbers 4 k c.args.at c.args.b.now)) e
