-- `interpolation::interpolate_from` meets its contract: Newton's forward formula.
use mathlib.Core.Path.{refl, ◌∙◌, ap}
use mathlib.Core.List.{List}
use Prim.Native.Nat.{ℕ, ◌+◌, ◌≤◌}
use lib.ListN.{length}
use Rattle.lists.specs.Range.{up_from}
use Rattle.lists.specs.Tabulate.{tabulate, length-tabulate}
use Rattle.algebra.specs.Divided.{nform_n}
use Rattle.algebra.specs.Forward.{newton_n}
use Rattle.algebra.proofs.Forward.{forward_interp_n}
use native.Mathlib.Omega.{arith}
use Rattle.interpolation.proofs.interpolate_from.Goals as goal

pub returns : goal.returns
returns c =
    let a : ℕ = c.args.first.0 in
    let ys : List ℕ = c.args.values.now in
    let n : ℕ = length ys in
    let u : a + n ≤ 4294967291 = omega arith in
    c.expand_from.ensures
    ∙ ap (λ (t : List ℕ). nform_n (up_from a (length t)) t) c.newton_from.ensures
    ∙ ap (λ (k : ℕ). nform_n (up_from a k) (tabulate n (newton_n ys))) (length-tabulate n (newton_n ys))
    ∙ forward_interp_n a n ys c.requires.3 refl
    c.requires.2 u
