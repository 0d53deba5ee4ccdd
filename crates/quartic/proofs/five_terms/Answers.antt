-- `quartic::five_terms` meets its contract: each folded product is congruent to its product.
use mathlib.Core.Path.{◌∙◌, ap}
use Prim.Native.Nat.{◌*◌}
use Rattle.algebra.specs.Fold.{fold_n, folded_mod}
use Rattle.algebra.specs.Quartic.{five_folded}
use Rattle.quartic.proofs.five_terms.Goals as goal

pub returns : goal.returns
returns c =
    let args = c.args in
    let one = c.folded in
    let two = c.folded-2 in
    let three = c.folded-3 in
    let four = c.folded-4 in
    (rw c.from.ensures at c.reduce.ensures)
    ∙ five_folded args.a (args.f.e1 * args.b) (args.f.e2 * args.c) (args.f.e3 * args.d) (args.f.e4 * args.e) one.result two.result three.result four.result
    (folded_mod _ _ (one.ensures.0 ∙ ap fold_n c.product.ensures))
    (folded_mod _ _ (two.ensures.0 ∙ ap fold_n c.product-2.ensures))
    (folded_mod _ _ (three.ensures.0 ∙ ap fold_n c.product-3.ensures))
    (folded_mod _ _ (four.ensures.0 ∙ ap fold_n c.product-4.ensures))
