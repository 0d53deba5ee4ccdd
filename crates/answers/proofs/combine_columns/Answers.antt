-- `answers::combine_columns` meets its contract.
use Rattle.column_sums.proofs.Columns.{unblinded_asks, unblinded_sums}
use Rattle.commitment.specs.Shape.{sizes_in}
use lib.ListN.{length}
use mathlib.Core.Path.{◌∙◌}
use native.Mathlib.Omega.{arith}
use Rattle.answers.proofs.combine_columns.Goals as goal

pub plain_columns-requires : goal.plain_columns-requires
plain_columns-requires c =
    let s = c.args in
    unblinded_asks (sizes_in s.s) s.witness.now.coefficients.now s.witness.now.blinds.now c.requires.0 s.weights.now c.requires.1 c.if-s-eq0.true (length s.out.now) c.requires.2

pub returns-then-s-eq0 : goal.returns-then-s-eq0
returns-then-s-eq0 c =
    let s = c.args in
    c.plain_columns.ensures ∙ unblinded_sums (sizes_in s.s) s.witness.now.coefficients.now s.witness.now.blinds.now c.requires.0 s.weights.now c.requires.1 c.if-s-eq0.true (length s.out.now)
    c.requires.2

pub sum_columns-requires : goal.sum_columns-requires
sum_columns-requires c =
    (c.requires.0, c.requires.1, omega arith, c.requires.2)

pub returns : goal.returns
returns c = c.sum_columns.ensures
