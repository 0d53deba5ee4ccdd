-- `column_sums::blinding_sum` meets its contract.
use mathlib.Core.Path.{◌∙◌, ap}
use Rattle.algebra.specs.Dot.{dot_n}
use Rattle.commitment.specs.Shape.{sizes_in}
use Rattle.column_sums.proofs.Columns.{blinds_fit, blinds_there, top_fits, top_there}
use borrow.Author.Rules.{rules}
use Rattle.column_sums.proofs.blinding_sum.Goals as goal

pub overflow_mul-from-then-t-last : goal.overflow_mul-from-then-t-last
overflow_mul-from-then-t-last c =
    let s = c.args in
    let f = blinds_fit (sizes_in s.s) s.witness.now.coefficients.now s.witness.now.blinds.now c.requires.0 s.i s.t c.requires.2 c.requires.3 c.if-t-last.true in
    search rules

pub overflow_add-to : goal.overflow_add-to
overflow_add-to c =
    let s = c.args in
    let f = blinds_fit (sizes_in s.s) s.witness.now.coefficients.now s.witness.now.blinds.now c.requires.0 s.i s.t c.requires.2 c.requires.3 c.if-t-last.true in
    search rules

pub offset_bounds-witness-from : goal.offset_bounds-witness-from
offset_bounds-witness-from c =
    let s = c.args in
    let f = blinds_fit (sizes_in s.s) s.witness.now.coefficients.now s.witness.now.blinds.now c.requires.0 s.i s.t c.requires.2 c.requires.3 c.if-t-last.true in
    search rules

pub slice_bounds-dot-end : goal.slice_bounds-dot-end
slice_bounds-dot-end c =
    let s = c.args in
    let f = blinds_fit (sizes_in s.s) s.witness.now.coefficients.now s.witness.now.blinds.now c.requires.0 s.i s.t c.requires.2 c.requires.3 c.if-t-last.true in
    search rules

pub returns-then-t-last : goal.returns-then-t-last
returns-then-t-last c =
    let s = c.args in
    c.dot.ensures ∙ ap (dot_n s.weights.now) (blinds_there (sizes_in s.s) s.witness.now.coefficients.now s.witness.now.blinds.now c.requires.0 s.i s.t c.requires.2 c.requires.3 c.if-t-last.true)

pub slice_bounds-dot-end-2 : goal.slice_bounds-dot-end-2
slice_bounds-dot-end-2 c =
    let s = c.args in
    let n = c.coefficient_count in
    let f = top_fits (sizes_in s.s) s.witness.now.coefficients.now s.witness.now.blinds.now c.requires.0 s.i s.t c.requires.2 c.requires.3 n.result n.ensures in
    search rules

pub returns : goal.returns
returns c =
    let s = c.args in
    let n = c.coefficient_count in
    c.dot-2.ensures ∙ ap (dot_n s.weights.now)
    (top_there (sizes_in s.s) s.witness.now.coefficients.now s.witness.now.blinds.now c.requires.0 s.i s.t c.requires.2 c.requires.3 n.result n.ensures c.if-t-last.false)
