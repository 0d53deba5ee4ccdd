-- `answers::batching_answer` meets its contract: the polynomial through the combined rows is the combination of the rows' polynomials.
use mathlib.Core.Path.{◌≡◌, refl, sym, ◌∙◌, ap, subst}
use mathlib.Core.List.{List}
use Prim.Native.Nat.{ℕ, ◌+◌, ◌≤◌}
use lib.ListN.{length}
use Rattle.algebra.specs.Prime.{q}
use Rattle.algebra.specs.Numbers.{interp_n, Polys}
use Rattle.lists.specs.Range.{up_from}
use Rattle.scheme.specs.Layers.{extended_rows, combination}
use Rattle.lent.specs.Witnessed.{witnessed}
use Rattle.scheme.proofs.HonestAnswers.{combination-length}
use Rattle.commitment.specs.Shape.{sizes_in}
use Rattle.answers.proofs.Combining.{batching_one, interpolation_asks}
use Rattle.answers.proofs.Rows.{rows_polys, rows_some, answer_narrow, answer_some}
use native.Mathlib.Omega.{arith}
use Rattle.answers.proofs.batching_answer.Goals as goal

pub interpolate_from-requires : goal.interpolate_from-requires
interpolate_from-requires c =
    let s = c.args in
    let n : ℕ = length s.out.now in
    let es : List (List ℕ) = extended_rows (sizes_in s.s) (witnessed s.witness.now) in
    interpolation_asks s.first.0 n s.gamma.0 es s.out.now c.combine_lent.new.out
    c.requires.2
    (answer_some (sizes_in s.s) (witnessed s.witness.now) c.requires.0 n
    c.requires.1)
    (answer_narrow (sizes_in s.s) (witnessed s.witness.now) c.requires.0 n
    c.requires.1) refl
    (c.combine_lent.ensures ∙ ap (λ (k : ℕ). combination k s.gamma.0 es) (sym c.requires.1))

pub returns : goal.returns
returns c =
    let s = c.args in
    let n : ℕ = length s.out.now in
    let es : List (List ℕ) = extended_rows (sizes_in s.s) (witnessed s.witness.now) in
    let sum : List ℕ = c.combine_lent.new.out in
    let e : sum ≡ combination n s.gamma.0 es = c.combine_lent.ensures ∙ ap (λ (k : ℕ). combination k s.gamma.0 es)
    (sym c.requires.1) in
    let u : s.first.0 + n ≤ q = omega (arith, c.requires.2) in
    c.fold.ensures
    ∙ batching_one s.first.0 n s.gamma.0 s.mask.now es sum c.interpolate_from.new.out
    (subst (λ (k : ℕ). Polys k es) (sym c.requires.1)
    (rows_polys (sizes_in s.s) (witnessed s.witness.now)
    c.requires.0))
    (rows_some (sizes_in s.s) (witnessed s.witness.now)
    c.requires.0)
    u c.requires.3 e
    (c.interpolate_from.ensures ∙ ap (λ (k : ℕ). interp_n (up_from s.first.0 k) sum) (ap length e ∙ combination-length n s.gamma.0 es))
