-- `committer::commit` meets its contract.
use mathlib.Core.Path.{refl}
use native.Mathlib.Nat.{ne_of_gt}
use Rattle.std.proofs.lemmas.Result.{err_from_is_err_and}
use Rattle.refusal.specs.Numbers.{number, number_positive}
use Rattle.commitment.specs.Shape.{sizes_in}
use Rattle.lent.specs.Witnessed.{witnessed}
use Rattle.committer.proofs.Verdicts.{committable, refused, committed}
use Rattle.committer.proofs.commit.Goals as goal

pub returns-in_err-verdict : goal.returns-in_err-verdict
returns-in_err-verdict c =
    let args = c.args in
    let refusal = c.in_err-verdict.field-0.0 in
    let p = err_from_is_err_and c.from_residual.result c.from_residual.ensures.1 in
    rw (p.1, p.2) (refused (sizes_in args.s) (witnessed args.witness.now) args.table.now args.tree.now
    (number refusal) c.in_err-verdict.ensures (ne_of_gt (number_positive refusal)))

pub fill-requires : goal.fill-requires
fill-requires c =
    let args = c.args in
    committable (sizes_in args.s) (witnessed args.witness.now) args.table.now args.tree.now 0 c.in_ok-verdict.ensures refl

pub returns : goal.returns
returns c =
    let args = c.args in
    committed (sizes_in args.s) (witnessed args.witness.now) args.table.now args.tree.now
    0 c.fill.new.table c.fill.new.tree c.in_ok-verdict.ensures refl c.fill.ensures.table_after c.fill.ensures.tree_after
