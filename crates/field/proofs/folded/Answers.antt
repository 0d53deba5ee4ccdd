-- `field::folded` meets its contract.
use Rattle.algebra.specs.Fold.{fold_n}
use borrow.Author.Rules.{rules}
use Rattle.field.proofs.folded.Goals as goal

pub returns : goal.returns
unfolding fold_n
returns c = search rules
