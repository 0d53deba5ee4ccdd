-- `answers::combine_tails` meets its contract: by Horner's rule, or with the weights.
use mathlib.Core.Path.{◌∙◌}
use lib.ListN.{length}
use Rattle.answers.proofs.Combining.{sums_combined}
use Rattle.answers.proofs.combine_tails.Goals as goal

pub returns : goal.returns
returns c =
    let s = c.args in
    c.sum_rows.ensures ∙ sums_combined (length s.out.now) s.z.0 s.weights.now s.rows.now c.requires.1
