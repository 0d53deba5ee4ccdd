-- `sums::reduce_parts` meets its contract: the difference modulo 2^64 is the sum of the lower parts.
use Rattle.std.proofs.Common.{refl, rules}
use Rattle.algebra.specs.Wrapped.{low_of}
use Rattle.sums.proofs.reduce_parts.Goals as goal

pub overflow_add-result : goal.overflow_add-result
unfolding low_of
overflow_add-result c =
    let l = c.requires.0 in
    let u = c.requires.1 in search rules

pub returns : goal.returns
unfolding low_of
returns c = refl
