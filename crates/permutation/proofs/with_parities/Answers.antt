-- `permutation::with_parities` meets its contract.
use mathlib.Core.Path.{refl}
use Rattle.keccak.specs.Parities.{with_parities}
use Rattle.permutation.proofs.with_parities.Goals as goal

pub returns : goal.returns
unfolding with_parities
returns c = refl
