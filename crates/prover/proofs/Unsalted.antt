-- No proof depends on the salt: zeros in its place give the same.
use mathlib.Core.Path.{◌≡◌, refl}
use mathlib.Core.List.{List}
use Prim.Native.Nat.{ℕ}
use Rattle.lists.specs.Bytes.{Bytes}
use Rattle.scheme.specs.Layers.{Lent, extended}
use Rattle.scheme.specs.Open.{reply_of}
use Rattle.fiat_shamir.specs.Prove.{proved_answers, proof_of}
use Rattle.lent.proofs.Unsalted.{others}
use Rattle.prover.specs.Ready.{searched}

module _ (b : Bytes) (κ limit : ℕ) (l : Lent) (table : List ℕ) (nodes buffer : Bytes) where
  pub search_unsalted : searched b κ limit (others l) table nodes buffer ≡ searched b κ limit l table nodes buffer
  unfolding searched proved_answers proof_of reply_of extended
  search_unsalted = refl
