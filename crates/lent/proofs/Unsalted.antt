-- No reply depends on the salt: zeros in its place give the same.
use mathlib.Core.Path.{◌≡◌, refl}
use mathlib.Core.List.{List}
use Prim.Native.Nat.{ℕ}
use Rattle.lists.specs.Bytes.{Bytes}
use Rattle.lists.specs.Tests.{every_true, true_every}
use Rattle.scheme.specs.Sizes.{Sizes}
use Rattle.scheme.specs.Layers.{Lent, extended}
use Rattle.lent.specs.Partly.{unsalted}
use Rattle.scheme.specs.Question.{Question}
use Rattle.scheme.specs.Commit.{lent_ok}
use Rattle.scheme.specs.Open.{reply_of}
use Rattle.scheme.specs.Honest.{WellLent}

module _ (l : Lent) where
  abbrev pub others : Lent
  others = unsalted l.coefficients l.tails l.blinds l.masks l.nonces

  pub reply_unsalted : (u : Question) (table : List ℕ) (nodes : Bytes) → reply_of u others table nodes ≡ reply_of u l table nodes
  unfolding reply_of extended
  reply_unsalted u table nodes = refl

  pub well_unsalted : (s : Sizes) → WellLent s l → WellLent s others
  unfolding lent_ok
  well_unsalted s r = record {
    sizes = r.sizes;
    lengths = let t = every_true _ r.lengths in true_every _ (t.0, (t.1.0, (t.1.1.0, (t.1.1.1.0, (t.1.1.1.1.0, (refl, tt))))));
    elements = r.elements;
  }
