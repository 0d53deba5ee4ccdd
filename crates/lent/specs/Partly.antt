-- What is lent, as far as a function is given it: with zeros or nothing in the place of what does not matter.
use Rattle.std.specs.Prelude.{List, [], ℕ, replicate}
use Rattle.tree.specs.Leaf.{salt_length}
use Rattle.scheme.specs.Layers.{Lent, lent_of}

-- what rows are made of; masks, nonces and salt matter to none
abbrev pub lent_rows : List ℕ → List ℕ → List ℕ → Lent
lent_rows coefficients tails blinds = lent_of coefficients tails blinds [] [] []

-- what replies are made of; the salt matters to none, and zeros stand for it
abbrev pub unsalted : List ℕ → List ℕ → List ℕ → List ℕ → List ℕ → Lent
unsalted coefficients tails blinds masks nonces = lent_of coefficients tails blinds masks nonces (replicate salt_length 0)
