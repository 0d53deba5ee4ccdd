-- The tests between the question's and the search, in their order.
use mathlib.Core.Path.{◌≡◌, sym, ap, ◌∙◌}
use mathlib.Core.Bool.{Bool, true, false, not}
use mathlib.Core.List.{List, [], ◌∷◌}
use Prim.Native.Nat.{ℕ, ◌+◌}
use lib.Dec.{eqb}
use lib.ListN.{length}
use Rattle.lists.specs.Bytes.{Bytes}
use Rattle.lists.specs.Tests.{Test, verdict_of, verdict_hit, verdict_miss, every}
use Rattle.scheme.specs.Sizes.{Sizes}
use Rattle.scheme.specs.Layers.{Lent}
use Rattle.scheme.specs.Reply.{reply_bound}
use Rattle.scheme.specs.Commit.{lent_ok, filled_ok}
use Rattle.scheme.specs.Open.{words_ok, names_ok}
use Rattle.fiat_shamir.specs.Offline.{offline_root, offline_salt}
use Rattle.fiat_shamir.specs.Prove.{counter_length}
use Rattle.prover.specs.Ready.{lent_tests}

module _ (b : Bytes) (s : Sizes) (m : ℕ) (l : Lent) (table : List ℕ) (nodes buffer : Bytes) where
  abbrev measured : Bool
  measured = every (lent_ok s l ∷ filled_ok s table nodes ∷ eqb (length buffer) (counter_length + reply_bound s m) ∷ [])

  abbrev named : Bool
  named = names_ok (offline_root b) (offline_salt b) l nodes

  abbrev tests : List Test
  tests = lent_tests b s m l table nodes buffer

  abbrev after3 : List Test
  after3 = (8, not named) ∷ []

  abbrev after2 : List Test
  after2 = (3, not (words_ok l table)) ∷ after3

  pub says_2 : measured ≡ false → 2 ≡ verdict_of tests
  says_2 e = sym (verdict_hit 2 (not measured) after2 (ap not e))

  passes_2 : measured ≡ true → verdict_of tests ≡ verdict_of after2
  passes_2 e = verdict_miss 2 (not measured) after2 (ap not e)

  pub says_3 : measured ≡ true → words_ok l table ≡ false → 3 ≡ verdict_of tests
  says_3 e f = sym (passes_2 e ∙ verdict_hit 3 (not (words_ok l table)) after3 (ap not f))

  passes_3 : measured ≡ true → words_ok l table ≡ true → verdict_of tests ≡ verdict_of after3
  passes_3 e f = passes_2 e ∙ verdict_miss 3 (not (words_ok l table)) after3 (ap not f)

  pub says_8 : measured ≡ true → words_ok l table ≡ true → named ≡ false → 8 ≡ verdict_of tests
  says_8 e f g = sym (passes_3 e f ∙ verdict_hit 8 (not named) [] (ap not g))

  pub says_0 : measured ≡ true → words_ok l table ≡ true → named ≡ true → 0 ≡ verdict_of tests
  unfolding verdict_of
  says_0 e f g = sym (passes_3 e f ∙ verdict_miss 8 (not named) [] (ap not g))
