-- The tests of samples, one after the other.
use mathlib.Core.Path.{◌≡◌, sym, ap, ap₂, ◌∙◌}
use mathlib.Core.Bool.{Bool, true, false, not, ◌&&◌}
use mathlib.Core.List.{List, [], ◌∷◌}
use Prim.Native.Nat.{ℕ}
use lib.Dec.{eqb}
use lib.ListN.{length}
use Rattle.lists.specs.Tests.{every, verdict_of, verdict_hit, verdict_miss, every_two, within}
use Rattle.scheme.specs.Sizes.{elements}
use Rattle.scheme.specs.Interpolate.{most_samples, samples_tests}

-- a, b, c: what the tests of the number of points, of the lengths and of the elements said
module _ (points values room : List ℕ) (a : Bool) (ea : a ≡ within 1 most_samples (length points)) where
  pub refused_1 : not a ≡ true → 1 ≡ verdict_of (samples_tests points values room)
  unfolding samples_tests
  refused_1 na = sym (verdict_hit 1 (not (within 1 most_samples (length points))) _ (ap not (sym ea) ∙ na))

  module _ (na : not a ≡ false) (b : Bool) (eb : b ≡ (eqb (length values) (length points) && eqb (length room) (length points))) where
    counted : b ≡ every (eqb (length values) (length points) ∷ eqb (length room) (length points) ∷ [])
    counted = every_two _ _ b eb

    one_passed : verdict_of (samples_tests points values room) ≡ verdict_of ((2, not b) ∷ (3, not (every (elements points ∷ elements values ∷ []))) ∷ [])
    unfolding samples_tests
    one_passed =
        verdict_miss 1 (not (within 1 most_samples (length points))) _ (ap not (sym ea) ∙ na)
        ∙ ap (λ (t : Bool). verdict_of ((2, not t) ∷ (3, not (every (elements points ∷ elements values ∷ []))) ∷ [])) (sym counted)

    pub refused_2 : not b ≡ true → 2 ≡ verdict_of (samples_tests points values room)
    refused_2 nb = sym (one_passed ∙ verdict_hit 2 (not b) _ nb)

    module _ (nb : not b ≡ false) (p v c : Bool) (ep : p ≡ elements points) (ev : v ≡ elements values) (ec : c ≡ (p && v)) where
      two_passed : verdict_of (samples_tests points values room) ≡ verdict_of ((3, not c) ∷ [])
      two_passed =
          one_passed
          ∙ verdict_miss 2 (not b) _ nb
          ∙ ap (λ (t : Bool). verdict_of ((3, not t) ∷ [])) (sym (every_two (elements points) (elements values) c (ec ∙ ap₂ ◌&&◌ ep ev)))

      pub refused_3 : not c ≡ true → 3 ≡ verdict_of (samples_tests points values room)
      refused_3 nc = sym (two_passed ∙ verdict_hit 3 (not c) [] nc)

      pub passed_3 : not c ≡ false → 0 ≡ verdict_of (samples_tests points values room)
      unfolding verdict_of
      passed_3 nc = sym (two_passed ∙ verdict_miss 3 (not c) [] nc)
