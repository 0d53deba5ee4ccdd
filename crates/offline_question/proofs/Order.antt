-- The tests of a proof's question in the order in which the code makes them: the header's, then the others.
use mathlib.Core.Path.{◌≡◌, refl, sym, ap, ◌∙◌}
use mathlib.Core.Bool.{not}
use mathlib.Core.List.{List, [], ◌∷◌, ◌++◌}
use Prim.Native.Nat.{ℕ, ◌<◌}
use lib.Dec.{ltb, eqb}
use lib.ListN.{length, drop}
use Rattle.lists.specs.Bytes.{Bytes, words}
use Rattle.lists.specs.Tests.{Test, verdict_of, verdict_go, verdict_stop}
use Rattle.scheme.specs.Sizes.{elements}
use Rattle.scheme.specs.Question.{header_tests, header_points, challenges_at}
use Rattle.fiat_shamir.specs.Offline.{offline_tests, offline_length, offline_verdict, most_bits}
use Rattle.commitment.specs.declared.Shape.{Shape}
use Rattle.question.specs.Asked.{Heads}
use Rattle.question.proofs.Answer.{header_numbers}

-- the tests after the header's
abbrev pub body_tests : ℕ → ℕ → Bytes → List Test
body_tests κ m b = (1, ltb most_bits κ) ∷ (6, not (eqb (length b) (offline_length m))) ∷ (3, not (elements (words m (drop challenges_at b)))) ∷ []

body_tests_lem : (b : Bytes) (κ : ℕ) → offline_tests b κ ≡ header_tests b ++ body_tests κ (header_points b) b
unfolding offline_tests
body_tests_lem b κ = refl

-- after a header that is taken they decide
pub body_decides : (b : Bytes) (κ : ℕ) (s : Shape) (m : ℕ) → Heads b s m → offline_verdict b κ ≡ verdict_of (body_tests κ m b)
body_decides b κ s m h =
    ap verdict_of (body_tests_lem b κ)
    ∙ verdict_go (header_tests b) (body_tests κ (header_points b) b) (header_numbers b) h.verdict
    ∙ ap (λ (n : ℕ). verdict_of (body_tests κ n b)) (sym h.points)

-- a header that is refused decides
pub header_decides : (b : Bytes) (κ v : ℕ) → v ≡ verdict_of (header_tests b) → 0 < v → v ≡ offline_verdict b κ
header_decides b κ v e z = sym (ap verdict_of (body_tests_lem b κ) ∙ verdict_stop (header_tests b) _ v z (sym e))
