-- The tests of a question in the order in which the code makes them: the header's, then the body's.
use mathlib.Core.Path.{◌≡◌, sym, ap, ap₂, ◌∙◌}
use mathlib.Core.Bool.{not}
use mathlib.Core.List.{List, [], ◌∷◌, ◌++◌}
use Prim.Native.Nat.{ℕ, ◌+◌, ◌^◌, ◌<◌}
use lib.Dec.{eqb}
use lib.ListN.{length}
use Rattle.lists.specs.Bytes.{Bytes}
use Rattle.lists.specs.Tests.{Test, verdict_of, verdict_go, verdict_stop}
use Rattle.scheme.specs.Sizes.{elements}
use Rattle.scheme.specs.Question.{read_question, header_tests, header_points, question_tests, question_verdict, challenges_at, indices_at, question_length}
use Rattle.commitment.specs.Shape.{sizes_in}
use Rattle.question.specs.Asked.{header_shape, Heads}
use Rattle.commitment.specs.declared.Shape.{Shape}
use Rattle.lists.specs.Numbers.{numbers, numbers_more}
use Rattle.lists.specs.Scan.{placed}
use Rattle.question.proofs.Answer.{header_numbers}

-- the tests after the header's: all words of the question are tested in one walk
abbrev pub body_tests : Shape → ℕ → Bytes → List Test
body_tests s m b =
    (6, not (eqb (length b) (question_length (sizes_in s) m)))
    ∷ (3, not (elements (numbers 4 (s.eta + m) challenges_at b)))
    ∷ (4, not (placed (2 ^ s.h) (numbers 2 s.l (indices_at (sizes_in s) m) b)))
    ∷ []

body_tests_lem : (b : Bytes) → question_tests b ≡ header_tests b ++ body_tests (header_shape b) (header_points b) b
unfolding question_tests read_question
body_tests_lem b =
    let s : Shape = header_shape b in
    let m : ℕ = header_points b in
    ap (λ (xs : List ℕ). header_tests b ++ ((6, not (eqb (length b) (question_length (sizes_in s) m))) ∷ (3, not (elements xs)) ∷ (4, not (placed (2 ^ s.h) (numbers 2 s.l (indices_at (sizes_in s) m) b))) ∷ []))
    (sym (numbers_more 4 s.eta m challenges_at b))

-- after a header that is taken, the body's tests decide
pub body_decides : (b : Bytes) (s : Shape) (m : ℕ) → Heads b s m → question_verdict b ≡ verdict_of (body_tests s m b)
body_decides b s m h =
    ap verdict_of (body_tests_lem b)
    ∙ verdict_go (header_tests b) (body_tests (header_shape b) (header_points b) b) (header_numbers b) h.verdict
    ∙ ap₂ (λ (x : Shape) (n : ℕ). verdict_of (body_tests x n b)) (sym h.shape) (sym h.points)

-- a header that is refused decides
pub header_decides : (b : Bytes) (v : ℕ) → v ≡ verdict_of (header_tests b) → 0 < v → v ≡ question_verdict b
unfolding question_tests
header_decides b v e z = sym (verdict_stop (header_tests b) _ v z (sym e))
