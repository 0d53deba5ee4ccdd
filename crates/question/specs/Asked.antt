-- What a header and a question ask for, as the code holds it, where no test of theirs holds.
use Rattle.std.specs.Prelude.{◌≡◌, ℕ}
use Rattle.lists.specs.Bytes.{Bytes}
use Rattle.lists.specs.Tests.{verdict_of}
use Rattle.scheme.specs.Question.{header_sizes, header_points, header_tests, question_verdict}
use Rattle.commitment.specs.Shape.{shape_of}
use Rattle.commitment.specs.declared.Shape.{Shape}

-- the sizes in a header
abbrev pub header_shape : Bytes → Shape
header_shape b = shape_of (header_sizes b)

-- s and m are the sizes and the number of points of a header that is taken
pub record Heads (b : Bytes) (s : Shape) (m : ℕ) : Type 0 where
  pub verdict : verdict_of (header_tests b) ≡ 0
  pub shape : s ≡ header_shape b
  pub points : m ≡ header_points b

-- .. and of a question that is well formed
pub record Asks (b : Bytes) (s : Shape) (m : ℕ) : Type 0 where
  pub verdict : question_verdict b ≡ 0
  pub shape : s ≡ header_shape b
  pub points : m ≡ header_points b
