-- What the question of a proof asks for, as the code holds it, where no test of its, or of κ, holds.
use Rattle.std.specs.Prelude.{◌≡◌, ℕ}
use Rattle.lists.specs.Bytes.{Bytes}
use Rattle.scheme.specs.Question.{header_points}
use Rattle.fiat_shamir.specs.Offline.{offline_verdict}
use Rattle.commitment.specs.declared.Shape.{Shape}
use Rattle.question.specs.Asked.{header_shape}

pub record AsksOffline (b : Bytes) (κ : ℕ) (s : Shape) (m : ℕ) : Type 0 where
  pub verdict : offline_verdict b κ ≡ 0
  pub shape : s ≡ header_shape b
  pub points : m ≡ header_points b
