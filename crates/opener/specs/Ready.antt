-- What holds of a question and of what is lent once every test has passed.
use Rattle.std.specs.Prelude.{◌≡◌, true, List, ℕ, ◌≤◌, length}
use Rattle.lists.specs.All.{Below}
use Rattle.lists.specs.Rising.{Rising}
use Rattle.lists.specs.Bytes.{Bytes}
use Rattle.scheme.specs.Sizes.{Sizes, leaves, most_points}
use Rattle.scheme.specs.Layers.{Lent}
use Rattle.scheme.specs.Question.{question_at, question_length}
use Rattle.scheme.specs.Reply.{reply_length}
use Rattle.scheme.specs.Commit.{filled_ok}
use Rattle.scheme.specs.Honest.{WellLent}

pub record Ready (question : Bytes) (s : Sizes) (m : ℕ) (l : Lent) (table : List ℕ) (nodes reply : Bytes) : Type 0 where
  pub lent : WellLent s l
  pub points : m ≤ most_points
  pub long : length question ≡ question_length s m
  pub rising : Rising (question_at s m question).indices
  pub leaf : Below (leaves s) (question_at s m question).indices
  pub filled : filled_ok s table nodes ≡ true
  pub room : reply_length (question_at s m question) ≤ length reply
  pub small : length reply ≤ 65536
