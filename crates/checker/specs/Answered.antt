-- The check of a reply to a well-formed question.
use Rattle.std.specs.Prelude.{not, List, ◌∷◌, ℕ, ◌*◌, eqb, length}
use Rattle.lists.specs.Bytes.{Bytes}
use Rattle.lists.specs.Tests.{verdict_of}
use Rattle.scheme.specs.Question.{Question}
use Rattle.scheme.specs.Reply.{read_reply}
use Rattle.scheme.specs.Commit.{after}
use Rattle.scheme.specs.Check.{reply_tests, check_values}

-- the value buffer's test and the reply's, and the value buffer after them
unfoldable pub checking_reply : Question → Bytes → List ℕ → ℕ × List ℕ
checking_reply u reply buffer =
    let v : ℕ = verdict_of ((2, not (eqb (length buffer) (1 * (u.sizes.w * u.m)))) ∷ reply_tests u reply) in
    (v, after v (check_values u (read_reply u reply)) buffer)
