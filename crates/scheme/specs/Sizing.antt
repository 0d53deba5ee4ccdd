-- Sizing: how long the reply to a question is, before it is made; and what every entry for planners does.
use Rattle.std.specs.Prelude.{ℕ, eqb}
use Rattle.lists.specs.Bytes.{Bytes}
use Rattle.lists.specs.Choice.{pick}
use Rattle.scheme.specs.Question.{Question, read_question, question_verdict}
use Rattle.scheme.specs.Reply.{reply_length}

-- a number that well-formed questions have: the number of the question's tests, and then it (0 with a refusal)
unfoldable pub planning : (Question → ℕ) → Bytes → ℕ × ℕ
planning plan question =
    let v : ℕ = question_verdict question in
    (v, pick (eqb v 0) (plan (read_question question)) 0)

-- the entry for C, where the number is lent: a refusal leaves it as it was
unfoldable pub planning_c : (Question → ℕ) → Bytes → ℕ → ℕ × ℕ
planning_c plan question before =
    let r : ℕ × ℕ = planning plan question in
    (r.0, pick (eqb r.0 0) r.1 before)

-- what sizing does: the exact length of the question's reply
abbrev pub sizing : Bytes → ℕ × ℕ
sizing = planning reply_length

abbrev pub sizing_c : Bytes → ℕ → ℕ × ℕ
sizing_c = planning_c reply_length
