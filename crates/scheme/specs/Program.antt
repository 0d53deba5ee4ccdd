-- The checking program: how it splits what it reads, and what it prints.
use mathlib.Core.List.{List, [], ◌∷◌, ◌++◌, map, flatten}
use Rattle.std.specs.Prelude.{ℕ, zero, suc, ◌+◌, ◌*◌, ◌/◌, ◌%◌, ltb, eqb, get_or, take, drop}
use Rattle.lists.specs.Choice.{pick}
use Rattle.lists.specs.Range.{up_from}
use Rattle.lists.specs.Bytes.{Bytes}
use Rattle.lists.specs.Tests.{verdict_of}
use Rattle.scheme.specs.Question.{header_tests, Question, read_question, header_sizes, header_points, question_length}
use Rattle.scheme.specs.Reply.{read_reply}
use Rattle.scheme.specs.Check.{check_verdict, check_values}

-- the most bytes that it reads
abbrev pub input_limit : ℕ
input_limit = 65536

-- the header tests: 6 if under 15 bytes, 5, 1
unfoldable pub header_verdict : Bytes → ℕ
header_verdict b = verdict_of (header_tests b)

-- as many bytes as the header gives, where it passes its tests; otherwise all bytes are the question
unfoldable pub question_part : Bytes → Bytes
question_part b = pick (eqb (header_verdict b) 0) (take (question_length (header_sizes b) (header_points b)) b) b

unfoldable pub reply_part : Bytes → Bytes
reply_part b = pick (eqb (header_verdict b) 0) (drop (question_length (header_sizes b) (header_points b)) b) []

-- a number in decimal, of at most k digits
unfoldable pub digits : ℕ → ℕ → Bytes
digits zero n = []
digits (suc k) n = pick (ltb n 10) [] (digits k (n / 10)) ++ ((48 + n % 10) ∷ [])

abbrev pub decimal : ℕ → Bytes
decimal n = digits 10 n

-- point number and polynomial number, from 1, and the value
unfoldable pub value_line : ℕ → ℕ → ℕ → Bytes
value_line p i v = decimal (p + 1) ++ (32 ∷ (decimal (i + 1) ++ (32 ∷ (decimal v ++ (10 ∷ [])))))

unfoldable pub value_lines : ℕ → ℕ → List ℕ → Bytes
value_lines m w values = flatten (map (λ p. flatten (map (λ i. value_line p i (get_or values (p * w + i) 0)) (up_from 0 w))) (up_from 0 m))

-- `verdict `, the number, a line end; after verdict 0 a line for each point and polynomial
unfoldable pub text : ℕ → Bytes → Bytes
text v rows = (0x76 ∷ 0x65 ∷ 0x72 ∷ 0x64 ∷ 0x69 ∷ 0x63 ∷ 0x74 ∷ 0x20 ∷ []) ++ (decimal v ++ (0x0A ∷ pick (eqb v 0) rows []))

unfoldable pub printed : Bytes → Bytes
printed input =
    let b : Bytes = take input_limit input in
    let u : Question = read_question (question_part b) in
    text (check_verdict 1 (question_part b) (reply_part b) (1 * (u.sizes.w * u.m))) (value_lines u.m u.sizes.w (check_values u (read_reply u (reply_part b))))
