-- The numbers of refusals, and what an answer that may be a refusal stands for.
use Rattle.std.specs.Prelude.{ℕ, Result, ◌<◌}
use native.Mathlib.Omega.{arith}
use Rattle.std.specs.Prelude.Result.{Ok, Err}
use Rattle.refusal.specs.declared.Refusal.{Refusal}
use Rattle.refusal.specs.declared.Refusal.TheVariants.{Sizes, Length, Element, Indices, Mark, QuestionLength, ReplyLength, Root, Batching, Evaluation, NoCounter, Unqualified, EqualPoints}

-- the number that a caller in C reads
abbrev pub number : Refusal → ℕ
number Sizes = 1
number Length = 2
number Element = 3
number Indices = 4
number Mark = 5
number QuestionLength = 6
number ReplyLength = 7
number Root = 8
number Batching = 9
number Evaluation = 10
number NoCounter = 11
number Unqualified = 12
number EqualPoints = 13

-- the number of an answer: 0 where it is no refusal
abbrev pub number_of : {A : Type 0} → Result A Refusal → ℕ
number_of (Ok _) = 0
number_of (Err r) = number r

-- the number that an answer gives, a length or a count: 0 with a refusal
abbrev pub given : Result ℕ Refusal → ℕ
given (Ok n) = n
given (Err _) = 0

-- no refusal has the number of none
pub number_positive : (r : Refusal) → 0 < number r
number_positive Sizes = omega arith
number_positive Length = omega arith
number_positive Element = omega arith
number_positive Indices = omega arith
number_positive Mark = omega arith
number_positive QuestionLength = omega arith
number_positive ReplyLength = omega arith
number_positive Root = omega arith
number_positive Batching = omega arith
number_positive Evaluation = omega arith
number_positive NoCounter = omega arith
number_positive Unqualified = omega arith
number_positive EqualPoints = omega arith
