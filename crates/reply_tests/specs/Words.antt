-- The words of a reply, by its question.
use Rattle.std.specs.Prelude.{Bool, List, ℕ, ◌*◌, drop}
use Rattle.lists.specs.Bytes.{Bytes, words}
use Rattle.scheme.specs.Sizes.{rows, width, record_values}
use Rattle.scheme.specs.Question.{Question}
use Rattle.scheme.specs.Reply.{answers_at, records_at, record_length}
use Rattle.opened.specs.Records.{record_words_at}
use Rattle.reply_elements.specs.Elements.{record_elements_at}

abbrev pub batching_words : Question → Bytes → List ℕ
batching_words u reply = words (width u.sizes * u.sizes.η) reply

abbrev pub answer_words : Question → Bytes → List ℕ
answer_words u reply = words (width u.sizes * u.m) (drop (answers_at u.sizes) reply)

-- the values of opened leaf a, the row values among them, and whether its values are elements
abbrev pub leaf_values_at : Question → Bytes → ℕ → List ℕ
leaf_values_at u = record_words_at (records_at u.sizes u.m) (record_length u.sizes) (record_values u.sizes)

abbrev pub row_values_at : Question → Bytes → ℕ → List ℕ
row_values_at u = record_words_at (records_at u.sizes u.m) (record_length u.sizes) (rows u.sizes)

abbrev pub leaf_elements_at : Question → Bytes → ℕ → Bool
leaf_elements_at u = record_elements_at (records_at u.sizes u.m) (record_length u.sizes) (record_values u.sizes)
