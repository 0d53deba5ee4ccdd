-- The values of a leaf record are elements.
use Rattle.std.specs.Prelude.{Bool, ℕ}
use Rattle.lists.specs.Bytes.{Bytes}
use Rattle.scheme.specs.Sizes.{elements}
use Rattle.opened.specs.Records.{record_words_at}

-- whether the first n values of record a are elements
unfoldable pub record_elements_at : ℕ → ℕ → ℕ → Bytes → ℕ → Bool
record_elements_at at size n reply a = elements (record_words_at at size n reply a)
