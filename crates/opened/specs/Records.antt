-- The records of opened leaves in a reply.
use Rattle.std.specs.Prelude.{ℕ, ◌+◌, ◌*◌, List, take, drop}
use Rattle.lists.specs.Bytes.{Bytes, words}

-- record a, of those of `size` bytes each that begin at `at`
abbrev pub record_of : ℕ → ℕ → Bytes → ℕ → Bytes
record_of at size reply a = take size (drop (at + size * a) reply)

-- its first n values
unfoldable pub record_words_at : ℕ → ℕ → ℕ → Bytes → ℕ → List ℕ
record_words_at at size n reply a = words n (record_of at size reply a)
