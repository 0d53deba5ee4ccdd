-- What the check did on words, on a buffer of bytes: four for each word after verdict 0.
use Rattle.std.specs.Prelude.{List, ℕ}
use Rattle.lists.specs.Bytes.{Bytes, bytes_of}
use Rattle.scheme.specs.Commit.{after}

abbrev pub in_bytes : ℕ × List ℕ → Bytes → ℕ × Bytes
in_bytes z before = (z.0, after z.0 (bytes_of z.1) before)
