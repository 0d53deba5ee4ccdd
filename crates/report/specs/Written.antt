-- A buffer with some bytes written into it, and the lines of one point.
use mathlib.Core.List.{List, ◌++◌, map, flatten}
use Rattle.std.specs.Prelude.{ℕ, ◌+◌, ◌*◌, length, get_or, drop}
use Rattle.lists.specs.Range.{up_from}
use Rattle.lists.specs.Spliced.{spliced}
use Rattle.lists.specs.Bytes.{Bytes}
use Rattle.scheme.specs.Check.{checking}
use Rattle.scheme.specs.Program.{value_line, value_lines, text}

-- the place after the bytes t that stand from place `at` on, and the buffer with them
abbrev pub written : Bytes → ℕ → Bytes → ℕ × Bytes
written b at t = (at + length t, spliced at (length t) t b)

-- a text's length, and the buffer that begins with it
abbrev pub overwritten : Bytes → Bytes → ℕ × Bytes
overwritten b t = (length t, t ++ drop (length t) b)

-- the first n lines of point p, one for each polynomial
unfoldable pub point_lines : ℕ → ℕ → List ℕ → ℕ → Bytes
point_lines p w values n = flatten (map (λ i. value_line p i (get_or values (p * w + i) 0)) (up_from 0 n))

-- the text for a question, a reply and a value buffer
unfoldable pub checked_text : Bytes → Bytes → ℕ → ℕ → List ℕ → Bytes
checked_text question reply m w buffer =
    let z : ℕ × List ℕ = checking question reply buffer in
    text z.0 (value_lines m w z.1)
