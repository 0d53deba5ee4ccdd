-- A text for bytes that are read.
use Rattle.std.specs.Prelude.{◌≡◌, ℕ, List, Option}
use Rattle.std.specs.Io.KnownBytes.{Consumes}
use Rattle.lists.specs.Bytes.{Bytes}
use Rattle.scheme.specs.Program.{printed}
use Rattle.report.specs.Written.{overwritten}

-- an input's known bytes before and after: some were consumed, and the buffer begins with their text
abbrev pub Reported : Option (List ℕ) → Option (List ℕ) → Bytes → ℕ × Bytes → Type 0
Reported before after out z = (b : Bytes) × Consumes before after b × (z ≡ overwritten out (printed b))
