-- Strings of bytes and state arrays: sections 3.1.2 and 3.1.3 of FIPS 202.
use Rattle.std.specs.Prelude.{List, ℕ, ◌/◌, ◌%◌, ◌^◌, get_or, take, drop}
use Rattle.lists.specs.Tabulate.{tabulate}
use Rattle.lists.specs.Number.{number}

-- the next eight bytes of p from `at` on, or those left, as one number: a lane (section 3.1.2)
unfoldable pub word : List ℕ → ℕ → ℕ
word p at = number 256 (take 8 (drop at p))

-- the state as a string of bytes (section 3.1.3)
abbrev pub bytes : List ℕ → List ℕ
bytes a = tabulate 200 (λ i. get_or a (i / 8) 0 / 256 ^ (i % 8) % 256)
