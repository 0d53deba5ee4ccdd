-- Work: how many permutations hashing takes.
use Rattle.std.specs.Prelude.{List, ℕ, ◌+◌, ◌/◌, length}
use Rattle.lists.specs.Bytes.{Bytes}
use Rattle.lists.specs.Total.{total}

-- for a string of n bytes: n divided by 136, rounded down, plus 1
abbrev pub permutations_for : ℕ → ℕ
permutations_for n = n / 136 + 1

-- for some strings
unfoldable pub work : List Bytes → ℕ
work xs = total (λ x. permutations_for (length x)) xs
