-- Rows of powers.
use Rattle.std.specs.Prelude.{List, ℕ, get_or}
use Rattle.lists.specs.Tabulate.{tabulate}
use Rattle.algebra.specs.Columns.{pow_n}

-- the first n powers of number a of a list
unfoldable pub powers_at : ℕ → List ℕ → ℕ → List ℕ
powers_at n xs a = tabulate n (pow_n (get_or xs a 0))
