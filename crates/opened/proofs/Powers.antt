-- Rows of powers.
use mathlib.Core.Path.{◌≡◌, sym, ap, ◌∙◌}
use mathlib.Core.List.{List, ◌++◌}
use Prim.Native.Nat.{ℕ, ◌<◌}
use lib.ListN.{length, get_or}
use Rattle.lists.specs.Pieces.{piece}
use Rattle.lists.specs.Tabulate.{tabulate, length_from}
use Rattle.algebra.specs.Columns.{pow_n}
use Rattle.algebra.specs.Dot.{dot_n, dot_powers_n}
use Rattle.algebra.specs.Numbers.{eval_n}
use Rattle.lists.specs.Rows.{rows_of, row_at}
use Rattle.opened.specs.Powers.{powers_at}

pub length-powers_at : (n : ℕ) (xs : List ℕ) (a : ℕ) → length (powers_at n xs a) ≡ n
unfolding powers_at
length-powers_at n xs a = length_from 0 n (pow_n (get_or xs a 0))

-- a row of powers, dotted with a polynomial's coefficients, is its value
pub dot-row : (n : ℕ) (xs : List ℕ) (m a : ℕ) (rest ys : List ℕ) → a < m → length ys ≡ n → dot_n (piece n a (rows_of (powers_at n xs) m ++ rest)) ys ≡ eval_n ys (get_or xs a 0)
unfolding powers_at
dot-row n xs m a rest ys l e =
    ap (λ (t : List ℕ). dot_n t ys) (row_at n (powers_at n xs) (length-powers_at n xs) m a rest l ∙ ap (λ (k : ℕ). tabulate k (pow_n (get_or xs a 0))) (sym e))
    ∙ dot_powers_n ys (get_or xs a 0)

pub powers_is : (n m : ℕ) (xs : List ℕ) (a : ℕ) (r : List ℕ) → m ≡ n → r ≡ tabulate m (pow_n (get_or xs a 0)) → r ≡ powers_at n xs a
unfolding powers_at
powers_is n m xs a r e g = g ∙ ap (λ (i : ℕ). tabulate i (pow_n (get_or xs a 0))) e
