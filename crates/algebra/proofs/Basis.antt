-- The values at a place of the basis of interpolation over consecutive points, by the table.
use Rattle.std.specs.Prelude.{◌≡◌, List, [], map, ℕ, suc, ◌+◌, ◌-◌, ◌≤◌, ◌<◌, get_or}
use Rattle.std.proofs.Common.{sym, ◌∙◌, ap, add-zero, zero-add, arith}
use Rattle.algebra.specs.Prime.{q}
use Rattle.algebra.specs.Field.{K, of, ◌⊗◌, 𝟎}
use Rattle.algebra.specs.Poly.{eval, prod}
use Rattle.algebra.specs.Interp.{bases}
use Rattle.algebra.specs.Lagrange.{elements_from, down_to, weight, weights, elements_from_distinct, from_zero}
use Rattle.algebra.specs.Numbers.{ofs}
use Rattle.algebra.specs.Table.{table_size, inverse_factorial}
use Rattle.lists.specs.Range.{up_from}
use Rattle.algebra.specs.Basis.{lvals, basis_values, lvals_at, ofs-points}
use Rattle.algebra.proofs.Table.{table}

pub basis_at : (a x n c : ℕ) → c < n → n ≤ table_size → a + n ≤ q
    → get_or (map (λ (b : List K). eval b (of x)) (bases (ofs (up_from a n)))) c 𝟎
    ≡ weight inverse_factorial c (n - suc c) ⊗ (prod (down_to a c) (of x) ⊗ prod (elements_from (suc (a + c)) (n - suc c)) (of x))
unfolding down_to
basis_at a x n c l u v =
    ap (λ (t : List K). get_or (map (λ (b : List K). eval b (of x)) (bases t)) c 𝟎) (ofs-points a n)
    ∙ ap (λ (t : List K). get_or t c 𝟎) (basis_values (elements_from a n) (weights inverse_factorial 0 n) (of x) (elements_from_distinct a n v) (from_zero inverse_factorial table_size table a n u))
    ∙ ap (λ (p : ℕ). get_or (lvals [] (elements_from p n) (weights inverse_factorial 0 n) (of x)) c 𝟎) (sym (add-zero a))
    ∙ lvals_at inverse_factorial a 0 n c (of x) c (n - suc c) (sym (zero-add c)) (omega arith)
