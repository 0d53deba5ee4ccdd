-- The table of inverse factorials keeps their rule: each entry times its place is the one before.
use Rattle.std.specs.Prelude.{◌≡◌, ℕ, suc, ◌*◌, ◌%◌, ◌<◌, get_or, drop}
use Rattle.std.proofs.Common.{sym, ◌∙◌, ap, le_of_suc-le-suc, one-add}
use Rattle.std.proofs.Math.Nat.{mod-mod}
use Rattle.algebra.specs.Prime.{q}
use Rattle.algebra.specs.Field.{K, of, of_mul, of_path, ◌⊗◌}
use Rattle.algebra.specs.Lagrange.{Table}
use Rattle.algebra.specs.Table.{inverse_factorials, table_test, follows_at, inverse_factorial, inverse_factorial_is, table_size, table_first}

rule : (k : ℕ) → suc k < table_size → get_or inverse_factorials (suc k) 0 * suc k % q ≡ get_or inverse_factorials k 0
unfolding inverse_factorials
rule k l = ap (λ (m : ℕ). get_or inverse_factorials (suc k) 0 * m % q) (sym (one-add k)) ∙ follows_at (drop 1 inverse_factorials) 1 1 table_test k (le_of_suc-le-suc l)

reduce : (x y : ℕ) → x % q ≡ y → x % q ≡ y % q
reduce x y e = sym (mod-mod x q) ∙ ap (λ (m : ℕ). m % q) e

table_next : (t : ℕ) → suc t < table_size → inverse_factorial (suc t) ⊗ of (suc t) ≡ inverse_factorial t
table_next t l =
    ap (λ (k : K). k ⊗ of (suc t)) (inverse_factorial_is (suc t))
    ∙ of_mul (get_or inverse_factorials (suc t) 0) (suc t)
    ∙ of_path _ (get_or inverse_factorials t 0) (reduce _ _ (rule t l))
    ∙ sym (inverse_factorial_is t)

pub table : Table inverse_factorial table_size
table = record { first = table_first; next = table_next }
