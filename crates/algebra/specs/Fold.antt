-- Numbers folded at 2^32, which is 5 modulo q: congruent, and far smaller.
use Rattle.std.specs.Prelude.{◌≡◌, ℕ, ◌+◌, ◌*◌, ◌/◌, ◌%◌, ◌≤◌, ◌<◌}
use Rattle.std.proofs.Common.{◌∙◌, ap, mod-lt, arith, lit<}
use Rattle.std.proofs.Math.Nat.{div-add-mod}
use Rattle.algebra.specs.Prime.{q}
use Rattle.algebra.specs.Field.{same_mod}

unfoldable pub fold_n : ℕ → ℕ
fold_n x = x % 4294967296 + 5 * (x / 4294967296)

-- what a number below 2^64 is folded to, at the most: 6 (2^32 - 1)
abbrev pub most_folded : ℕ
most_folded = 25769803770

pub fold_mod : (x : ℕ) → fold_n x % q ≡ x % q
unfolding fold_n
fold_mod x = same_mod (fold_n x) x (x / 4294967296) 0 (omega (arith, div-add-mod x 4294967296))

pub fold_few : (x : ℕ) → x ≤ 18446744065119617025 → fold_n x ≤ most_folded
unfolding fold_n
fold_few x l = let m : x % 4294967296 < 4294967296 = mod-lt x (lit< tt) in omega (arith, div-add-mod x 4294967296)

pub folded_mod : (r x : ℕ) → r ≡ fold_n x → r % q ≡ x % q
folded_mod r x e = ap (λ (t : ℕ). t % q) e ∙ fold_mod x
