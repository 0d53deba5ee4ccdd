-- The digits of a number.
use mathlib.Core.Path.{◌≡◌, sym, ap, ◌∙◌}
use mathlib.Core.Bool.{Bool, true, false}
use mathlib.Core.List.{[], ◌∷◌, ◌++◌}
use Prim.Native.Nat.{ℕ, zero, suc, ◌+◌, ◌/◌, ◌%◌, ◌^◌, ◌≤◌, ◌<◌}
use native.Mathlib.Nat.{pow-suc, pow-zero}
use native.Mathlib.Omega.{arith}
use lib.Dec.{ltb}
use lib.ListN.{length, length-append}
use borrow.Author.Tests.{lt-ltb, le-ltb}
use Rattle.lists.specs.Choice.{pick}
use Rattle.lists.specs.Bytes.{Bytes}
use Rattle.scheme.specs.Program.{digits, decimal}
use Rattle.report.specs.Written.{written}
use Rattle.report.proofs.Writing.{written_more, written-length, written_end}

-- more room for digits changes nothing where there is enough
enough : (k n : ℕ) → n < 10 ^ suc k → digits (suc k) n ≡ digits (suc (suc k)) n
unfolding digits
enough zero n l = ap (λ (b : Bool). pick b [] [] ++ ((48 + n % 10) ∷ [])) few ∙ sym (ap (λ (b : Bool). pick b [] (digits 1 (n / 10)) ++ ((48 + n % 10) ∷ [])) few)
  where
    few : ltb n 10 ≡ true
    few = lt-ltb n 10 (omega (arith, pow-suc 10 0, pow-zero 10))
enough (suc k) n l = ap (λ (t : Bytes). pick (ltb n 10) [] t ++ ((48 + n % 10) ∷ [])) (enough k (n / 10) (omega (arith, pow-suc 10 (suc k))))

pub decimal_one : (n : ℕ) → n < 10 → decimal n ≡ (48 + n % 10) ∷ []
unfolding digits
decimal_one n l = ap (λ (b : Bool). pick b [] (digits 9 (n / 10)) ++ ((48 + n % 10) ∷ [])) (lt-ltb n 10 l)

decimal_more : (n : ℕ) → 10 ≤ n → n < 10000000000 → decimal n ≡ decimal (n / 10) ++ ((48 + n % 10) ∷ [])
unfolding digits
decimal_more n l u =
    ap (λ (b : Bool). pick b [] (digits 9 (n / 10)) ++ ((48 + n % 10) ∷ [])) (le-ltb n 10 l)
    ∙ ap (λ (t : Bytes). t ++ ((48 + n % 10) ∷ [])) (enough 8 (n / 10) (omega arith))

digits_few : (k n : ℕ) → length (digits k n) ≤ k
unfolding digits
digits_few zero n = omega arith
digits_few (suc k) n = step (digits_few k (n / 10)) (ltb n 10)
  where
    step : length (digits k (n / 10)) ≤ k → (b : Bool) → length (pick b [] (digits k (n / 10)) ++ ((48 + n % 10) ∷ [])) ≤ suc k
    step h true = omega arith
    step h false = omega (arith, length-append (digits k (n / 10)) ((48 + n % 10) ∷ []))

pub decimal_few : (n : ℕ) → length (decimal n) ≤ 10
decimal_few n = digits_few 10 n

pub decimal_fits : (n at room : ℕ) → at + 10 ≤ room → at + length (decimal n) ≤ room
decimal_fits n at room h = omega (arith, decimal_few n)

-- a number of two digits or more, below 2^32: first the digits before the last one
pub shorter : (n at room : ℕ) → 10 ≤ n → n < 4294967296 → at + length (decimal n) ≤ room → at + length (decimal (n / 10)) + 1 ≤ room
shorter n at room l u h = omega (arith, ap length (decimal_more n l (omega arith)), length-append (decimal (n / 10)) ((48 + n % 10) ∷ []))

module _ (out : Bytes) (at n r : ℕ) (o : Bytes) (l : 10 ≤ n) (u : n < 4294967296) (room : at + length (decimal n) ≤ length out) (e : (r, o) ≡ written out at (decimal (n / 10))) where
  pub room_for_last : r < length o
  room_for_last =
      omega (arith, shorter n at (length out) l u room, written_end out at (decimal (n / 10)) r o e, written-length out at (decimal (n / 10)) r o (omega (arith, shorter n at (length out) l u room)) e)

  pub last_written : (z : ℕ × Bytes) → z ≡ written o r ((48 + n % 10) ∷ []) → z ≡ written out at (decimal n)
  last_written z f =
      written_more out at (decimal (n / 10)) ((48 + n % 10) ∷ []) r o z (omega (arith, shorter n at (length out) l u room)) e f
      ∙ ap (written out at) (sym (decimal_more n l (omega arith)))
