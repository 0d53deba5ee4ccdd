-- What `u64::from_le_bytes` makes of eight bytes, of which the last may be zeros.
use mathlib.Core.List.{◌++◌}
use mathlib.Core.Path.{◌≡◌, refl, ap, ◌∙◌}
use Prim.Native.Nat.{ℕ, zero, suc, ◌+◌, ◌*◌, ◌^◌, ◌≤◌}
use native.Mathlib.Nat.{le_of_eq, mul-zero, add-zero}
use native.Mathlib.Omega.{arith}
use borrow.Rule.Slice.PartMut.{put_mid}
use lib.ListN.{length, take, drop, replicate}
use lib.Seq.{take_all}
use Rattle.std.specs.Int.{w64, from_le_bytes}
use Rattle.lists.specs.Bytes.{Bytes, from_bytes, bytes-joined, four_bytes}
use Rattle.lists.specs.Parts.{put_length}
use Rattle.lists.specs.Number.{number, number_append}

number_of_eight : (x : Bytes) → length x ≡ 8 → from_le_bytes w64 x ≡ from_bytes x
number_of_eight x e =
    let whole : from_bytes (take 8 (drop 0 x)) ≡ from_bytes x = ap from_bytes (take_all 8 x (le_of_eq e)) in
    omega (arith, bytes-joined 4 4 0 x (omega arith) refl refl refl, four_bytes 0 x (omega arith), four_bytes 4 x (omega arith), whole)

zeros : (n k : ℕ) → from_bytes (drop n (replicate k 0)) ≡ 0
unfolding number
zeros zero zero = refl
zeros zero (suc k) = omega (arith, zeros zero k)
zeros (suc n) zero = refl
zeros (suc n) (suc k) = zeros n k

zeros_behind : (x : Bytes) (n k : ℕ) → from_bytes (x ++ drop n (replicate k 0)) ≡ from_bytes x
zeros_behind x n k =
    number_append 256 x (drop n (replicate k 0))
    ∙ ap (λ (m : ℕ). from_bytes x + 256 ^ length x * m) (zeros n k)
    ∙ ap (λ (m : ℕ). from_bytes x + m) (mul-zero (256 ^ length x)) ∙ add-zero (from_bytes x)

-- y, which is x, in front of zeros
pub eight_of : (x y : Bytes) → length x ≤ 8 → y ≡ x → from_le_bytes w64 (put_mid 0 (length x) (replicate 8 0) y) ≡ from_bytes x
eight_of x y h e =
    number_of_eight (put_mid 0 (length x) (replicate 8 0) y) (put_length 0 (length x) (replicate 8 0) y (omega arith) (ap length e))
    ∙ ap (λ (r : Bytes). from_bytes (r ++ drop (length x) (replicate 8 0))) e
    ∙ zeros_behind x (length x) 8
