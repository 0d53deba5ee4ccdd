-- What the library's `to_le_bytes` and `from_le_bytes` say, in the words of this repository.
use Rattle.std.specs.Prelude.{◌≡◌, ℕ, ◌/◌, ◌%◌, length}
use Rattle.std.specs.Int.{w16, w32, to_le_bytes, from_le_bytes}
use Rattle.std.proofs.Common.{sym, ap, ap₂, ◌∙◌, arith, take_all}
use mathlib.Core.List.{[], ◌∷◌}
use Rattle.lists.specs.Bytes.{Bytes, from_bytes, little_endian, two_bytes, four_bytes}
use Rattle.lists.specs.Spliced.{word_bytes, half_bytes}

pub word-bytes : (x : ℕ) → to_le_bytes w32 x ≡ little_endian 4 x
word-bytes x = sym (word_bytes x)

pub half-bytes : (x : ℕ) → to_le_bytes w16 (x % 65536) ≡ little_endian 2 x
half-bytes x =
    let low : x % 65536 % 256 ≡ x % 256 = omega arith in
    let high : x % 65536 / 256 % 256 ≡ x / 256 % 256 = omega arith in
    ap₂ (λ (a b : ℕ). a ∷ b ∷ []) low high ∙ sym (half_bytes x)

pub word-read : (x : Bytes) → length x ≡ 4 → from_le_bytes w32 x ≡ from_bytes x
word-read x e = omega (arith, four_bytes 0 x (omega arith)) ∙ ap from_bytes (take_all 4 x (omega arith))

pub half-read : (x : Bytes) → length x ≡ 2 → from_le_bytes w16 x ≡ from_bytes x
half-read x e = omega (arith, two_bytes 0 x (omega arith)) ∙ ap from_bytes (take_all 2 x (omega arith))
