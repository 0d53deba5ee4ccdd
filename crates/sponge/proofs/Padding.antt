-- The padding in bytes: table 6 of FIPS 202, section B.2, from the bits of sections 5.1 and 6.2; and its parts as numbers.
use mathlib.Core.Path.{◌≡◌, refl, sym, ap, ◌∙◌}
use mathlib.Core.List.{List, [], ◌∷◌, ◌++◌}
use Prim.Native.Nat.{ℕ, zero, suc, ◌+◌, ◌-◌, ◌*◌, ◌/◌, ◌%◌, ◌^◌, ◌<◌, ◌≤◌}
use native.Mathlib.Nat.{le_of_suc-le-suc, not-suc-le-zero, suc-sub-suc, sub-zero, zero-add, mul_comm, mul_assoc, pow-suc}
use native.Mathlib.Numerals.{add-one}
use native.Mathlib.Omega.{arith}
use lib.ListN.{length, take, drop, replicate, length-append, length-replicate}
use Rattle.lists.specs.Number.{number}
use Rattle.sponge.specs.Shake.{pad, added, octets, padded}

-- table 6, the row of SHAKE256: q bytes of padding
unfoldable pub padding : ℕ → List ℕ
padding zero = []
padding (suc zero) = 0x9f ∷ []
padding (suc (suc k)) = 0x1f ∷ replicate k 0 ++ 0x80 ∷ []

-- ---- from bits to bytes

-- 1111, the padding's first 1, z zeros and its last 1
abbrev bits : ℕ → List ℕ
bits z = 1 ∷ 1 ∷ 1 ∷ 1 ∷ 1 ∷ replicate z 0 ++ 1 ∷ []

octets-tail : (k : ℕ) → octets (suc k) (replicate (8 * k + 7) 0 ++ 1 ∷ []) ≡ replicate k 0 ++ 0x80 ∷ []
unfolding octets number
octets-tail zero = refl
octets-tail (suc k) =
    let more : 8 * suc k + 7 ≡ suc (suc (suc (suc (suc (suc (suc (suc (8 * k + 7)))))))) = omega arith in
    ap (λ (z : ℕ). octets (suc (suc k)) (replicate z 0 ++ 1 ∷ [])) more
    ∙ ap (λ (l : List ℕ). 0 ∷ l) (octets-tail k)

octets-bits : (q z : ℕ) → 0 < q → z ≡ 8 * q - 6 → octets q (bits z) ≡ padding q
unfolding octets number padding
octets-bits zero z p e = absurd (not-suc-le-zero p)
octets-bits (suc zero) z p e = ap (λ (k : ℕ). octets 1 (bits k)) e
octets-bits (suc (suc k)) z p e =
    let more : z ≡ suc (suc (suc (8 * k + 7))) = omega arith in
    ap (λ (x : ℕ). octets (suc (suc k)) (bits x)) more
    ∙ ap (λ (l : List ℕ). 0x1f ∷ l) (octets-tail k)

length-bits : (z : ℕ) → length (bits z) ≡ z + 6
length-bits z =
    let one : List ℕ = 1 ∷ [] in
    let size : length (replicate z 0 ++ one) ≡ z + 1 = length-append (replicate z 0) one ∙ ap (λ (k : ℕ). k + 1) (length-replicate z 0) in
    omega (arith, size)

pub padded_is : (m : List ℕ) → padded m ≡ m ++ padding (136 - length m % 136)
unfolding padded added pad
padded_is m =
    let n : ℕ = length m in
    let z : ℕ = (1088 + 1088 - 2 - (8 * n + 4) % 1088) % 1088 in
    let q : ℕ = 136 - n % 136 in
    let zeros : z ≡ 8 * q - 6 = omega arith in
    let count : length (bits z) / 8 ≡ q = omega (arith, length-bits z) in
    ap (λ (l : List ℕ). m ++ l) (ap (λ (k : ℕ). octets k (bits z)) count ∙ octets-bits q z (omega arith) zeros)

length-padding : (q : ℕ) → length (padding q) ≡ q
unfolding padding
length-padding zero = refl
length-padding (suc zero) = refl
length-padding (suc (suc k)) = ap suc (length-append (replicate k 0) (0x80 ∷ []) ∙ ap (λ (j : ℕ). j + 1) (length-replicate k 0) ∙ add-one k)

pub length-padded : (m : List ℕ) → length (padded m) ≡ length m + (136 - length m % 136)
length-padded m =
    ap length (padded_is m)
    ∙ length-append m (padding (136 - length m % 136))
    ∙ ap (λ (k : ℕ). length m + k) (length-padding (136 - length m % 136))

-- ---- parts of the padding as numbers

-- what follows 0x1f
abbrev tail : ℕ → List ℕ
tail k = replicate k 0 ++ 0x80 ∷ []

shifted : (n k : ℕ) → n ≡ 128 * 256 ^ k → 256 * n ≡ 128 * 256 ^ suc k
shifted n k e = ap (λ (x : ℕ). 256 * x) e ∙ mul_comm 256 (128 * 256 ^ k) ∙ mul_assoc 128 (256 ^ k) 256 ∙ ap (λ (x : ℕ). 128 * x) (sym (pow-suc 256 k))

tail-zero : (t k : ℕ) → t ≤ k → number 256 (take t (tail k)) ≡ 0
unfolding number
tail-zero zero k h = refl
tail-zero (suc t) zero h = absurd (not-suc-le-zero h)
tail-zero (suc t) (suc k) h = ap (λ (x : ℕ). 0 + 256 * x) (tail-zero t k (le_of_suc-le-suc h))

tail_whole : (k : ℕ) → number 256 (take (suc k) (tail k)) ≡ 128 * 256 ^ k
unfolding number
tail_whole zero = refl
tail_whole (suc k) = zero-add _ ∙ shifted (number 256 (take (suc k) (tail k))) k (tail_whole k)

tail-drop : (m k : ℕ) → m ≤ k → drop m (tail k) ≡ tail (k - m)
tail-drop zero k h = ap tail (sym (sub-zero k))
tail-drop (suc m) zero h = absurd (not-suc-le-zero h)
tail-drop (suc m) (suc k) h = tail-drop m k (le_of_suc-le-suc h) ∙ ap tail (sym (suc-sub-suc k m))

-- its first t bytes, but not its last
pub padding_front : (t k : ℕ) → 0 < t → t ≤ k → number 256 (take t (padding (suc k))) ≡ 0x1f
unfolding number padding
padding_front zero k p h = absurd (not-suc-le-zero p)
padding_front (suc t) zero p h = absurd (not-suc-le-zero h)
padding_front (suc t) (suc k) p h = ap (λ (x : ℕ). 31 + 256 * x) (tail-zero t k (le_of_suc-le-suc h))

-- all of it
pub padding_whole : (k : ℕ) → number 256 (take (suc k) (padding (suc k))) ≡ 0x1f + 128 * 256 ^ k
unfolding number padding
padding_whole zero = refl
padding_whole (suc k) = ap (λ (x : ℕ). 31 + x) (shifted (number 256 (take (suc k) (tail k))) k (tail_whole k))

-- eight bytes, neither its first nor its last
pub padding_middle : (m k : ℕ) → 0 < m → m + 8 ≤ k → number 256 (take 8 (drop m (padding (suc k)))) ≡ 0
unfolding padding
padding_middle zero k p h = absurd (not-suc-le-zero p)
padding_middle (suc m) zero p h = absurd (omega arith)
padding_middle (suc m) (suc k) p h =
    ap (λ (l : List ℕ). number 256 (take 8 l)) (tail-drop m k (omega arith)) ∙ tail-zero 8 (k - m) (omega arith)

-- its last eight bytes, not its first
pub padding_end : (m k : ℕ) → 0 < m → m + 7 ≡ k → number 256 (take 8 (drop m (padding (suc k)))) ≡ 2 ^ 63
unfolding number padding
padding_end zero k p e = absurd (not-suc-le-zero p)
padding_end (suc m) zero p e = absurd (omega arith)
padding_end (suc m) (suc k) p e =
    let seven : k - m ≡ 7 = omega arith in
    ap (λ (l : List ℕ). number 256 (take 8 l)) (tail-drop m k (omega arith) ∙ ap tail seven)
