-- The words of two strings, one after the other, and how large a last word is.
use mathlib.Core.Path.{◌≡◌, sym, ap, ap₂, ◌∙◌, subst}
use mathlib.Core.List.{List, ◌++◌}
use Prim.Native.Nat.{ℕ, ◌+◌, ◌-◌, ◌*◌, ◌^◌, ◌<◌, ◌≤◌}
use native.Mathlib.Omega.{arith}
use lib.ListN.{length, get_or, take, drop, length-drop, drop_of_length-le}
use lib.Seq.{drop-append-le, take-append-le, take-append-add, drop-append-add, take_all, get_or-drop}
use Rattle.lists.specs.Number.{number, number_append, number_lt}
use Rattle.keccak.specs.Strings.{word}
use Rattle.squeezing.proofs.Shift.{pow-bytes}

module _ (m p : List ℕ) (q : ℕ) where
  -- a word of the first string
  pub word_before : q + 8 ≤ length m → word (m ++ p) q ≡ word m q
  unfolding word
  word_before h =
      let fit : 8 ≤ length (drop q m) = rw (length-drop q m) (omega arith) in
      ap (λ (l : List ℕ). number 256 (take 8 l)) (drop-append-le q m p (omega arith)) ∙ ap (number 256) (take-append-le 8 (drop q m) p fit)

  -- a word with bytes of both
  pub word_across : q ≤ length m → length m < q + 8 → word (m ++ p) q ≡ word m q + 256 ^ (length m - q) * number 256 (take (8 - (length m - q)) p)
  unfolding word
  word_across h l =
      let r : ℕ = length m - q in
      let size : length (drop q m) ≡ r = length-drop q m in
      let sum : 8 ≡ length (drop q m) + (8 - r) = omega arith in
      ap (λ (s : List ℕ). number 256 (take 8 s)) (drop-append-le q m p h)
      ∙ ap (λ (k : ℕ). number 256 (take k (drop q m ++ p))) sum
      ∙ ap (number 256) (take-append-add (drop q m) p (8 - r))
      ∙ number_append 256 (drop q m) (take (8 - r) p)
      ∙ ap₂ (λ (x k : ℕ). x + 256 ^ k * number 256 (take (8 - r) p)) (ap (number 256) (sym (take_all 8 (drop q m) (omega arith)))) size

  -- a word of the second string
  pub word_after : length m ≤ q → word (m ++ p) q ≡ number 256 (take 8 (drop (q - length m) p))
  unfolding word
  word_after h =
      let sum : q ≡ length m + (q - length m) = omega arith in
      ap (λ (k : ℕ). number 256 (take 8 (drop k (m ++ p)))) sum
      ∙ ap (λ (l : List ℕ). number 256 (take 8 l)) (drop-append-add m p (q - length m))

-- a word past the end
pub word_past : (m : List ℕ) (q : ℕ) → length m ≤ q → word m q ≡ 0
unfolding word number
word_past m q h = ap (λ (l : List ℕ). number 256 (take 8 l)) (drop_of_length-le m {i = q} h)

drop-bytes : (m : List ℕ) (q : ℕ) → ((i : ℕ) → get_or m i 0 < 256) → (i : ℕ) → get_or (drop q m) i 0 < 256
drop-bytes m q h i = subst (λ (x : ℕ). x < 256) (sym (get_or-drop q m i 0)) (h (q + i))

-- the last word of a string of bytes, of which r are left
pub word_lt : (m : List ℕ) (q r : ℕ) → ((i : ℕ) → get_or m i 0 < 256) → length m ≡ q + r → r < 8 → word m q < 2 ^ (r * 8)
unfolding word
word_lt m q r h e b =
    let size : length (drop q m) ≡ r = rw (length-drop q m) (omega arith) in
    subst (λ (x : List ℕ). number 256 x < 2 ^ (r * 8)) (sym (take_all 8 (drop q m) (omega arith)))
    (subst (λ (x : ℕ). number 256 (drop q m) < x) (ap (λ (k : ℕ). 256 ^ k) size ∙ pow-bytes r) (number_lt 256 (drop q m) (drop-bytes m q h)))
