-- Output of any length: its front, and how it is made a block at a time.
use mathlib.Core.Path.{◌≡◌, sym, ap, ap₂, ◌∙◌}
use mathlib.Core.List.{List, ◌++◌, append_assoc}
use Prim.Native.Nat.{ℕ, zero, suc, ◌+◌, ◌-◌, ◌/◌, ◌<◌, ◌≤◌}
use native.Mathlib.Nat.{zero-add, suc-add, sub-zero}
use native.Mathlib.Numerals.{add-one}
use native.Mathlib.Omega.{arith}
use borrow.Rule.Slice.PartMut.{put_mid}
use lib.ListN.{length, take, drop, length-append}
use lib.Seq.{length-take-le, take-take, take-append-le, take-append-add, take_at}
use Rattle.keccak.specs.Keccak.{keccak_f}
use Rattle.keccak.specs.Strings.{bytes}
use Rattle.sponge.specs.Shake.{squeezed}
use Rattle.sponge.specs.Resume.{output}
use Rattle.sponge.specs.Draw.{length-squeezed}

-- the state after n permutations
permuted : ℕ → List ℕ → List ℕ
permuted zero a = a
permuted (suc n) a = permuted n (keccak_f a)

squeezed-add : (n k : ℕ) (a : List ℕ) → squeezed (n + k) a ≡ squeezed n a ++ squeezed k (permuted n a)
unfolding squeezed permuted
squeezed-add zero k a = ap (λ (i : ℕ). squeezed i a) (zero-add k)
squeezed-add (suc n) k a =
    ap (λ (i : ℕ). squeezed i a) (suc-add n k)
    ∙ ap (λ (l : List ℕ). take 136 (bytes a) ++ l) (squeezed-add n k (keccak_f a))
    ∙ sym (append_assoc (take 136 (bytes a)) (squeezed n (keccak_f a)) (squeezed k (permuted n (keccak_f a))))

-- shorter output is the front of longer
pub output_front : (a : List ℕ) (k n : ℕ) → k ≤ n → take k (output a n) ≡ output a k
unfolding output
output_front a k n h =
    let i : ℕ = k / 136 + 1 in
    let j : ℕ = n / 136 - k / 136 in
    let sum : n / 136 + 1 ≡ i + j = omega arith in
    take-take k n (squeezed (n / 136 + 1) a) h
    ∙ ap (take k) (ap (λ (b : ℕ). squeezed b a) sum ∙ squeezed-add i j a)
    ∙ take-append-le k (squeezed i a) (squeezed j (permuted i a)) (omega (arith, length-squeezed i a))

-- one block is enough for 136 bytes
output_block : (a : List ℕ) (d : ℕ) → d ≤ 136 → take d (bytes a) ≡ output a d
unfolding output squeezed
output_block a d h =
    sym
    (ap (λ (n : ℕ). take d (squeezed n a)) (add-one (d / 136))
    ∙ take-append-le d (take 136 (bytes a)) (squeezed (d / 136) (keccak_f a)) h
    ∙ take-take d 136 (bytes a) h)

-- ---- a loop that fills d bytes

-- with the first `at` of them in `out`, the blocks from the state a on are those still to come of the blocks from s on
abbrev pub Begun : List ℕ → ℕ → List ℕ → ℕ → List ℕ → Type 0
Begun s d out at a = take at out ++ squeezed ((d - at) / 136 + 1) a ≡ squeezed (d / 136 + 1) s

pub output_none : (s : List ℕ) (d : ℕ) (out : List ℕ) → Begun s d out 0 s
output_none s d out = ap (λ (n : ℕ). squeezed (n / 136 + 1) s) (sub-zero d)

module _ (s : List ℕ) (d : ℕ) (out : List ℕ) (at : ℕ) (a : List ℕ) (full : length out ≡ d) (inside : at ≤ d) (begun : Begun s d out at a) where
  size : length (take at out) ≡ at
  size = length-take-le at out (omega arith)

  -- a block more
  pub output_more : (y b : List ℕ) → y ≡ take 136 (bytes a) → b ≡ keccak_f a → at + 136 < d → Begun s d (put_mid at (at + 136 - at) out y) (at + 136) b
  unfolding squeezed
  output_more y b block next more =
      let rest : List ℕ = drop (at + 136 - at) (drop at out) in
      let n : ℕ = (d - (at + 136)) / 136 + 1 in
      let count : suc n ≡ (d - at) / 136 + 1 = omega arith in
      let fits : length (take at out ++ y) ≡ at + 136 = length-append (take at out) y ∙ ap₂ (λ (i j : ℕ). i + j) size (ap length block) in
      ap (λ (l : List ℕ). l ++ squeezed n b)
      (ap (take (at + 136)) (sym (append_assoc (take at out) y rest)) ∙ take_at (take at out ++ y) rest (at + 136) fits)
      ∙ append_assoc (take at out) y (squeezed n b)
      ∙ ap₂ (λ (l c : List ℕ). take at out ++ (l ++ squeezed n c)) block next
      ∙ ap (λ (k : ℕ). take at out ++ squeezed k a) count
      ∙ begun

  -- what is left fits in one block
  pub output-last : d - at ≤ 136 → take at out ++ take (d - at) (bytes a) ≡ output s d
  unfolding output
  output-last few =
      let sum : length (take at out) + (d - at) ≡ d = omega (arith, size) in
      ap (λ (l : List ℕ). take at out ++ l) (output_block a (d - at) few)
      ∙ sym (take-append-add (take at out) (squeezed ((d - at) / 136 + 1) a) (d - at))
      ∙ ap (λ (n : ℕ). take n (take at out ++ squeezed ((d - at) / 136 + 1) a)) sum
      ∙ ap (take d) begun
