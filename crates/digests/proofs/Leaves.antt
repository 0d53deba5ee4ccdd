-- The leaf string as `leaf_string` writes it, and what `node_buffer` writes.
use mathlib.Core.List.{[], ◌∷◌, ◌++◌}
use mathlib.Core.Path.{◌≡◌, refl, ap, ap₂, ◌∙◌}
use Prim.Native.Nat.{ℕ, ◌+◌, ◌/◌, ◌≤◌, ◌%◌}
use native.Mathlib.Nat.{not-suc-le-zero, le_of_eq}
use native.Mathlib.Omega.{arith}
use lib.ListN.{length, take, set, length-set}
use lib.Seq.{paste, take-paste, length-paste, take-length, take_all, take-suc-set, append_snoc}
use Rattle.lists.specs.Bytes.{Bytes, little_endian}
use Rattle.tree.specs.Leaf.{leaf_string, salt_length, prefix_length, record_start}

-- a buffer whose first byte is there, with the salt behind it
pub salted_front : (buf salt : Bytes) → 1 ≤ length buf → length salt ≡ salt_length → take prefix_length (paste buf 1 salt salt_length) ≡ take 1 buf ++ salt
salted_front buf salt h e =
    take-paste buf 1 salt salt_length h (omega arith) ∙ ap (λ (x : Bytes). take 1 buf ++ x) (take_all salt_length salt (le_of_eq e))

first_set : (buf : Bytes) (v : ℕ) → 1 ≤ length buf → take 1 (set buf 0 v) ≡ v ∷ []
first_set [] v h = absurd (not-suc-le-zero h)
first_set (x ∷ buf) v h = refl

-- the buffer with 0x00 and the salt, and then with the index, too
abbrev salted : Bytes → Bytes → Bytes
salted buf salt = paste (set buf 0 0) 1 salt salt_length

abbrev pub marked : Bytes → Bytes → ℕ → Bytes
marked buf salt i = set (set (salted buf salt) prefix_length (i % 256)) (prefix_length + 1) (i / 256 % 256)

module _ (buf salt : Bytes) (i : ℕ) (e : length salt ≡ salt_length) (h : record_start ≤ length buf) where
  salted-length : length (salted buf salt) ≡ length buf
  salted-length = length-paste (set buf 0 0) 1 salt salt_length (omega (arith, length-set buf 0 0)) (omega arith) ∙ length-set buf 0 0

  marked-length : length (marked buf salt i) ≡ length buf
  marked-length =
      length-set (set (salted buf salt) prefix_length (i % 256)) (prefix_length + 1) (i / 256 % 256)
      ∙ length-set (salted buf salt) prefix_length (i % 256) ∙ salted-length

  marked_front : take record_start (marked buf salt i) ≡ ((0 ∷ salt) ++ (i % 256 ∷ [])) ++ (i / 256 % 256 ∷ [])
  marked_front =
      let x : Bytes = salted buf salt in
      take-suc-set (set x prefix_length (i % 256)) (prefix_length + 1) (i / 256 % 256) (omega (arith, salted-length, length-set x prefix_length (i % 256)))
      ∙ ap (λ (y : Bytes). y ++ (i / 256 % 256 ∷ []))
      (take-suc-set x prefix_length (i % 256) (omega (arith, salted-length))
      ∙ ap (λ (y : Bytes). y ++ (i % 256 ∷ []))
      (salted_front (set buf 0 0) salt (omega (arith, length-set buf 0 0)) e ∙ ap (λ (y : Bytes). y ++ salt) (first_set buf 0 (omega arith))))

pub leaf_string_is : (buf salt leaf : Bytes) (i : ℕ) → length salt ≡ salt_length → record_start + length leaf ≤ length buf
    → take (record_start + length leaf) (paste (marked buf salt i) record_start leaf (length leaf)) ≡ leaf_string salt i leaf
unfolding leaf_string little_endian
leaf_string_is buf salt leaf i e h =
    let n : record_start ≤ length buf = omega arith in
    take-paste (marked buf salt i) record_start leaf (length leaf) (omega (arith, marked-length buf salt i e n)) (omega arith)
    ∙ ap₂ (λ (x y : Bytes). x ++ y) (marked_front buf salt i e n) (take-length leaf)
    ∙ append_snoc ((0 ∷ salt) ++ (i % 256 ∷ [])) (i / 256 % 256) leaf
    ∙ append_snoc (0 ∷ salt) (i % 256) (i / 256 % 256 ∷ leaf)
