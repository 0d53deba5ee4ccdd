-- The last block of the padded string, made from the words that the string has of it by two exclusive ors. m is what the string has of the block.
use mathlib.Core.Path.{◌≡◌, refl, sym, ap, ap₂, ◌∙◌}
use mathlib.Core.Bool.{Bool, cond}
use mathlib.Core.List.{List, ◌++◌}
use mathlib.Core.Logic.{⊎_elim}
use Prim.Native.Nat.{ℕ, suc, ◌+◌, ◌-◌, ◌*◌, ◌/◌, ◌%◌, ◌^◌, ◌<◌, ◌≤◌}
use native.Mathlib.Nat.{add_comm, add_assoc, mul_comm, mul-add, mul_left_comm}
use native.Mathlib.Omega.{arith}
use lib.Bits.{bit_xor, xor_zero_r, xor_comm, xor_shifted}
use lib.Dec.{eqb, lit<}
use lib.ListN.{length, get_or, set, take, drop, get_or-append}
use lib.Pow.{pow-add, pow_mono, shl_exact}
use lib.Seq.{set-append_left}
use borrow.Author.Tests.{eq-eqb, ne_eqb}
use Rattle.lists.specs.Tabulate.{tabulate, length-tabulate, get_d_tabulate, tabulate_ext, set-tabulate}
use Rattle.lists.specs.Number.{number, order}
use Rattle.keccak.specs.Strings.{word}
use Rattle.sponge.specs.Shake.{padded, xor_block}
use Rattle.sponge.proofs.Padding.{padding, padded_is, padding_front, padding_whole, padding_middle, padding_end}
use Rattle.sponge.proofs.Appended.{word_before, word_across, word_after, word_past, word_lt}
use Rattle.squeezing.proofs.Shift.{pow-bytes}
use Rattle.keccak.specs.Xor.{xor_assoc}

-- ---- the two exclusive ors: 0x1f after the string's last byte, and the last bit of the block

-- into a word with r bytes of the string
suffix_xor : (w r : ℕ) → r < 8 → w < 2 ^ (r * 8) → bit_xor w (31 * 2 ^ (r * 8) % 2 ^ 64) ≡ w + 256 ^ r * 31
suffix_xor w r b h =
    ap (bit_xor w) (shl_exact 5 (r * 8) 64 (lit< tt) (omega arith))
    ∙ xor_comm w (31 * 2 ^ (r * 8))
    ∙ xor_shifted 31 (r * 8) w h
    ∙ add_comm (31 * 2 ^ (r * 8)) w
    ∙ ap (λ (x : ℕ). w + x) (mul_comm 31 (2 ^ (r * 8)) ∙ ap (λ (x : ℕ). x * 31) (sym (pow-bytes r)))

suffix_lt : (w r : ℕ) → r < 8 → w < 2 ^ (r * 8) → w + 256 ^ r * 31 < 2 ^ 63
suffix_lt w r b h =
    let e : 256 ^ r ≡ 2 ^ (r * 8) = pow-bytes r in
    let le : 2 ^ (r * 8) ≤ 2 ^ 56 = let le₀ : r * 8 ≤ 56 = omega arith in pow_mono le₀ in
    omega arith

last-bit-xor : (s : ℕ) → s < 2 ^ 63 → bit_xor s (2 ^ 63) ≡ s + 2 ^ 63
last-bit-xor s h = xor_comm s (2 ^ 63) ∙ xor_shifted 1 63 s h ∙ add_comm (2 ^ 63) s

last_bit : (r k : ℕ) → r + k ≡ 7 → 256 ^ r * (128 * 256 ^ k) ≡ 2 ^ 63
last_bit r k e = mul_left_comm (256 ^ r) 128 (256 ^ k) ∙ ap (λ (x : ℕ). 128 * x) (sym (pow-add 256 r k)) ∙ ap (λ (x : ℕ). 128 * 256 ^ x) e

-- c at k, and 0 elsewhere
abbrev only : ℕ → ℕ → ℕ → ℕ
only k c j = cond (eqb j k) c 0

here : (k c j : ℕ) → j ≡ k → only k c j ≡ c
here k c j e = ap (λ (b : Bool). cond b c 0) (eq-eqb j k e)

elsewhere : (k c j : ℕ) → (j ≡ k → ⊥) → only k c j ≡ 0
elsewhere k c j h = ap (λ (b : Bool). cond b c 0) (ne_eqb j k h)

-- ---- word j of the block
module _ (m : List ℕ) (j : ℕ) (bytes : (i : ℕ) → get_or m i 0 < 256) (high : length m < 136) (rate : j < 17) where
  abbrev n : ℕ
  n = length m

  abbrev q : ℕ
  q = 0 + 8 * j

  abbrev suffix : ℕ
  suffix = 31 * 2 ^ (n % 8 * 8) % 2 ^ 64

  abbrev Right : Type 0
  Right = word (m ++ padding (suc (135 - n))) q ≡ bit_xor (bit_xor (word m q) (only (n / 8) suffix j)) (only 16 (2 ^ 63) j)

  -- what the two add to this word
  both : (x y : ℕ) → only (n / 8) suffix j ≡ x → only 16 (2 ^ 63) j ≡ y
      → bit_xor (bit_xor (word m q) x) y ≡ bit_xor (bit_xor (word m q) (only (n / 8) suffix j)) (only 16 (2 ^ 63) j)
  both x y d e = sym (ap₂ (λ (u v : ℕ). bit_xor (bit_xor (word m q) u) v) d e)

  -- a word of m alone
  of_string : q + 8 ≤ length m → Right
  of_string h =
      word_before m (padding (suc (135 - n))) q h
      ∙ sym (xor_zero_r (bit_xor (word m q) 0) ∙ xor_zero_r (word m q))
      ∙ both 0 0 (elsewhere (n / 8) suffix j (λ d. omega arith)) (elsewhere 16 (2 ^ 63) j (λ d. omega arith))

  -- the word in which the padding begins
  module _ (h : q ≤ length m) (l : length m < q + 8) where
    with_suffix : bit_xor (word m q) suffix ≡ word m q + 256 ^ (n % 8) * 31
    with_suffix = suffix_xor (word m q) (n % 8) (omega arith) (word_lt m q (n % 8) bytes (omega arith) (omega arith))

    sum : (t : ℕ) → number 256 (take (8 - n % 8) (padding (suc (135 - n)))) ≡ t
        → word (m ++ padding (suc (135 - n))) q ≡ word m q + 256 ^ (n % 8) * t
    sum t e =
        let r : length m - q ≡ n % 8 = omega arith in
        word_across m (padding (suc (135 - n))) q h l
        ∙ ap (λ (k : ℕ). word m q + 256 ^ k * number 256 (take (8 - k) (padding (suc (135 - n))))) r
        ∙ ap (λ (x : ℕ). word m q + 256 ^ (n % 8) * x) e

    begins_last : j ≡ 16 → Right
    begins_last e =
        let k : ℕ = 135 - n in
        let r : ℕ = n % 8 in
        let whole : 8 - r ≡ suc k = omega arith in
        sum (31 + 128 * 256 ^ k) (ap (λ (t : ℕ). number 256 (take t (padding (suc k)))) whole ∙ padding_whole k)
        ∙ ap (λ (x : ℕ). word m q + x) (mul-add (256 ^ r) 31 (128 * 256 ^ k) ∙ ap (λ (x : ℕ). 256 ^ r * 31 + x) (last_bit r k (omega arith)))
        ∙ sym (add_assoc (word m q) (256 ^ r * 31) (2 ^ 63))
        ∙ sym (last-bit-xor (word m q + 256 ^ r * 31) (suffix_lt (word m q) r (omega arith) (word_lt m q r bytes (omega arith) (omega arith))))
        ∙ ap (λ (x : ℕ). bit_xor x (2 ^ 63)) (sym with_suffix)
        ∙ both suffix (2 ^ 63) (here (n / 8) suffix j (omega arith)) (here 16 (2 ^ 63) j e)

    begins : j < 16 → Right
    begins e =
        sum 31 (padding_front (8 - n % 8) (135 - n) (omega arith) (omega arith))
        ∙ sym with_suffix
        ∙ sym (xor_zero_r (bit_xor (word m q) suffix))
        ∙ both suffix 0 (here (n / 8) suffix j (omega arith)) (elsewhere 16 (2 ^ 63) j (λ d. omega arith))

  -- a word of the padding alone
  module _ (l : length m < q) where
    of_padding : (t : ℕ) → number 256 (take 8 (drop (q - length m) (padding (suc (135 - n))))) ≡ t → only 16 (2 ^ 63) j ≡ t → Right
    of_padding t d e =
        word_after m (padding (suc (135 - n))) q (omega arith)
        ∙ d
        ∙ ap (λ (w : ℕ). bit_xor (bit_xor w 0) t) (sym (word_past m q (omega arith)))
        ∙ both 0 t (elsewhere (n / 8) suffix j (λ f. omega arith)) e

    ends : j ≡ 16 → Right
    ends e = of_padding (2 ^ 63) (padding_end (q - length m) (135 - n) (omega arith) (omega arith)) (here 16 (2 ^ 63) j e)

    zeros : j < 16 → Right
    zeros e = of_padding 0 (padding_middle (q - length m) (135 - n) (omega arith) (omega arith)) (elsewhere 16 (2 ^ 63) j (λ d. omega arith))

  padded-word : Right
  padded-word =
      ⊎_elim of_string
      (λ l.
      ⊎_elim
      (λ h. ⊎_elim (λ e. begins_last h (omega arith) (omega arith)) (λ e. begins h (omega arith) e) (order 16 j))
      (λ h. ⊎_elim (λ e. ends h (omega arith)) (λ e. zeros h e) (order 16 j))
      (order q (length m)))
      (order (q + 8) (length m))

-- ---- the whole block

-- entry k ⊕ c
xor-entry : (f : ℕ → ℕ) (n k c : ℕ) (d : List ℕ) → k < n
    → set (tabulate n f ++ d) k (bit_xor (get_or (tabulate n f ++ d) k 0) c) ≡ tabulate n (λ j. bit_xor (f j) (only k c j)) ++ d
xor-entry f n k c d b =
    let size : length (tabulate n f) ≡ n = length-tabulate n f in
    let inside : k < length (tabulate n f) = omega arith in
    let entry : get_or (tabulate n f ++ d) k 0 ≡ f k = get_or-append (tabulate n f) d 0 k inside ∙ get_d_tabulate n f k b in
    let g : ℕ → ℕ = λ j. bit_xor (f j) (only k c j) in
    let there : g k ≡ bit_xor (f k) c = ap (bit_xor (f k)) (here k c k refl) in
    let other : (j : ℕ) → (j ≡ k → ⊥) → f j ≡ g j = λ j h. sym (ap (bit_xor (f j)) (elsewhere k c j h) ∙ xor_zero_r (f j)) in
    ap (λ (x : ℕ). set (tabulate n f ++ d) k (bit_xor x c)) entry
    ∙ set-append_left (tabulate n f) d k (bit_xor (f k) c) inside
    ∙ ap (λ (l : List ℕ). l ++ d) (set-tabulate n k (bit_xor (f k) c) f g b there other)

-- the string's words, and then 0x1f and the last bit
pub last_block : (a m : List ℕ) → ((i : ℕ) → get_or m i 0 < 256) → length m < 136
    → (let n = length m in let b = xor_block a m 0 in
    let c = set b (n / 8) (bit_xor (get_or b (n / 8) 0) (31 * 2 ^ (n % 8 * 8) % 2 ^ 64)) in
    set c 16 (bit_xor (get_or c 16 0) (2 ^ 63)) ≡ xor_block a (padded m) 0)
unfolding xor_block
last_block a m bytes high =
    let n : ℕ = length m in
    let x : ℕ = 31 * 2 ^ (n % 8 * 8) % 2 ^ 64 in
    let f : ℕ → ℕ = λ j. bit_xor (get_or a j 0) (word m (0 + 8 * j)) in
    let g : ℕ → ℕ = λ j. bit_xor (f j) (only (n / 8) x j) in
    let size : 136 - length m % 136 ≡ suc (135 - n) = omega arith in
    let p : List ℕ = m ++ padding (suc (135 - n)) in
    ap (λ (l : List ℕ). set l 16 (bit_xor (get_or l 16 0) (2 ^ 63))) (xor-entry f 17 (n / 8) x (drop 17 a) (omega arith))
    ∙ xor-entry g 17 16 (2 ^ 63) (drop 17 a) (lit< tt)
    ∙ ap (λ (l : List ℕ). l ++ drop 17 a)
    (tabulate_ext 17 (λ j. bit_xor (g j) (only 16 (2 ^ 63) j)) (λ j. bit_xor (get_or a j 0) (word p (0 + 8 * j)))
    (λ i b.
    ap (λ (y : ℕ). bit_xor y (only 16 (2 ^ 63) i)) (xor_assoc (get_or a i 0) (word m (0 + 8 * i)) (only (n / 8) x i))
    ∙ xor_assoc (get_or a i 0) (bit_xor (word m (0 + 8 * i)) (only (n / 8) x i)) (only 16 (2 ^ 63) i)
    ∙ ap (bit_xor (get_or a i 0)) (sym (padded-word m i bytes high b))))
    ∙ ap (λ (l : List ℕ). xor_block a l 0) (sym (padded_is m ∙ ap (λ (k : ℕ). m ++ padding k) size))
