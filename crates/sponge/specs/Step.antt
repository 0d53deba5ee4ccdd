-- The step by which every string goes into the state (No. 3 of document 02), and absorbing by it.
use Rattle.std.specs.Prelude.{◌≡◌, List, ℕ, zero, suc, ◌+◌, ◌*◌, ◌<◌, length, get_or, set, replicate}
use Rattle.std.proofs.Common.{get_or-set_same, get_or-set_other}
use Rattle.std.specs.Int.Bits.{bit_xor}
use Rattle.keccak.specs.Keccak.{keccak_f}
use Rattle.keccak.specs.Strings.{word}

-- the step: lane x ⊕ the next eight bytes of s from `at` on, or those left, as one number (that is `word`), and all other lanes unchanged
unfoldable pub xor_word : List ℕ → ℕ → List ℕ → ℕ → List ℕ
xor_word a x s at = set a x (bit_xor (get_or a x 0) (word s at))

-- n steps: the words of s from `at` on go into lanes 0, 1, .., n - 1
unfoldable pub xor_words : ℕ → List ℕ → List ℕ → ℕ → List ℕ
xor_words zero a s at = a
xor_words (suc n) a s at = xor_word (xor_words n a s at) n s (at + 8 * n)

-- algorithm 8 of FIPS 202, steps 5 and 6, where each block goes in by 17 steps
unfoldable pub absorbed_by_words : List ℕ → ℕ → List ℕ
absorbed_by_words p zero = replicate 25 0
absorbed_by_words p (suc n) = keccak_f (xor_words 17 (absorbed_by_words p n) p (136 * n))

-- ---- what a step leaves in its own lane, and in any other

pub lane-taken : (a : List ℕ) (x : ℕ) (s : List ℕ) (at : ℕ) → x < length a → get_or (xor_word a x s at) x 0 ≡ bit_xor (get_or a x 0) (word s at)
unfolding xor_word
lane-taken a x s at h = get_or-set_same a x (bit_xor (get_or a x 0) (word s at)) 0 h

pub lanes_kept : (a : List ℕ) (x : ℕ) (s : List ℕ) (at y : ℕ) → (y ≡ x → ⊥) → get_or (xor_word a x s at) y 0 ≡ get_or a y 0
unfolding xor_word
lanes_kept a x s at y h = get_or-set_other a x y (bit_xor (get_or a x 0) (word s at)) 0 h
