-- To absorb by the step of a word is to absorb as FIPS 202 does.
use Rattle.std.specs.Prelude.{◌≡◌, refl, List, ℕ, zero, suc, ◌+◌, ◌*◌, ◌<◌, ◌≤◌, length, get_or, set}
use Rattle.std.proofs.Common.{ap, ◌∙◌, add-one, arith}
use Rattle.std.specs.Int.Bits.{bit_xor}
use Rattle.lists.specs.Tabulate.{filled, fill_more, fill-kept}
use Rattle.keccak.specs.Keccak.{keccak_f}
use Rattle.keccak.specs.State.{length-keccak_f}
use Rattle.keccak.specs.Strings.{word}
use Rattle.sponge.specs.Shake.{xor_block, absorbed}
use Rattle.sponge.specs.Step.{xor_word, xor_words, absorbed_by_words}

-- what lane j has after its step
taken : List ℕ → List ℕ → ℕ → ℕ → ℕ
taken a s at j = bit_xor (get_or a j 0) (word s (at + 8 * j))

words-filled : (n : ℕ) (a s : List ℕ) (at : ℕ) → n ≤ length a → xor_words n a s at ≡ filled (taken a s at) n a
unfolding xor_words xor_word taken
words-filled zero a s at h = refl
words-filled (suc n) a s at h =
    let inside : n < length a = omega arith in
    ap (λ (b : List ℕ). set b n (bit_xor (get_or b n 0) (word s (at + 8 * n)))) (words-filled n a s at (omega arith))
    ∙ ap (λ (x : ℕ). set (filled (taken a s at) n a) n (bit_xor x (word s (at + 8 * n)))) (fill-kept (taken a s at) n a inside)
    ∙ fill_more (taken a s at) n a inside
    ∙ ap (λ (k : ℕ). filled (taken a s at) k a) (add-one n)

-- 17 steps are step 6 of algorithm 8
pub block_by_words : (a s : List ℕ) (at : ℕ) → length a ≡ 25 → xor_words 17 a s at ≡ xor_block a s at
unfolding xor_block taken
block_by_words a s at h = words-filled 17 a s at (omega arith)

length-absorbed : (p : List ℕ) (n : ℕ) → length (absorbed p n) ≡ 25
unfolding absorbed
length-absorbed p zero = refl
length-absorbed p (suc n) = length-keccak_f (xor_block (absorbed p n) p (136 * n))

pub absorbed_by_words_lem : (p : List ℕ) (n : ℕ) → absorbed_by_words p n ≡ absorbed p n
unfolding absorbed_by_words absorbed
absorbed_by_words_lem p zero = refl
absorbed_by_words_lem p (suc n) =
    ap (λ (a : List ℕ). keccak_f (xor_words 17 a p (136 * n))) (absorbed_by_words_lem p n)
    ∙ ap keccak_f (block_by_words (absorbed p n) p (136 * n) (length-absorbed p n))
