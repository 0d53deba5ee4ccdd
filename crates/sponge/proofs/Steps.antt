-- Steps past the end of a string change nothing; so a string of at most a block has gone in once its words have.
use mathlib.Core.Path.{◌≡◌, sym, ap, ◌∙◌}
use mathlib.Core.List.{List}
use Prim.Native.Nat.{ℕ, zero, suc, ◌+◌, ◌*◌, ◌≤◌}
use native.Mathlib.Nat.{add-zero, add-suc, add_comm}
use native.Mathlib.Omega.{arith}
use lib.Bits.{bit_xor, xor_zero_r}
use lib.ListN.{length, get_or, set}
use lib.Seq.{set-get_or}
use Rattle.sponge.specs.Shake.{xor_block}
use Rattle.sponge.specs.Step.{xor_word, xor_words}
use Rattle.sponge.proofs.Step.{block_by_words}
use Rattle.sponge.proofs.Appended.{word_past}

past_step : (a : List ℕ) (x : ℕ) (s : List ℕ) (at : ℕ) → length s ≤ at → xor_word a x s at ≡ a
unfolding xor_word
past_step a x s at h =
    ap (λ (w : ℕ). set a x (bit_xor (get_or a x 0) w)) (word_past s at h) ∙ ap (set a x) (xor_zero_r (get_or a x 0)) ∙ set-get_or a x 0

past_steps : (n k : ℕ) (a s : List ℕ) (at : ℕ) → length s ≤ at + 8 * n → xor_words (n + k) a s at ≡ xor_words n a s at
unfolding xor_words
past_steps n zero a s at h = ap (λ (i : ℕ). xor_words i a s at) (add-zero n)
past_steps n (suc k) a s at h =
    ap (λ (i : ℕ). xor_words i a s at) (add-suc n k)
    ∙ past_step (xor_words (n + k) a s at) (n + k) s (at + 8 * (n + k)) (omega arith)
    ∙ past_steps n k a s at h

pub block_taken : (n : ℕ) (a s : List ℕ) → length a ≡ 25 → length s ≤ 136 → length s ≤ 8 * n → xor_words n a s 0 ≡ xor_block a s 0
block_taken n a s size few all =
    sym (past_steps n 17 a s 0 (omega arith))
    ∙ ap (λ (k : ℕ). xor_words k a s 0) (add_comm n 17)
    ∙ past_steps 17 n a s 0 (omega arith)
    ∙ block_by_words a s 0 size
