-- Strings absorbed one after the other, the first of full blocks; and so SHAKE256 from the state after a prefix's full blocks.
use mathlib.Core.Path.{◌≡◌, refl, sym, ap, ap₂, ◌∙◌}
use mathlib.Core.List.{List, ◌++◌, append_assoc}
use Prim.Native.Nat.{ℕ, zero, suc, ◌+◌, ◌-◌, ◌*◌, ◌/◌, ◌%◌, ◌≤◌}
use native.Mathlib.Nat.{add-zero, add-suc}
use native.Mathlib.Omega.{arith}
use lib.ListN.{length, take, drop, replicate, length-append, take-append-drop}
use lib.Seq.{length-take-le}
use Rattle.keccak.specs.Keccak.{keccak_f}
use Rattle.keccak.specs.State.{length-keccak_f}
use Rattle.sponge.specs.Shake.{padded, xor_block, absorbed, shake256}
use Rattle.sponge.specs.Resume.{absorbed_from, finished, output}
use Rattle.sponge.specs.Draw.{draw, prefix_state, drawn_after, draw_is, prefix_state_is, drawn_after_is}
use Rattle.sponge.proofs.Padding.{padding, padded_is}
use Rattle.sponge.proofs.Blocks.{block_before, block_after}
use Rattle.sponge.proofs.Squeezed.{output_front}

-- the state of 25 zeros, which step 5 of algorithm 8 begins with
abbrev pub empty : List ℕ
empty = replicate 25 0

pub absorbed_from_lem : (p : List ℕ) (n : ℕ) → absorbed_from empty p n ≡ absorbed p n
unfolding absorbed_from absorbed
absorbed_from_lem p zero = refl
absorbed_from_lem p (suc n) = ap (λ (s : List ℕ). keccak_f (xor_block s p (136 * n))) (absorbed_from_lem p n)

pub length-absorbed_from : (a p : List ℕ) (n : ℕ) → length a ≡ 25 → length (absorbed_from a p n) ≡ 25
unfolding absorbed_from
length-absorbed_from a p zero h = h
length-absorbed_from a p (suc n) h = length-keccak_f (xor_block (absorbed_from a p n) p (136 * n))

-- one block more
pub next_block : (a p : List ℕ) (at : ℕ) → at % 136 ≡ 0 → keccak_f (xor_block (absorbed_from a p (at / 136)) p at) ≡ absorbed_from a p ((at + 136) / 136)
unfolding absorbed_from
next_block a p at h =
    let start : at ≡ 136 * (at / 136) = omega arith in
    let count : suc (at / 136) ≡ (at + 136) / 136 = omega arith in
    ap (λ (k : ℕ). keccak_f (xor_block (absorbed_from a p (at / 136)) p k)) start ∙ ap (absorbed_from a p) count

-- ---- two strings

-- blocks that the first fills
from_front : (a m p : List ℕ) (n : ℕ) → 136 * n ≤ length m → absorbed_from a m n ≡ absorbed_from a (m ++ p) n
unfolding absorbed_from
from_front a m p zero h = refl
from_front a m p (suc n) h =
    ap keccak_f
    (block_before (absorbed_from a m n) m p (136 * n) (omega arith) ∙ ap (λ (s : List ℕ). xor_block s (m ++ p) (136 * n)) (from_front a m p n (omega arith)))

-- the first of k blocks, then n blocks of the second
from_append : (a m p : List ℕ) (k n : ℕ) → length m ≡ 136 * k → absorbed_from a (m ++ p) (k + n) ≡ absorbed_from (absorbed_from a m k) p n
unfolding absorbed_from
from_append a m p k zero h = ap (absorbed_from a (m ++ p)) (add-zero k) ∙ sym (from_front a m p k (omega arith))
from_append a m p k (suc n) h =
    let place : 136 * (k + n) ≡ length m + 136 * n = omega arith in
    ap (absorbed_from a (m ++ p)) (add-suc k n)
    ∙ ap keccak_f
    (ap₂ (λ (s : List ℕ) (q : ℕ). xor_block s (m ++ p) q) (from_append a m p k n h) place ∙ block_after (absorbed_from (absorbed_from a m k) p n) m p (136 * n))

-- the full blocks of the padded string are the string's
pub from_padded : (a m : List ℕ) (n : ℕ) → 136 * n ≤ length m → absorbed_from a m n ≡ absorbed_from a (padded m) n
from_padded a m n h = from_front a m (padding (136 - length m % 136)) n h ∙ ap (λ (l : List ℕ). absorbed_from a l n) (sym (padded_is m))

-- the padding goes by the length past full blocks
padded-append : (m t : List ℕ) (k : ℕ) → length m ≡ 136 * k → padded (m ++ t) ≡ m ++ padded t
padded-append m t k h =
    let same : length (m ++ t) % 136 ≡ length t % 136 = omega (arith, length-append m t) in
    padded_is (m ++ t)
    ∙ ap (λ (r : ℕ). (m ++ t) ++ padding (136 - r)) same
    ∙ append_assoc m t (padding (136 - length t % 136))
    ∙ ap (λ (l : List ℕ). m ++ l) (sym (padded_is t))

finished-append : (m t : List ℕ) (k : ℕ) → length m ≡ 136 * k → finished (absorbed m k) t ≡ absorbed (padded (m ++ t)) (length (padded (m ++ t)) / 136)
unfolding finished
finished-append m t k h =
    let n : ℕ = length (padded t) / 136 in
    let size : length (padded (m ++ t)) ≡ length m + length (padded t) = ap length (padded-append m t k h) ∙ length-append m (padded t) in
    let count : k + n ≡ length (padded (m ++ t)) / 136 = omega (arith, size) in
    ap (λ (s : List ℕ). absorbed_from s (padded t) n) (sym (absorbed_from_lem m k))
    ∙ sym (from_append empty m (padded t) k n h)
    ∙ ap₂ (absorbed_from empty) (sym (padded-append m t k h)) count
    ∙ absorbed_from_lem (padded (m ++ t)) (length (padded (m ++ t)) / 136)

-- a string alone
finished-alone : (m : List ℕ) → finished empty m ≡ absorbed (padded m) (length (padded m) / 136)
unfolding finished
finished-alone m = absorbed_from_lem (padded m) (length (padded m) / 136)

pub draw-alone : (m : List ℕ) (n : ℕ) → drawn_after empty m n ≡ draw m n
unfolding output shake256
draw-alone m n = drawn_after_is empty m n ∙ ap (λ (a : List ℕ). output a n) (finished-alone m) ∙ sym (draw_is m n)

-- ---- for callers

-- the state after the full blocks of p, then the rest of p and any t: the output for p and t
pub draw_resumed : (p t : List ℕ) (n : ℕ) → drawn_after (prefix_state p) (drop (136 * (length p / 136)) p ++ t) n ≡ draw (p ++ t) n
unfolding output shake256
draw_resumed p t n =
    let k : ℕ = length p / 136 in
    let m : List ℕ = take (136 * k) p in
    let r : List ℕ = drop (136 * k) p in
    let size : length m ≡ 136 * k = length-take-le (136 * k) p (omega arith) in
    let parts : m ++ r ≡ p = take-append-drop (136 * k) p in
    let front : absorbed p k ≡ absorbed m k =
    sym (absorbed_from_lem p k) ∙ ap (λ (l : List ℕ). absorbed_from empty l k) (sym parts) ∙ sym (from_front empty m r k (omega (arith, size))) ∙ absorbed_from_lem m k in
    drawn_after_is (prefix_state p) (r ++ t) n
    ∙ ap (λ (a : List ℕ). output (finished a (r ++ t)) n) (prefix_state_is p ∙ front)
    ∙ ap (λ (a : List ℕ). output a n) (finished-append m (r ++ t) k size)
    ∙ ap (λ (l : List ℕ). shake256 l n) (sym (append_assoc m r t) ∙ ap (λ (l : List ℕ). l ++ t) parts)
    ∙ sym (draw_is (p ++ t) n)

-- shorter output is the front of longer
pub drawn_front : (a t : List ℕ) (k n : ℕ) → k ≤ n → take k (drawn_after a t n) ≡ drawn_after a t k
drawn_front a t k n h = ap (take k) (drawn_after_is a t n) ∙ output_front (finished a t) k n h ∙ sym (drawn_after_is a t k)
