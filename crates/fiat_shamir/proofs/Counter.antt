-- The leaf draw: what its string holds, how long it is, and which counters qualify.
use mathlib.Core.Path.{◌≡◌, refl, sym, ap, ◌∙◌, subst}
use mathlib.Core.Bool.{◌&&◌}
use mathlib.Core.Logic.{⊎_elim}
use mathlib.Core.List.{List, [], ◌∷◌, ◌++◌, flatten}
use Prim.Native.Nat.{ℕ, zero, suc, ◌+◌, ◌-◌, ◌*◌, ◌/◌, ◌%◌, ◌^◌, ◌≤◌, ◌<◌}
use native.Mathlib.Nat.{not-suc-le-zero, le_of_suc-le-suc, sub-zero, suc-sub-suc, pow-suc, pow-le-pow_right, div-eq_of_lt, div-eq_of_lt-le, div-div-eq-div-mul, add-mul-div_left, le_trans}
use native.Mathlib.Omega.{arith}
use lib.Dec.{ltb, eqb}
use lib.ListN.{length, take, drop}
use lib.Seq.{take_at, drop_at, take-append-le}
use borrow.Author.Tests.{lt-ltb, le-ltb}
use Rattle.sponge.specs.Draw.{draw-length}
use Rattle.lists.specs.Number.{order}
use Rattle.lists.specs.Bytes.{Bytes}
use Rattle.lists.specs.Tests.{all}
use Rattle.scheme.specs.Question.{header_sizes}
use Rattle.fiat_shamir.specs.Draw.{draw_string, ranks_at, leaf_draw, bits, qualifies}

-- ---- equal strings hold the same question, answers and counter

split : (x x' y y' : Bytes) → length x ≡ length x' → x ++ y ≡ x' ++ y' → (x ≡ x') × (y ≡ y')
split x x' y y' l e = (
  sym (take_at x y (length x) refl) ∙ ap (take (length x)) e ∙ take_at x' y' (length x) (sym l),
  sym (drop_at x y (length x) refl) ∙ ap (drop (length x)) e ∙ drop_at x' y' (length x) (sym l),
)

pub draw_string_holds : (b b' answers answers' counter counter' : Bytes) → length b ≡ length b' → length answers ≡ length answers'
    → draw_string b answers counter ≡ draw_string b' answers' counter' → (b ≡ b') × (answers ≡ answers') × (counter ≡ counter')
unfolding draw_string
draw_string_holds b b' a a' c c' lb la e =
    let h = split b b' (a ++ c) (a' ++ c') lb (ap (drop 1) e) in
    let k = split a a' c c' la h.1 in
    (h.0, k.0, k.1)

-- ---- its length

pub leaf_draw-length : (b answers counter : Bytes) → length (leaf_draw b answers counter) ≡ ranks_at + 8 * (header_sizes b).ℓ
unfolding leaf_draw
leaf_draw-length b answers counter = draw-length (draw_string b answers counter) (ranks_at + 8 * (header_sizes b).ℓ)

-- ---- the first κ bits are zero exactly when the first two bytes, the first of them on top, are a number below 2^(16 - κ)

-- the k lowest bits of a number, the top one first
top_bits : ℕ → ℕ → List ℕ
top_bits zero n = []
top_bits (suc k) n = (n / 2 ^ k % 2) ∷ top_bits k n

first_bits : (k n κ : ℕ) → κ ≤ k → n < 2 ^ k → all (eqb 0) (take κ (top_bits k n)) ≡ ltb n (2 ^ (k - κ))
unfolding all top_bits
first_bits k n zero l h = sym (lt-ltb n (2 ^ (k - zero)) (subst (λ (j : ℕ). n < 2 ^ j) (sym (sub-zero k)) h))
first_bits zero n (suc κ) l h = absurd (not-suc-le-zero l)
first_bits (suc k) n (suc κ) l h = ⊎_elim
    (λ (a : 2 ^ k ≤ n).
    let one : n / 2 ^ k ≡ 1 = div-eq_of_lt-le (2 ^ k) (omega arith) (omega (arith, pow-suc 2 k)) in
    ap (λ (t : ℕ). eqb 0 (t % 2) && all (eqb 0) (take κ (top_bits k n))) one
    ∙ sym (le-ltb n (2 ^ (suc k - suc κ)) (le_trans (pow-le-pow_right (omega arith) (omega arith)) a)))
    (λ (b : n < 2 ^ k).
    ap (λ (t : ℕ). eqb 0 (t % 2) && all (eqb 0) (take κ (top_bits k n))) (div-eq_of_lt b)
    ∙ first_bits k n κ (le_of_suc-le-suc l) b
    ∙ ap (λ (j : ℕ). ltb n (2 ^ j)) (sym (suc-sub-suc k κ)))
    (order (2 ^ k) n)

-- bit z of the first byte is bit 8 + z of both, bit z of the second is bit z of both
high : (k a b : ℕ) → b < 256 → (256 * a + b) / (256 * k) % 2 ≡ a / k % 2
high k a b l =
    let front : (256 * a + b) / 256 ≡ a = omega arith in
    ap (λ (t : ℕ). t % 2) (sym (div-div-eq-div-mul (256 * a + b) 256 k)) ∙ ap (λ (t : ℕ). t / k % 2) front

low : (k c a b : ℕ) → 0 < k → k * (2 * c) ≡ 256 → (256 * a + b) / k % 2 ≡ b / k % 2
low k c a b p e =
    ap (λ (n : ℕ). n / k % 2) (ap (λ (t : ℕ). t * a + b) (sym e) ∙ omega arith)
    ∙ ap (λ (n : ℕ). n % 2) (add-mul-div_left b (2 * c * a) p)
    ∙ omega arith

two_bytes-bits : (a b : ℕ) (x : Bytes) → b < 256 → bits (a ∷ b ∷ x) ≡ top_bits 16 (256 * a + b) ++ bits x
unfolding bits flatten top_bits
two_bytes-bits a b x l =
    λ i. sym (high 128 a b l) i ∷ sym (high 64 a b l) i ∷ sym (high 32 a b l) i ∷ sym (high 16 a b l) i
    ∷ sym (high 8 a b l) i ∷ sym (high 4 a b l) i ∷ sym (high 2 a b l) i ∷ sym (high 1 a b l) i
    ∷ sym (low 128 1 a b (omega arith) refl) i ∷ sym (low 64 2 a b (omega arith) refl) i ∷ sym (low 32 4 a b (omega arith) refl) i ∷ sym (low 16 8 a b (omega arith) refl) i
    ∷ sym (low 8 16 a b (omega arith) refl) i ∷ sym (low 4 32 a b (omega arith) refl) i ∷ sym (low 2 64 a b (omega arith) refl) i ∷ sym (low 1 128 a b (omega arith) refl) i ∷ bits x

top_bits-length : (k n : ℕ) → length (top_bits k n) ≡ k
unfolding top_bits
top_bits-length zero n = refl
top_bits-length (suc k) n = ap suc (top_bits-length k n)

pub qualifies-number : (κ a b : ℕ) (x : Bytes) → a < 256 → b < 256 → κ ≤ 16 → qualifies κ (a ∷ b ∷ x) ≡ ltb (256 * a + b) (2 ^ (16 - κ))
unfolding qualifies
qualifies-number κ a b x la lb l =
    ap (λ (t : List ℕ). all (eqb 0) (take κ t)) (two_bytes-bits a b x lb)
    ∙ ap (all (eqb 0)) (take-append-le κ (top_bits 16 (256 * a + b)) (bits x) (subst (λ (n : ℕ). κ ≤ n) (sym (top_bits-length 16 (256 * a + b))) l))
    ∙ first_bits 16 (256 * a + b) κ l (omega arith)
