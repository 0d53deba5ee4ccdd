-- A counter tried: from the state after a string's full blocks, and by two bytes for any longer draw.
use Rattle.lists.specs.Parts.{mid_tail}
use native.Mathlib.Numerals.{add-one}
use mathlib.Core.Logic.{⊎_elim}
use Rattle.lists.specs.Least.{least}
use native.Mathlib.Nat.{not-suc-le-zero, le_of_suc-le-suc, eq-or-lt_of_le}
use mathlib.Core.Path.{◌≡◌, sym, ap, ◌∙◌, ap₂, subst}
use mathlib.Core.Bool.{Bool, false}
use mathlib.Core.List.{List, [], ◌∷◌, ◌++◌, flatten, append_assoc}
use Prim.Native.Nat.{ℕ, ◌+◌, ◌-◌, ◌*◌, ◌/◌, ◌%◌, ◌^◌, ◌≤◌, ◌<◌}
use native.Mathlib.Omega.{arith}
use lib.Dec.{eqb}
use lib.ListN.{length, take, drop, length-append, length-drop}
use lib.Seq.{take-append-le, take_at, length-take-le}
use Rattle.sponge.specs.Draw.{draw, draw-length, prefix_state, drawn_after}
use Rattle.sponge.proofs.Resumed.{draw_resumed, drawn_front}
use Rattle.lists.specs.Bytes.{Bytes, length-little_endian}
use Rattle.lists.specs.Spliced.{spliced}
use Rattle.lists.specs.Tabulate.{tabulate, length-tabulate}
use Rattle.lists.specs.Tests.{all}
use Rattle.fiat_shamir.specs.Offline.{most_bits}
use Rattle.fiat_shamir.specs.Draw.{bits, qualifies}
use Rattle.fiat_shamir.specs.Prove.{counter_length, counter_bytes}
use Rattle.counter_search.specs.Tried.{tried, tried_after}

-- a shorter draw begins a longer one
draw_front : (m : Bytes) (k n : ℕ) → k ≤ n → take k (draw m n) ≡ draw m k
draw_front m k n h =
    ap (take k) (sym (draw_resumed [] m n)) ∙ drawn_front (prefix_state []) m k n h ∙ draw_resumed [] m k

-- two bytes have the first 16 bits
abbrev byte_bits : ℕ → List ℕ
byte_bits b = tabulate 8 (λ z. b / 2 ^ (7 - z) % 2)

bits_of : (a b : ℕ) (x : Bytes) → bits (a ∷ b ∷ x) ≡ (byte_bits a ++ byte_bits b) ++ bits x
unfolding bits flatten
bits_of a b x = sym (append_assoc (byte_bits a) (byte_bits b) (bits x))

first_bits : (κ a b : ℕ) (x : Bytes) → κ ≤ 16 → qualifies κ (a ∷ b ∷ x) ≡ all (eqb 0) (take κ (byte_bits a ++ byte_bits b))
unfolding qualifies
first_bits κ a b x k =
    let size : length (byte_bits a ++ byte_bits b) ≡ 16 = length-append (byte_bits a) (byte_bits b) ∙ ap₂ ◌+◌ (length-tabulate 8 (λ z. a / 2 ^ (7 - z) % 2)) (length-tabulate 8 (λ z. b / 2 ^ (7 - z) % 2)) in
    ap (λ (t : List ℕ). all (eqb 0) (take κ t)) (bits_of a b x) ∙ ap (all (eqb 0)) (take-append-le κ (byte_bits a ++ byte_bits b) (bits x) (omega (arith, size)))

two_bytes : (κ : ℕ) (x : Bytes) → κ ≤ 16 → 2 ≤ length x → qualifies κ (take 2 x) ≡ qualifies κ x
two_bytes κ [] k l = absurd (not-suc-le-zero l)
two_bytes κ (a ∷ []) k l = absurd (not-suc-le-zero (le_of_suc-le-suc l))
two_bytes κ (a ∷ b ∷ x) k l = first_bits κ a b [] k ∙ sym (first_bits κ a b x k)

pub tried_is : (κ : ℕ) (string : Bytes) (c n : ℕ) → κ ≤ most_bits → 2 ≤ n → qualifies κ (draw (string ++ counter_bytes c) n) ≡ tried κ string c
unfolding tried
tried_is κ string c n k l =
    let m : Bytes = string ++ counter_bytes c in
    sym (two_bytes κ (draw m n) k (omega (arith, draw-length m n))) ∙ ap (qualifies κ) (draw_front m 2 n l)

-- ---- the tail: what the string has after its full blocks, and the counter

abbrev pub rest_of : Bytes → Bytes
rest_of string = drop (136 * (length string / 136)) string

tail_front : (at : ℕ) (x t : Bytes) → length x ≡ 4 → at + 4 ≤ length t → take (at + 4) (spliced at 4 x t) ≡ take at t ++ x
tail_front at x t e h =
    ap (take (at + 4)) (sym (append_assoc (take at t) x (drop (at + 4) t)))
    ∙ take_at (take at t ++ x) (drop (at + 4) t) (at + 4) (length-append (take at t) x ∙ ap₂ ◌+◌ (length-take-le at t (omega arith)) e)

-- the counter is written after the first `at` bytes, which stay
module _ (κ : ℕ) (a : List ℕ) (c at : ℕ) (t t' : Bytes) (room : at + 4 ≤ length t) (written : t' ≡ spliced at 4 (counter_bytes c) t) where
  pub tail-tried : qualifies κ (drawn_after a (take (at + 4) t') 2) ≡ tried_after κ a (take at t) c
  unfolding tried_after
  tail-tried = ap (λ (y : Bytes). qualifies κ (drawn_after a y 2)) (ap (take (at + 4)) written ∙ tail_front at (counter_bytes c) t (length-little_endian counter_length c) room)

  pub rest_stays : take at t' ≡ take at t
  rest_stays = ap (take at) written ∙ take_at (take at t) (counter_bytes c ++ drop (at + 4) t) at (length-take-le at t (omega arith))

-- none before c, and not c
pub none_next : (f : ℕ → Bool) (c : ℕ) → ((j : ℕ) → j < c → f j ≡ false) → f c ≡ false → (j : ℕ) → j < c + 1 → f j ≡ false
none_next f c h e j l = ⊎_elim (λ (k : j ≡ c). ap f k ∙ e) (λ (k : j < c). h j k) (eq-or-lt_of_le (le_of_suc-le-suc (subst (λ (n : ℕ). j < n) (add-one c) l)))

-- from the state after the string's full blocks, with what is left of it
pub search_is : (κ limit : ℕ) (string rest : Bytes) → rest ≡ rest_of string → least limit (tried_after κ (prefix_state string) rest) ≡ least limit (tried κ string)
unfolding tried_after tried
search_is κ limit string rest e =
    ap (λ (y : Bytes). least limit (tried_after κ (prefix_state string) y)) e ∙ (λ i. least limit (λ c. qualifies κ (draw_resumed string (counter_bytes c) 2 i)))

-- and so the whole draw, from the tail with the counter
pub found-drawn : (string : Bytes) (c at n : ℕ) (t t' : Bytes) → at + 4 ≤ length t → take at t ≡ rest_of string → t' ≡ spliced at 4 (counter_bytes c) t
    → drawn_after (prefix_state string) (take (at + 4) t') n ≡ draw (string ++ counter_bytes c) n
found-drawn string c at n t t' room rest written =
    ap (λ (y : Bytes). drawn_after (prefix_state string) y n)
    (ap (take (at + 4)) written ∙ tail_front at (counter_bytes c) t (length-little_endian counter_length c) room ∙ ap (λ (y : Bytes). y ++ counter_bytes c) rest)
    ∙ draw_resumed string (counter_bytes c) n

-- what is left of the string, taken as a part and written to the front of the tail
pub rest_put : (string room t : Bytes) (from : ℕ) → from ≡ 136 * (length string / 136) → t ≡ spliced 0 (length (take (length string - from) (drop from string))) (take (length string - from) (drop from string)) room
    → take (length string - from) t ≡ rest_of string
rest_put string room t from e h =
    let p : Bytes = take (length string - from) (drop from string) in
    let whole : p ≡ drop from string = mid_tail from string in
    ap (take (length string - from)) h
    ∙ take_at p (drop (0 + length p) room) (length string - from) (ap length whole ∙ length-drop from string)
    ∙ whole ∙ ap (λ (k : ℕ). drop k string) e
