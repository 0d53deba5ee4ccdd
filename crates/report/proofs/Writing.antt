-- Bytes written one after the other into a buffer.
use mathlib.Core.Path.{◌≡◌, refl, sym, ap, ap₂, ◌∙◌}
use mathlib.Core.List.{[], ◌∷◌, ◌++◌}
use Prim.Native.Nat.{ℕ, ◌+◌, ◌≤◌, ◌<◌}
use native.Mathlib.Nat.{add-zero, zero-add}
use native.Mathlib.Omega.{arith}
use lib.ListN.{length, set, take, drop, length-append}
use lib.Seq.{length-take-le}
use Rattle.lists.specs.Bytes.{Bytes}
use Rattle.lists.specs.Spliced.{spliced, spliced_none, set-spliced, length-spliced, spliced_more}
use Rattle.report.specs.Written.{written, overwritten}

paired : {m n : ℕ} {x y : Bytes} → m ≡ n → x ≡ y → ◌≡◌ {A = ℕ × Bytes} (m, x) (n, y)
paired e f = ap₂ (λ (n : ℕ) (x : Bytes). (n, x)) e f

pub written_none : (b : Bytes) (at : ℕ) → (at, b) ≡ written b at []
written_none b at = paired (sym (add-zero at)) (spliced_none at b)

pub written_one : (b : Bytes) (at x : ℕ) → at < length b → (at + 1, set b at x) ≡ written b at (x ∷ [])
written_one b at x l = paired {m = at + 1} refl (set-spliced at x b l)

-- where they end, and the length of the buffer
pub written_end : (b : Bytes) (at : ℕ) (t : Bytes) (r : ℕ) (o : Bytes) → (r, o) ≡ written b at t → r ≡ at + length t
written_end b at t r o e = ap (λ (x : ℕ × Bytes). x.0) e

pub written-length : (b : Bytes) (at : ℕ) (t : Bytes) (r : ℕ) (o : Bytes) → at + length t ≤ length b → (r, o) ≡ written b at t → length o ≡ length b
written-length b at t r o room e = ap (λ (x : ℕ × Bytes). length x.1) e ∙ length-spliced at (length t) t b refl room

-- what is left of the room for n bytes after bytes t
pub left_over : (b : Bytes) (at : ℕ) (t : Bytes) (r : ℕ) (o : Bytes) (n m : ℕ) → at + n ≤ length b → length t + m ≤ n → (r, o) ≡ written b at t → r + m ≤ length o
left_over b at t r o n m room few e = omega (arith, written_end b at t r o e, written-length b at t r o (omega arith) e)

-- bytes t, and from the place after them bytes u
pub written_more : (b : Bytes) (at : ℕ) (t u : Bytes) (r : ℕ) (o : Bytes) (z : ℕ × Bytes) → at + length t ≤ length b
    → (r, o) ≡ written b at t → z ≡ written o r u → z ≡ written b at (t ++ u)
written_more b at t u r o z room e f =
    let n : at + length t + length u ≡ at + length (t ++ u) = omega (arith, length-append t u) in
    f
    ∙ ap (λ (x : ℕ × Bytes). written x.1 x.0 u) e
    ∙ paired n (spliced_more at (length t) t b refl room (length u) u ∙ ap (λ (k : ℕ). spliced at k (t ++ u) b) (sym (length-append t u)))

-- from place 0
pub written_front : (b t : Bytes) → written b 0 t ≡ overwritten b t
written_front b t = ap (λ (n : ℕ). (n, t ++ drop n b)) (zero-add (length t))

-- the text lies within the buffer: what lending the buffer's front asks
pub front_counts : (b t : Bytes) (r : ℕ) (o : Bytes) → (r, o) ≡ overwritten b t → (r ≤ length o) × (r ≡ length (take r o))
front_counts b t r o e =
    let h : r ≤ length o = omega (arith, ap (λ (x : ℕ × Bytes). x.0) e, ap (λ (x : ℕ × Bytes). length x.1) e, length-append t (drop (length t) b)) in
    (h, sym (length-take-le r o h))
