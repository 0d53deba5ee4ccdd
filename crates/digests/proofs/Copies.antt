-- A part of a row of bytes, copied from another by `copy_from_slice`.
use mathlib.Core.List.{◌++◌, append_assoc}
use mathlib.Core.Path.{◌≡◌, sym, ap, ap₂, ◌∙◌}
use Prim.Native.Nat.{ℕ, ◌+◌, ◌-◌, ◌≤◌}
use native.Mathlib.Omega.{arith}
use borrow.Rule.Slice.PartMut.{put_mid}
use lib.ListN.{length, take, drop, length-drop}
use lib.Seq.{drop-drop, paste, length-paste}
use Rattle.lists.specs.Bytes.{Bytes}

-- from the front of s
pub put_copied : (d s y : Bytes) (to k n : ℕ) → k ≡ n → y ≡ take n s → put_mid to k d y ≡ paste d to s n
put_copied d s y to k n e f =
    ap₂ (λ (u r : Bytes). take to d ++ (u ++ r)) f (drop-drop k to d ∙ ap (λ (j : ℕ). drop (to + j) d) e)
    ∙ sym (append_assoc (take to d) (take n s) (drop (to + n) d))

-- from a place of s on
module _ (d s : Bytes) (to k from n : ℕ) {y : Bytes} (e : k ≡ n) (f : y ≡ take (from + n - from) (drop from s)) where
  pub put_span : put_mid to k d y ≡ paste d to (drop from s) n
  put_span = let j : from + n - from ≡ n = omega arith in put_copied d (drop from s) y to k n e (f ∙ ap (λ (m : ℕ). take m (drop from s)) j)

  pub span_kept : to + n ≤ length d → from + n ≤ length s → length (put_mid to k d y) ≡ length d
  span_kept h l = ap length put_span ∙ length-paste d to (drop from s) n h (omega (arith, length-drop from s))
