-- A shift by r bytes.
use mathlib.Core.Path.{◌≡◌, refl, sym, ap, ◌∙◌}
use Prim.Native.Nat.{ℕ, zero, suc, ◌*◌, ◌^◌}
use native.Mathlib.Nat.{pow-suc, suc-mul}
use lib.Pow.{pow-add}

pub pow-bytes : (r : ℕ) → 256 ^ r ≡ 2 ^ (r * 8)
pow-bytes zero = refl
pow-bytes (suc r) = pow-suc 256 r ∙ ap (λ (x : ℕ). x * 256) (pow-bytes r) ∙ sym (ap (λ (x : ℕ). 2 ^ x) (suc-mul r 8) ∙ pow-add 2 (r * 8) 8)
