-- An array literal against a list that computes, entry by entry.
use mathlib.Core.Path.{◌≡◌, ap₂}
use mathlib.Core.List.{List, ◌∷◌}
use Prim.Native.Nat.{ℕ}

pub cons : {x y : ℕ} {s t : List ℕ} → x ≡ y → s ≡ t → x ∷ s ≡ y ∷ t
cons p q = ap₂ (λ (a : ℕ) (r : List ℕ). a ∷ r) p q
