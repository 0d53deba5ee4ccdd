-- Sizes as the code reckons with them.
use mathlib.Core.Path.{◌≡◌, sym, ap, ◌∙◌}
use mathlib.Core.Bool.{Bool, true, false, ◌&&◌}
use mathlib.Core.Logic.{⊎_elim}
use Prim.Native.Nat.{ℕ, ◌+◌, ◌-◌, ◌*◌, ◌^◌, ◌≤◌, ◌<◌}
use native.Mathlib.Nat.{mul-le-mul}
use native.Mathlib.Omega.{arith}
use lib.Dec.{leb}
use borrow.Author.Tests.{leb-true, leb-false, le-leb, lt-leb}
use Rattle.lists.specs.Choice.{tested, and_right}
use Rattle.lists.specs.Tests.{within, within_high}

-- the product of two 32-bit numbers
pub product_fits : (a b : ℕ) → a < 2 ^ 32 → b < 2 ^ 32 → a * b ≤ 4294967295 * 4294967295
product_fits a b h k = mul-le-mul {n₂ = 4294967295} {m₂ = 4294967295} (omega arith) (omega arith)

-- a sum compared without being formed
less_compared : (a b n : ℕ) → b ≤ n → leb a (n - b) ≡ leb (a + b) n
less_compared a b n h =
    ⊎_elim
    (λ (e : leb a (n - b) ≡ true). let k : a ≤ n - b = leb-true a (n - b) e in e ∙ sym (le-leb (a + b) n (omega arith)))
    (λ (e : leb a (n - b) ≡ false). let k : n - b < a = leb-false a (n - b) e in e ∙ sym (lt-leb (a + b) n (omega arith)))
    (tested (leb a (n - b)))

-- the tests of β, where its range is known
pub blinding_is : (μ β : ℕ) (r : Bool) → within 0 16 β ≡ true → r ≡ leb β μ && leb μ (64 - β) → r ≡ within 0 16 β && (leb β μ && (leb (μ + β) 64 && true))
blinding_is μ β r e h =
    let low : β ≤ 64 = let k : β ≤ 16 = within_high 0 16 β e in omega arith in
    h ∙ ap (λ (t : Bool). leb β μ && t) (less_compared μ β 64 low ∙ sym (and_right (leb (μ + β) 64))) ∙ ap (λ (t : Bool). t && (leb β μ && (leb (μ + β) 64 && true))) (sym e)
