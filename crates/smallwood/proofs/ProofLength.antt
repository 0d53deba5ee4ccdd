-- The proof's length, written after verdict 0 and left as it was by a refusal.
use mathlib.Core.Path.{◌≡◌, sym, ap, ◌∙◌}
use mathlib.Core.Bool.{Bool}
use mathlib.Core.List.{List}
use Prim.Native.Nat.{ℕ}
use native.Mathlib.Omega.{arith}
use lib.Dec.{eqb}
use borrow.Author.Tests.{ne_eqb}
use Rattle.lists.specs.Choice.{pick}
use Rattle.lists.specs.Bytes.{Bytes}
use Rattle.lists.specs.Least.{least}
use Rattle.scheme.specs.Layers.{Lent}
use Rattle.fiat_shamir.specs.Prove.{counter_ok, proof_length, prove_verdict, proving, proving_c}
use Rattle.std.specs.Prelude.{Result}
use Rattle.std.specs.Prelude.Result.{Ok, Err}
use Rattle.refusal.specs.declared.Refusal.{Refusal}
use Rattle.refusal.specs.Numbers.{number, number_of, given}
use Rattle.smallwood.specs.Told.{told}

module _ (question : Bytes) (κ limit : ℕ) (l : Lent) (table : List ℕ) (nodes buffer : Bytes) (before : ℕ) where
  -- a length of 0 comes with a refusal: a proof has its counter
  refusal : (v : ℕ) (r : Bytes) → (v, 0, r) ≡ proving question κ limit l table nodes buffer → v ≡ 0 → ⊥
  unfolding proving
  refusal v r e z =
      let c : ℕ = least limit (counter_ok question κ l) in
      let o : prove_verdict question κ limit l table nodes buffer ≡ 0 = sym (ap (λ (x : ℕ × ℕ × Bytes). x.0) e) ∙ z in
      let n : 0 ≡ proof_length question l c = ap (λ (x : ℕ × ℕ × Bytes). x.1) e ∙ ap (λ (k : ℕ). pick (eqb k 0) (proof_length question l c) 0) o in
      omega (arith, n)

  pub proof_told : (answer : Result ℕ Refusal) (proof : Bytes) → (number_of answer, given answer, proof) ≡ proving question κ limit l table nodes buffer
      → ((told answer before).0, (told answer before).1, proof) ≡ proving_c question κ limit l table nodes buffer before
  unfolding proving_c
  proof_told (Ok n) proof e = ap (λ (x : ℕ × ℕ × Bytes). (x.0, pick (eqb x.0 0) x.1 before, x.2)) e
  proof_told (Err r) proof e =
      ap (λ (b : Bool). (number r, pick b 0 before, proof)) (sym (ne_eqb (number r) 0 (refusal (number r) proof e)))
      ∙ ap (λ (x : ℕ × ℕ × Bytes). (x.0, pick (eqb x.0 0) x.1 before, x.2)) e
