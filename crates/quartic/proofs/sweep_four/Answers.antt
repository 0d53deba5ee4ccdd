use mathlib.Core.Path.{◌≡◌, refl, ◌∙◌, subst}
use mathlib.Core.List.{List}
use Prim.Native.Nat.{ℕ, ◌+◌, ◌-◌}
use lib.ListN.{length, get_or, length-set}
use Rattle.lists.specs.Tabulate.{filled}
use Rattle.algebra.specs.Quartic.{quartic_at, quartic_turn, quartic_last}
use native.Mathlib.Omega.{arith}
use Rattle.quartic.proofs.sweep_four.Goals as goal

pub loop-i-preserved : goal.loop-i-preserved
loop-i-preserved c =
    let loop = c.loop-i in
    let f = c.args.f in
    let v = c.five_terms in (
      omega arith,
      omega arith,
      omega arith,
      length-set loop.s loop.i v.result ∙ loop.invariant.3,
      λ t l e. quartic_turn f.e1 f.e2 f.e3 f.e4 t loop.s loop.i v.result (get_or loop.s loop.i 0) (get_or loop.s (loop.i + 1) 0) (get_or loop.s (loop.i + 2) 0) (get_or loop.s (loop.i + 3) 0)
          (get_or loop.s (loop.i + 4) 0) (omega arith) (omega arith) (loop.invariant.4 t l e) refl refl refl refl refl v.ensures,
    )

pub returns : goal.returns
returns c =
    let loop = c.loop-i in
    let f = c.args.f in
    let s : List ℕ = c.args.s.now in
    let n : length c.first_four.new.s ≡ length s = c.first_four.auto.s in
    let last : ℕ = length c.first_four.new.s - 4 in
    let i : loop.i ≡ last = omega arith in
    let v₀ = c.five_terms-2 in
    let v₁ = c.five_terms-3 in
    let v₂ = c.five_terms-4 in
    quartic_last f.e1 f.e2 f.e3 f.e4 s loop.s last v₀.result v₁.result v₂.result (omega arith) (omega arith)
    (subst (λ (k : ℕ). loop.s ≡ filled (quartic_at f.e1 f.e2 f.e3 f.e4 s) k s) i (loop.invariant.4 s n c.first_four.ensures))
    v₀.ensures v₁.ensures v₂.ensures
