use mathlib.Core.Path.{◌≡◌, refl, ◌∙◌, ap}
use mathlib.Core.List.{[], ◌∷◌, ◌++◌, map}
use Prim.Native.Nat.{ℕ}
use Rattle.std.proofs.Common.{reverse, Bor}
use Rattle.std.proofs.lemmas.List.{map-append, reverse-append}
use Rattle.algebra.specs.Numbers.{eval_n}
use Rattle.field.proofs.evaluate.Goals as goal

pub loop-coefficient-init : goal.loop-coefficient-init
unfolding eval_n
loop-coefficient-init c = refl

pub loop-coefficient-preserved : goal.loop-coefficient-preserved
unfolding eval_n
loop-coefficient-preserved c =
    let loop = c.loop-coefficient in
    let x : ℕ = c.args.x.0 in
    let a : ℕ = c.in-Some.field-0.now in
    let now : Bor ℕ → ℕ = λ y. y.now in
    let e : reverse (map now (loop.yielded ++ (c.in-Some.field-0 ∷ []))) ≡ a ∷ reverse (map now loop.yielded) =
    ap reverse (map-append now loop.yielded (c.in-Some.field-0 ∷ [])) ∙ reverse-append (map now loop.yielded) (a ∷ []) in
    c.multiply_add-value.ensures ∙ rw (e, loop.invariant)
