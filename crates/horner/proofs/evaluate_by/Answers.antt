use mathlib.Core.Path.{◌≡◌, refl, sym, ◌∙◌, ap, ap₂}
use mathlib.Core.List.{List, [], ◌∷◌, ◌++◌}
use Prim.Native.Nat.{ℕ, ◌+◌, ◌-◌, ◌*◌, ◌/◌, ◌%◌, ◌<◌}
use native.Mathlib.Nat.{sub-zero, mod-lt, mod-eq_of_lt, suc-ne-zero, div-add-mod', add-mod_right, mul-mod_left}
use lib.ListN.{length, take, drop}
use lib.Seq.{take-append_seam, drop-append_seam}
use Rattle.std.proofs.Common.{length-append}
use Rattle.std.proofs.lemmas.List.{append_assoc, take-append-drop}
use Rattle.std.specs.Slice.Exact.{rchunks_exact_rest, rchunks_exact_size, rchunks_exact_remainder}
use Rattle.algebra.specs.Dot.{dot_n}
use Rattle.algebra.specs.Numbers.{eval_n}
use Rattle.algebra.specs.Spans.{spans_start, spans_turn, next_power}
use native.Mathlib.Omega.{arith}
use Rattle.horner.proofs.evaluate_by.Goals as goal

empty : (r : List ℕ) → length r ≡ 0 → r ≡ []
empty [] e = refl
empty (a ∷ r) e = absurd (suc-ne-zero (length r) e)

pub loop-part-init : goal.loop-part-init
loop-part-init c =
    let x : ℕ = c.args.x.0 in
    let ps : List ℕ = c.args.powers.now in
    let p : List ℕ = c.args.coefficients.now in
    let n : ℕ = length p in
    let w : ℕ = length ps in
    let at : ℕ = n - n % w in
    let r = c.rchunks_exact-part-items.result in
    let s : c.into_iter-part-iterator.result ≡ r = cc in
    let m : n % w < w = mod-lt n c.requires.1 in
    let d : n / w * w + n % w ≡ n = div-add-mod' n w in
    let g : at ≡ n / w * w = omega arith in
    let z : at % w ≡ 0 = ap (λ (t : ℕ). t % w) g ∙ mul-mod_left (n / w) w in
    let none : rchunks_exact_remainder r ≡ [] =
    empty (rchunks_exact_remainder r) (c.rchunks_exact-part-items.ensures.remainder_len ∙ ap (λ (t : ℕ). t % w) c.split_at.ensures.front_len ∙ z) in
    let e : rchunks_exact_rest c.into_iter-part-iterator.result ≡ take at p =
    ap rchunks_exact_rest s ∙ sym (c.rchunks_exact-part-items.ensures.parts ∙ ap (λ (t : List ℕ). t ++ rchunks_exact_rest r) none) ∙ c.split_at.ensures.front in
    let l : length (rchunks_exact_rest c.into_iter-part-iterator.result) ≡ at = ap length e ∙ ap length (sym c.split_at.ensures.front) ∙ c.split_at.ensures.front_len in
    let b : length c.split_at.result.1.now ≡ n % w = omega (arith, c.split_at.ensures.back_len) in (
      ap rchunks_exact_size s ∙ c.rchunks_exact-part-items.ensures.size,
      e ∙ ap (λ (k : ℕ). take k p) (sym l),
      omega (arith, l),
      ap (λ (t : ℕ). t % w) l ∙ z,
      spans_start ps p x (n % w) at c.dot-value.result.0 c.requires.0 (omega arith) (omega arith)
          (c.dot-value.ensures ∙ ap₂ (λ (k : ℕ) (t : List ℕ). dot_n (take k ps) t) (b ∙ sym (sub-zero (n % w))) c.split_at.ensures.back)
          ∙ ap (λ (k : ℕ). eval_n (drop k p) x) (sym l),
    )

-- Of p, `left` is what is left in front: `before`, and the last part.
parts : (p left before part : List ℕ) (w : ℕ) → left ≡ take (length left) p → left ≡ before ++ part → length part ≡ w
    → (before ≡ take (length before) p) × (take (length before + w - length before) (drop (length before) p) ≡ part) × (length left ≡ length before + w)
parts p left before part w e f l =
    let rest : List ℕ = drop (length left) p in
    let whole : p ≡ before ++ (part ++ rest) = sym (take-append-drop (length left) p) ∙ ap (λ (t : List ℕ). t ++ rest) (sym e ∙ f) ∙ append_assoc before part rest in
    let a : length before + w - length before ≡ length part = omega arith in (
      sym (ap (take (length before)) whole ∙ take-append_seam before (part ++ rest)),
      ap₂ take a (ap (drop (length before)) whole ∙ drop-append_seam before (part ++ rest)) ∙ take-append_seam part rest,
      ap length f ∙ length-append before part ∙ ap (λ (t : ℕ). length before + t) l,
    )

pub loop-part-preserved : goal.loop-part-preserved
loop-part-preserved c =
    let loop = c.loop-part in
    let x : ℕ = c.args.x.0 in
    let ps : List ℕ = c.args.powers.now in
    let p : List ℕ = c.args.coefficients.now in
    let w : ℕ = length ps in
    let left : List ℕ = rchunks_exact_rest loop.part-iterator in
    let before : List ℕ = rchunks_exact_rest c.next.new.self in
    let a : ℕ = length before in
    let t = c.in-Some.ensures.steps in
    let u = t.2 in
    let f = parts p left before c.in-Some.part.now w loop.invariant.1 u.0 (u.1 ∙ loop.invariant.0) in (
      t.0 ∙ loop.invariant.0,
      f.0,
      omega (arith, f.2, loop.invariant.2),
      sym (add-mod_right a w) ∙ ap (λ (k : ℕ). k % w) (sym f.2) ∙ loop.invariant.3,
      spans_turn ps p x a (a + w) c.multiply-step.result.0 c.dot.result.0 loop.value.0 c.multiply_add-value.result.0 c.requires.0
          (next_power ps x c.multiply-step.result.0 c.requires.1 c.requires.0 c.multiply-step.ensures) (omega arith) (omega (arith, f.2, loop.invariant.2))
          (loop.invariant.4 ∙ ap (λ (k : ℕ). eval_n (drop k p) x) f.2) (c.dot.ensures ∙ ap (dot_n ps) (sym f.1)) c.multiply_add-value.ensures,
    )

pub returns : goal.returns
returns c =
    let loop = c.loop-part in
    let p : List ℕ = c.args.coefficients.now in
    let w : ℕ = length c.args.powers.now in
    let k : ℕ = length (rchunks_exact_rest loop.part-iterator) in
    let u = c.in-None.ensures.steps.2 in
    let l : k < w = omega (arith, u.0, loop.invariant.0) in
    let e : k ≡ 0 = sym (mod-eq_of_lt l) ∙ loop.invariant.3 in
    loop.invariant.4 ∙ ap (λ (i : ℕ). eval_n (drop i p) c.args.x.0) e
