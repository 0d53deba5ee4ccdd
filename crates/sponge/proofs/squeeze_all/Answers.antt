use mathlib.Core.Path.{◌≡◌, refl, ap, ◌∙◌, subst}
use mathlib.Core.List.{List, ◌++◌}
use Prim.Native.Nat.{ℕ, ◌+◌, ◌-◌, ◌*◌, ◌/◌, ◌<◌}
use native.Mathlib.Omega.{arith}
use borrow.Rule.Slice.PartMut.{mid_of}
use lib.ListN.{length, take, length-drop}
use Rattle.lists.specs.Parts.{span_length, mid_tail, put_tail, put_length}
use Rattle.keccak.specs.State.{length-keccak_f}
use Rattle.keccak.specs.Strings.{bytes}
use Rattle.sponge.proofs.Squeezed.{Begun, output_none, output_more, output-last}
use Rattle.sponge.proofs.squeeze_all.Goals as goal

-- the part to the end is as long as what is left
length_rest : (out : List ℕ) (at d : ℕ) → length out ≡ d → length (mid_of at (length out - at) out) ≡ d - at
length_rest out at d e = ap length (mid_tail at out) ∙ length-drop at out ∙ ap (λ (n : ℕ). n - at) e

pub loop-block-init : goal.loop-block-init
loop-block-init c =
    let e = c.args in
    (c.well_formed.0.1.0.1, refl, output_none e.a (length e.out.now) e.out.now)

pub loop-block-preserved : goal.loop-block-preserved
loop-block-preserved c =
    let l = c.loop-block in
    let e = c.args in
    let k = c.squeeze_block in
    let at : ℕ = 136 * l.block in
    let next : at + 136 ≡ 136 * (l.block + 1) = omega arith in
    let inside : at + 136 < length e.out.now = omega arith in
    let part = span_length at 136 l.out (omega (arith, l.invariant.1)) in (
      ap length c.keccak_f.ensures ∙ length-keccak_f l.b,
      put_length at (at + 136 - at) l.out k.new.out (omega (arith, l.invariant.1)) (omega (arith, k.auto.out, part)) ∙ l.invariant.1,
      rw (← next)
          (output_more e.a (length e.out.now) l.out at l.b l.invariant.1 (omega arith) l.invariant.2 k.new.out c.keccak_f.new.a
          (k.ensures ∙ ap (λ (n : ℕ). take n (bytes l.b)) part) c.keccak_f.ensures inside),
    )

pub returns : goal.returns
returns c =
    let l = c.loop-block in
    let e = c.args in
    let d : ℕ = length e.out.now in
    let k = c.squeeze_block-2 in
    let full : ℕ = c.saturating_sub-before_last.result / 136 in
    let last : ℕ = 136 * full in
    let all : l.block ≡ full = omega arith in
    let begun : Begun e.a d l.out last l.b = subst (λ (n : ℕ). Begun e.a d l.out (136 * n) l.b) all l.invariant.2 in
    put_tail last l.out k.new.out
    ∙ ap (λ (y : List ℕ). take last l.out ++ y)
    (k.ensures ∙ ap (λ (n : ℕ). take n (bytes l.b)) (length_rest l.out last d l.invariant.1))
    ∙ output-last e.a d l.out last l.b l.invariant.1 (omega arith) begun (omega arith)
