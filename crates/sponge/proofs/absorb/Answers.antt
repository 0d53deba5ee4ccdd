use mathlib.Core.Path.{◌≡◌, refl, sym, ap, ◌∙◌}
use mathlib.Core.List.{List}
use Prim.Native.Nat.{ℕ, ◌+◌, ◌*◌, ◌/◌}
use native.Mathlib.Numerals.{add-one}
use native.Mathlib.Omega.{arith}
use lib.ListN.{length}
use Rattle.keccak.specs.Keccak.{keccak_f}
use Rattle.keccak.specs.State.{length-keccak_f}
use Rattle.sponge.specs.Shake.{xor_block, padded, absorbed}
use Rattle.sponge.proofs.Blocks.{full_block, last-padded}
use Rattle.sponge.proofs.absorb.Goals as goal

-- one block more
next : (p : List ℕ) (n : ℕ) → keccak_f (xor_block (absorbed p n) p (136 * n)) ≡ absorbed p (n + 1)
unfolding absorbed
next p n = ap (absorbed p) (sym (add-one n))

pub loop-block-init : goal.loop-block-init
unfolding absorbed
loop-block-init c = (refl, refl, refl)

pub loop-block-preserved : goal.loop-block-preserved
loop-block-preserved c =
    let l = c.loop-block in
    let s = c.args.s.now in
    let at : ℕ = 136 * l.block in (
      ap length c.keccak_f.ensures ∙ length-keccak_f c.xor_words.new.a,
      omega arith,
      c.keccak_f.ensures
          ∙ ap keccak_f (c.xor_words.ensures ∙ full_block l.a s at (omega arith) ∙ ap (λ (x : List ℕ). xor_block x (padded s) at) l.invariant.2)
          ∙ next (padded s) l.block,
    )

pub returns-clause-state_value : goal.returns-clause-state_value
returns-clause-state_value c =
    let l = c.loop-block in
    let s = c.args.s.now in
    let full : ℕ = length s / 136 in
    let all : l.block ≡ full = omega arith in
    let count : full + 1 ≡ l.ran + 1 = omega arith in
    c.keccak_f-2.ensures
    ∙ ap keccak_f
    (c.xor_last_block.ensures ∙ last-padded l.a s (136 * full) (omega arith) (omega arith)
    ∙ ap (λ (x : List ℕ). xor_block x (padded s) (136 * full)) (l.invariant.2 ∙ ap (absorbed (padded s)) all))
    ∙ next (padded s) full
    ∙ ap (absorbed (padded s)) count
