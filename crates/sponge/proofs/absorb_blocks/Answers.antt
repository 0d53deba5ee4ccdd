use mathlib.Core.Path.{◌≡◌, refl, sym, ap, ◌∙◌}
use mathlib.Core.List.{List}
use Prim.Native.Nat.{ℕ, ◌+◌, ◌*◌}
use native.Mathlib.Numerals.{add-one}
use lib.ListN.{length}
use Rattle.keccak.specs.Keccak.{keccak_f}
use Rattle.keccak.specs.State.{length-keccak_f}
use Rattle.sponge.specs.Shake.{xor_block}
use Rattle.sponge.specs.Resume.{absorbed_from}
use Rattle.sponge.proofs.Blocks.{part_block}
use Rattle.sponge.proofs.absorb_blocks.Goals as goal

-- one block more
next : (a p : List ℕ) (n : ℕ) → keccak_f (xor_block (absorbed_from a p n) p (136 * n)) ≡ absorbed_from a p (n + 1)
unfolding absorbed_from
next a p n = ap (absorbed_from a p) (sym (add-one n))

pub loop-block-init : goal.loop-block-init
unfolding absorbed_from
loop-block-init c = (c.requires, refl)

pub loop-block-preserved : goal.loop-block-preserved
loop-block-preserved c =
    let l = c.loop-block in
    let e = c.args in
    let s = e.s.now in
    let at : ℕ = 136 * l.block in (
      ap length c.keccak_f.ensures ∙ length-keccak_f c.xor_words.new.a,
      c.keccak_f.ensures
          ∙ ap keccak_f (c.xor_words.ensures ∙ part_block l.a s at ∙ ap (λ (x : List ℕ). xor_block x s at) l.invariant.1)
          ∙ next e.a.now s l.block,
    )
