-- `sponge::absorb_tail` meets its contract.
use mathlib.Core.Path.{◌≡◌, ap, ◌∙◌}
use mathlib.Core.List.{List}
use Prim.Native.Nat.{ℕ, ◌+◌, ◌-◌, ◌/◌}
use native.Mathlib.Omega.{arith}
use lib.ListN.{length, take, drop, length-take, length-drop}
use Rattle.keccak.specs.Keccak.{keccak_f}
use Rattle.sponge.specs.Shake.{xor_block, padded}
use Rattle.sponge.specs.Resume.{absorbed_from, finished}
use Rattle.sponge.proofs.Blocks.{length-xor_block, last-padded}
use Rattle.sponge.proofs.Padding.{length-padded}
use Rattle.sponge.proofs.Resumed.{from_padded, next_block, length-absorbed_from}
use Rattle.sponge.proofs.absorb_tail.Goals as goal

-- 25 lanes after the full blocks
length-begun : (a s b : List ℕ) → length a ≡ 25 → b ≡ absorbed_from a s (length s / 136) → length b ≡ 25
length-begun a s b h e = ap length e ∙ length-absorbed_from a s (length s / 136) h

pub absorb_blocks-at-requires : goal.absorb_blocks-at-requires
absorb_blocks-at-requires c = c.requires

pub slice_bounds-xor_last_block-count : goal.slice_bounds-xor_last_block-count
slice_bounds-xor_last_block-count c = omega arith

pub slice_bounds-xor_last_block-start : goal.slice_bounds-xor_last_block-start
slice_bounds-xor_last_block-start c = omega arith

pub slice_bounds-xor_last_block-end : goal.slice_bounds-xor_last_block-end
slice_bounds-xor_last_block-end c = omega arith

pub xor_last_block-requires : goal.xor_last_block-requires
xor_last_block-requires c =
    let f = c.absorb_blocks-at in
    let s = c.args.s.now in
    let at = f.result in
    (length-begun c.args.a.now s f.new.a c.requires f.ensures.1, omega (arith, f.ensures.0, length-take (length s - at) (drop at s), length-drop at s))

pub keccak_f-requires : goal.keccak_f-requires
keccak_f-requires c =
    let f = c.absorb_blocks-at in
    let s = c.args.s.now in
    ap length c.xor_last_block.ensures
    ∙ length-xor_block f.new.a (padded (take (length s - f.result) (drop f.result s))) 0 (length-begun c.args.a.now s f.new.a c.requires f.ensures.1)

pub returns : goal.returns
unfolding finished
returns c =
    let e = c.args in
    let f = c.absorb_blocks-at in
    let a = e.a.now in
    let s = e.s.now in
    let n : ℕ = length s / 136 in
    let at : ℕ = f.result in
    let start : n ≡ at / 136 = omega (arith, f.ensures.0) in
    let count : (at + 136) / 136 ≡ length (padded s) / 136 = omega (arith, f.ensures.0, length-padded s) in
    c.keccak_f.ensures
    ∙ ap keccak_f
    (c.xor_last_block.ensures
    ∙ last-padded f.new.a s at (omega (arith, f.ensures.0)) (omega (arith, f.ensures.0))
    ∙ ap (λ (x : List ℕ). xor_block x (padded s) at) (f.ensures.1 ∙ from_padded a s n (omega arith) ∙ ap (absorbed_from a (padded s)) start))
    ∙ next_block a (padded s) at (omega (arith, f.ensures.0))
    ∙ ap (absorbed_from a (padded s)) count
