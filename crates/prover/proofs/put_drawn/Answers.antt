-- `prover::put_drawn` meets its contract.
use mathlib.Core.Path.{◌∙◌, ◌≡◌, ap, sym}
use mathlib.Core.List.{List, ◌++◌}
use lib.Seq.{length-take-le}
use lib.ListN.{replicate, drop, length, take}
use Rattle.scheme.proofs.Accepted.{leaves-high}
use Rattle.prover.specs.Parts.{length_with, proof_with}
use Rattle.prover.proofs.Parts.{leaves-drawn, open_ask}
use Rattle.lists.specs.Parts.{lent_fits, lent_front, lent_length}
use Rattle.commitment.specs.Shape.{sizes_in}
use Prim.Native.Nat.{◌≤◌, ℕ}
use borrow.Author.Rules.{rules}
use native.Mathlib.Omega.{arith}
use Rattle.prover.proofs.put_drawn.Goals as goal

pub leaf_count-requires : goal.leaf_count-requires
leaf_count-requires c = c.requires.sizes.h_high

pub slice_bounds-indices-end : goal.slice_bounds-indices-end
slice_bounds-indices-end c =
    let n : length (replicate {A = ℕ} 64 0) ≡ 64 = search rules in
    omega (arith, n, c.requires.sizes.ℓ-high)

pub slice_bounds-draw_leaves-end : goal.slice_bounds-draw_leaves-end
slice_bounds-draw_leaves-end c =
    let n : length (replicate {A = ℕ} 64 0) ≡ 64 = search rules in
    sym (length-take-le c.args.s.l (replicate {A = ℕ} 64 0) (omega (arith, n, c.requires.sizes.ℓ-high)))

pub draw_leaves-requires : goal.draw_leaves-requires
draw_leaves-requires c =
    let leafCount' = c.leaf_count in
    let n : length (replicate {A = ℕ} 64 0) ≡ 64 = search rules in
    let k : length (take c.args.s.l (replicate {A = ℕ} 64 0)) ≡ c.args.s.l = length-take-le c.args.s.l (replicate {A = ℕ} 64 0) (omega (arith, n, c.requires.sizes.ℓ-high)) in
    (omega (arith, k, c.requires.long), omega (arith, k, leafCount'.ensures, c.requires.sizes.fits), omega (arith, leafCount'.ensures, leaves-high (sizes_in c.args.s) c.requires.sizes))

pub slice_bounds-indices-end-2 : goal.slice_bounds-indices-end-2
slice_bounds-indices-end-2 c =
    let drawLeaves' = c.draw_leaves in
    let n : length (replicate {A = ℕ} 64 0) ≡ 64 = search rules in
    lent_fits c.args.s.l drawLeaves'.new.out (replicate {A = ℕ} 64 0) (omega (arith, n, c.requires.sizes.ℓ-high)) drawLeaves'.auto.out

pub slice_bounds-put_proof-end : goal.slice_bounds-put_proof-end
slice_bounds-put_proof-end c =
    let drawLeaves' = c.draw_leaves in
    let n : length (replicate {A = ℕ} 64 0) ≡ 64 = search rules in
    lent_length c.args.s.l drawLeaves'.new.out (replicate {A = ℕ} 64 0) (omega (arith, n, c.requires.sizes.ℓ-high)) drawLeaves'.auto.out

pub put_proof-requires : goal.put_proof-requires
put_proof-requires c =
    let drawLeaves' = c.draw_leaves in
    let leafCount' = c.leaf_count in
    let s = c.args in
    let n : length (replicate {A = ℕ} 64 0) ≡ 64 = search rules in
    let fit : s.s.l ≤ length (replicate {A = ℕ} 64 0) = omega (arith, n, c.requires.sizes.ℓ-high) in
    open_ask (sizes_in s.s) s.m s.answers.now s.drawn.now s.table.now s.nonces.now s.tree.now s.proof.now c.requires _
    (lent_front s.s.l drawLeaves'.new.out (replicate {A = ℕ} 64 0) fit drawLeaves'.auto.out
    ∙ leaves-drawn (sizes_in s.s) s.drawn.now c.requires.sizes leafCount'.result (length (take s.s.l (replicate {A = ℕ} 64 0))) drawLeaves'.new.out leafCount'.ensures
    (length-take-le s.s.l (replicate {A = ℕ} 64 0) fit) drawLeaves'.ensures)

pub returns : goal.returns
returns c =
    let drawLeaves' = c.draw_leaves in
    let leafCount' = c.leaf_count in
    let putProof' = c.put_proof in
    let s = c.args in
    let n : length (replicate {A = ℕ} 64 0) ≡ 64 = search rules in
    let fit : s.s.l ≤ length (replicate {A = ℕ} 64 0) = omega (arith, n, c.requires.sizes.ℓ-high) in
    let e = lent_front s.s.l drawLeaves'.new.out (replicate {A = ℕ} 64 0) fit drawLeaves'.auto.out
    ∙ leaves-drawn (sizes_in s.s) s.drawn.now c.requires.sizes leafCount'.result (length (take s.s.l (replicate {A = ℕ} 64 0))) drawLeaves'.new.out leafCount'.ensures
    (length-take-le s.s.l (replicate {A = ℕ} 64 0) fit) drawLeaves'.ensures in record { value = putProof'.ensures.value ∙ ap (length_with (sizes_in s.s) s.m) e; proof_after = putProof'.ensures.proof_after ∙ ap (λ (is : List ℕ). proof_with (sizes_in s.s) s.table.now s.nonces.now s.tree.now s.counter s.answers.now is ++ drop putProof'.result s.proof.now) e }
