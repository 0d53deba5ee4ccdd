-- `proof_checker::check_answered` meets its contract.
use Rattle.proof_checker.proofs.Draws.{draw_is}
use lib.Seq.{length-take-le}
use Rattle.lists.specs.Parts.{lent_fits, lent_length, lent_front}
use Prim.Native.Nat.{◌+◌, ◌*◌, ◌≤◌, ℕ}
use Rattle.commitment.specs.Shape.{sizes_in}
use mathlib.Core.Path.{◌≡◌, sym, ◌∙◌}
use Rattle.commitment.proofs.Places.{records_high}
use lib.ListN.{replicate, length, take}
use Rattle.proof_checker.proofs.Checked.{known, offline}
use borrow.Author.Rules.{rules}
use native.Mathlib.Omega.{arith}
use Rattle.proof_checker.proofs.check_answered.Goals as goal

pub records_at-answers-requires : goal.records_at-answers-requires
records_at-answers-requires c =
    let f = known c.args.query.now.bytes.now c.args.query.now.kappa c.args.query.now.shape c.args.query.now.m c.args.query.now.asks in
    (f.in_order, f.few_points)

pub slice_bounds-drawn-end : goal.slice_bounds-drawn-end
slice_bounds-drawn-end c =
    let s = c.args in
    let f = known s.query.now.bytes.now s.query.now.kappa s.query.now.shape s.query.now.m s.query.now.asks in
    let size : length (replicate {A = ℕ} 544 0) ≡ 544 = search rules in
    let room : 32 + 8 * s.query.now.shape.l ≤ length (replicate {A = ℕ} 544 0) = omega (arith, size, f.in_order.ℓ-high) in
    room

pub slice_bounds-draw_proof-end : goal.slice_bounds-draw_proof-end
slice_bounds-draw_proof-end c =
    let s = c.args in
    let f = known s.query.now.bytes.now s.query.now.kappa s.query.now.shape s.query.now.m s.query.now.asks in
    let size : length (replicate {A = ℕ} 544 0) ≡ 544 = search rules in
    let room : 32 + 8 * s.query.now.shape.l ≤ length (replicate {A = ℕ} 544 0) = omega (arith, size, f.in_order.ℓ-high) in
    sym (length-take-le (32 + 8 * s.query.now.shape.l) (replicate {A = ℕ} 544 0) room)

pub draw_proof-requires : goal.draw_proof-requires
draw_proof-requires c =
    let records-at = c.records_at-answers in
    let s = c.args in
    let f = known s.query.now.bytes.now s.query.now.kappa s.query.now.shape s.query.now.m s.query.now.asks in
    (omega (arith, f.long, f.few_points, records-at.ensures, records_high (sizes_in s.query.now.shape) f.in_order s.query.now.m f.few_points), omega (arith, records-at.ensures, c.requires.1))

pub slice_bounds-drawn-end-2 : goal.slice_bounds-drawn-end-2
slice_bounds-drawn-end-2 c =
    let draw-proof = c.draw_proof in
    let s = c.args in
    let f = known s.query.now.bytes.now s.query.now.kappa s.query.now.shape s.query.now.m s.query.now.asks in
    let size : length (replicate {A = ℕ} 544 0) ≡ 544 = search rules in
    let room : 32 + 8 * s.query.now.shape.l ≤ length (replicate {A = ℕ} 544 0) = omega (arith, size, f.in_order.ℓ-high) in
    lent_fits (32 + 8 * s.query.now.shape.l) draw-proof.new.out (replicate {A = ℕ} 544 0) room draw-proof.auto.out

pub slice_bounds-check_draw-end : goal.slice_bounds-check_draw-end
slice_bounds-check_draw-end c =
    let draw-proof = c.draw_proof in
    let s = c.args in
    let f = known s.query.now.bytes.now s.query.now.kappa s.query.now.shape s.query.now.m s.query.now.asks in
    let size : length (replicate {A = ℕ} 544 0) ≡ 544 = search rules in
    let room : 32 + 8 * s.query.now.shape.l ≤ length (replicate {A = ℕ} 544 0) = omega (arith, size, f.in_order.ℓ-high) in
    lent_length (32 + 8 * s.query.now.shape.l) draw-proof.new.out (replicate {A = ℕ} 544 0) room draw-proof.auto.out

pub check_draw-requires : goal.check_draw-requires
check_draw-requires c =
    let draw-proof = c.draw_proof in
    let records-at = c.records_at-answers in
    let s = c.args in
    let f = known s.query.now.bytes.now s.query.now.kappa s.query.now.shape s.query.now.m s.query.now.asks in
    let size : length (replicate {A = ℕ} 544 0) ≡ 544 = search rules in
    let room : 32 + 8 * s.query.now.shape.l ≤ length (replicate {A = ℕ} 544 0) = omega (arith, size, f.in_order.ℓ-high) in
    let n : ℕ = 32 + 8 * s.query.now.shape.l in
    let o = offline s.query.now.bytes.now s.query.now.kappa s.query.now.shape s.query.now.m s.query.now.asks in (
      c.requires.0,
      c.requires.1,
      lent_front n draw-proof.new.out (replicate {A = ℕ} 544 0) room draw-proof.auto.out ∙ draw-proof.ensures
          ∙ draw_is s.query.now.bytes.now s.proof.now (sizes_in s.query.now.shape) s.query.now.m o records-at.result (length (take n (replicate {A = ℕ} 544 0))) records-at.ensures (length-take-le n (replicate {A = ℕ} 544 0) room),
    )
