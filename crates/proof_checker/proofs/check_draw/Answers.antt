-- `proof_checker::check_draw` meets its contract.
use Prim.Native.Nat.{ℕ}
use Rattle.fiat_shamir.specs.Prove.{counter_length}
use Rattle.proof_checker.proofs.Verdicts.{refused-unqualified}
use Rattle.proof_checker.proofs.Asked.{drawn-set}
use lib.Seq.{length-take-le}
use Rattle.lists.specs.Parts.{lent_fits, lent_length, mid_tail}
use mathlib.Core.Path.{◌≡◌, sym, ◌∙◌}
use lib.ListN.{replicate, length}
use Rattle.proof_checker.proofs.Checked.{known, bits_ask, room_enough, leaves_ask, indices_are, offline, fails, accepts}
use borrow.Author.Rules.{rules}
use Rattle.refusal.specs.Numbers.{number_of}
use Rattle.proof_checker.proofs.check_draw.Goals as goal

pub leaf_count-requires : goal.leaf_count-requires
leaf_count-requires c =
    let s = c.args in
    (known s.query.now.bytes.now s.query.now.kappa s.query.now.shape s.query.now.m s.query.now.asks).in_order.h_high

pub slice_bounds-indices-end : goal.slice_bounds-indices-end
slice_bounds-indices-end c =
    let size : length (replicate {A = ℕ} 64 0) ≡ 64 = search rules in
    let s = c.args in
    let blank = replicate {A = ℕ} 64 0 in
    let room = room_enough s.query.now.bytes.now s.query.now.kappa s.query.now.shape s.query.now.m s.query.now.asks blank size in
    room

pub slice_bounds-draw_leaves-end : goal.slice_bounds-draw_leaves-end
slice_bounds-draw_leaves-end c =
    let size : length (replicate {A = ℕ} 64 0) ≡ 64 = search rules in
    let s = c.args in
    let blank = replicate {A = ℕ} 64 0 in
    let room = room_enough s.query.now.bytes.now s.query.now.kappa s.query.now.shape s.query.now.m s.query.now.asks blank size in
    sym (length-take-le s.query.now.shape.l blank room)

pub draw_leaves-requires : goal.draw_leaves-requires
draw_leaves-requires c =
    let size : length (replicate {A = ℕ} 64 0) ≡ 64 = search rules in
    let s = c.args in
    let blank = replicate {A = ℕ} 64 0 in
    let room = room_enough s.query.now.bytes.now s.query.now.kappa s.query.now.shape s.query.now.m s.query.now.asks blank size in
    let count = c.leaf_count in
    leaves_ask s.query.now.bytes.now s.query.now.kappa s.query.now.shape s.query.now.m s.query.now.asks s.proof.now s.draw.now c.requires.2 blank room count.result count.ensures

pub qualified-requires : goal.qualified-requires
qualified-requires c =
    let s = c.args in
    bits_ask s.query.now.bytes.now s.query.now.kappa s.query.now.shape s.query.now.m s.query.now.asks s.proof.now s.draw.now c.requires.2

pub slice_bounds-indices-end-then-qualified : goal.slice_bounds-indices-end-then-qualified
slice_bounds-indices-end-then-qualified c =
    let size : length (replicate {A = ℕ} 64 0) ≡ 64 = search rules in
    let s = c.args in
    let blank = replicate {A = ℕ} 64 0 in
    let room = room_enough s.query.now.bytes.now s.query.now.kappa s.query.now.shape s.query.now.m s.query.now.asks blank size in
    let leaves = c.draw_leaves in
    lent_fits s.query.now.shape.l leaves.new.out blank room leaves.auto.out

pub slice_bounds-check_drawn-end : goal.slice_bounds-check_drawn-end
slice_bounds-check_drawn-end c =
    let size : length (replicate {A = ℕ} 64 0) ≡ 64 = search rules in
    let s = c.args in
    let blank = replicate {A = ℕ} 64 0 in
    let room = room_enough s.query.now.bytes.now s.query.now.kappa s.query.now.shape s.query.now.m s.query.now.asks blank size in
    let leaves = c.draw_leaves in
    lent_length s.query.now.shape.l leaves.new.out blank room leaves.auto.out

pub check_drawn-requires : goal.check_drawn-requires
check_drawn-requires c =
    let size : length (replicate {A = ℕ} 64 0) ≡ 64 = search rules in
    let s = c.args in
    let blank = replicate {A = ℕ} 64 0 in
    let room = room_enough s.query.now.bytes.now s.query.now.kappa s.query.now.shape s.query.now.m s.query.now.asks blank size in
    let count = c.leaf_count in
    let leaves = c.draw_leaves in
    let opened = indices_are s.query.now.bytes.now s.query.now.kappa s.query.now.shape s.query.now.m s.query.now.asks s.proof.now s.draw.now c.requires.2 blank room count.result count.ensures leaves.new.out leaves.auto.out
    leaves.ensures in
    let o = offline s.query.now.bytes.now s.query.now.kappa s.query.now.shape s.query.now.m s.query.now.asks in
    let set = drawn-set s.query.now.bytes.now s.query.now.shape s.query.now.m o s.proof.now _ opened in
    (set.0, set.1)

pub returns-then-qualified : goal.returns-then-qualified
returns-then-qualified c =
    let size : length (replicate {A = ℕ} 64 0) ≡ 64 = search rules in
    let s = c.args in
    let blank = replicate {A = ℕ} 64 0 in
    let room = room_enough s.query.now.bytes.now s.query.now.kappa s.query.now.shape s.query.now.m s.query.now.asks blank size in
    let count = c.leaf_count in
    let leaves = c.draw_leaves in
    let opened = indices_are s.query.now.bytes.now s.query.now.kappa s.query.now.shape s.query.now.m s.query.now.asks s.proof.now s.draw.now c.requires.2 blank room count.result count.ensures leaves.new.out leaves.auto.out
    leaves.ensures in
    let test = c.qualified in
    let yes = c.if-qualified.true in
    c.check_drawn.ensures ∙ accepts s.query.now.bytes.now s.query.now.kappa s.query.now.shape s.query.now.m s.query.now.asks s.proof.now s.draw.now c.requires.2 test.result test.ensures yes _ _ s.values.now opened
    (mid_tail counter_length s.proof.now)

pub slice_bounds-indices-end-2 : goal.slice_bounds-indices-end-2
slice_bounds-indices-end-2 c =
    let size : length (replicate {A = ℕ} 64 0) ≡ 64 = search rules in
    let s = c.args in
    let blank = replicate {A = ℕ} 64 0 in
    let room = room_enough s.query.now.bytes.now s.query.now.kappa s.query.now.shape s.query.now.m s.query.now.asks blank size in
    let leaves = c.draw_leaves in
    lent_fits s.query.now.shape.l leaves.new.out blank room leaves.auto.out

pub slice_bounds-unqualified_verdict-end : goal.slice_bounds-unqualified_verdict-end
slice_bounds-unqualified_verdict-end c =
    let size : length (replicate {A = ℕ} 64 0) ≡ 64 = search rules in
    let s = c.args in
    let blank = replicate {A = ℕ} 64 0 in
    let room = room_enough s.query.now.bytes.now s.query.now.kappa s.query.now.shape s.query.now.m s.query.now.asks blank size in
    let leaves = c.draw_leaves in
    lent_length s.query.now.shape.l leaves.new.out blank room leaves.auto.out

pub unqualified_verdict-requires : goal.unqualified_verdict-requires
unqualified_verdict-requires c =
    let size : length (replicate {A = ℕ} 64 0) ≡ 64 = search rules in
    let s = c.args in
    let blank = replicate {A = ℕ} 64 0 in
    let room = room_enough s.query.now.bytes.now s.query.now.kappa s.query.now.shape s.query.now.m s.query.now.asks blank size in
    let count = c.leaf_count in
    let leaves = c.draw_leaves in
    let opened = indices_are s.query.now.bytes.now s.query.now.kappa s.query.now.shape s.query.now.m s.query.now.asks s.proof.now s.draw.now c.requires.2 blank room count.result count.ensures leaves.new.out leaves.auto.out
    leaves.ensures in
    let f = known s.query.now.bytes.now s.query.now.kappa s.query.now.shape s.query.now.m s.query.now.asks in
    (f.in_order, f.few_points, (drawn-set s.query.now.bytes.now s.query.now.shape s.query.now.m (offline s.query.now.bytes.now s.query.now.kappa s.query.now.shape s.query.now.m s.query.now.asks) s.proof.now _ opened).0)

pub returns : goal.returns
returns c =
    let size : length (replicate {A = ℕ} 64 0) ≡ 64 = search rules in
    let s = c.args in
    let blank = replicate {A = ℕ} 64 0 in
    let room = room_enough s.query.now.bytes.now s.query.now.kappa s.query.now.shape s.query.now.m s.query.now.asks blank size in
    let count = c.leaf_count in
    let leaves = c.draw_leaves in
    let opened = indices_are s.query.now.bytes.now s.query.now.kappa s.query.now.shape s.query.now.m s.query.now.asks s.proof.now s.draw.now c.requires.2 blank room count.result count.ensures leaves.new.out leaves.auto.out
    leaves.ensures in
    let test = c.qualified in
    let unmet = fails s.query.now.bytes.now s.query.now.kappa s.query.now.shape s.query.now.m s.query.now.asks s.proof.now s.draw.now c.requires.2 test.result test.ensures c.if-qualified.false in
    let verdict = c.unqualified_verdict in
    refused-unqualified s.query.now.bytes.now s.query.now.kappa s.proof.now s.values.now s.query.now.shape s.query.now.m s.query.now.asks c.requires.0 c.requires.1 unmet
    _ _ (number_of verdict.result) opened (mid_tail counter_length s.proof.now) verdict.ensures
