-- `drawing::put_parts` meets its contract: four parts, one after the other.
use mathlib.Core.Path.{◌∙◌, ◌≡◌, ap, sym}
use lib.Seq.{length-take-le}
use lib.ListN.{drop, length, length-drop, take}
use Rattle.offline_question.proofs.Answer.{offline_facts, offline_taken}
use Rattle.lists.specs.Parts.{mid_tail}
use Rattle.drawing.proofs.Parts.{parts_fit, parts_put, long}
use Rattle.commitment.specs.Shape.{sizes_in}
use Prim.Native.Nat.{◌*◌, ◌-◌, ◌≤◌, ℕ}
use borrow.Author.Rules.{rules}
use native.Mathlib.Omega.{arith}
use Rattle.drawing.proofs.put_parts.Goals as goal

pub slice_bounds-put_part-end : goal.slice_bounds-put_part-end
slice_bounds-put_part-end c =
    let challenges_at' = c.challenges_at-at in
    let s = c.args in
    let f = parts_fit s.query.now.bytes.now (sizes_in s.query.now.shape) s.query.now.m (offline_taken s.query.now.bytes.now s.query.now.kappa s.query.now.shape s.query.now.m s.query.now.asks).1 s.indices.now c.requires.1 s.out.now c.requires.2 in
    sym (length-take-le challenges_at'.result s.query.now.bytes.now (omega (arith, f.0, challenges_at'.ensures)))

pub put_part-requires : goal.put_part-requires
put_part-requires c =
    let challenges_at' = c.challenges_at-at in
    let s = c.args in
    let f = parts_fit s.query.now.bytes.now (sizes_in s.query.now.shape) s.query.now.m (offline_taken s.query.now.bytes.now s.query.now.kappa s.query.now.shape s.query.now.m s.query.now.asks).1 s.indices.now c.requires.1 s.out.now c.requires.2 in
    omega (arith, f.1, challenges_at'.ensures, length-take-le challenges_at'.result s.query.now.bytes.now (omega (arith, f.0, challenges_at'.ensures)))

pub put_words-requires : goal.put_words-requires
put_words-requires c =
    let s = c.args in
    let f = parts_fit s.query.now.bytes.now (sizes_in s.query.now.shape) s.query.now.m (offline_taken s.query.now.bytes.now s.query.now.kappa s.query.now.shape s.query.now.m s.query.now.asks).1 s.indices.now c.requires.1 s.out.now c.requires.2 in
    omega (arith, f.2, c.challenges_at-at.ensures, c.put_part.auto.out, c.requires.0)

pub slice_bounds-put_part-count : goal.slice_bounds-put_part-count
slice_bounds-put_part-count c =
    let s = c.args in
    let f = parts_fit s.query.now.bytes.now (sizes_in s.query.now.shape) s.query.now.m (offline_taken s.query.now.bytes.now s.query.now.kappa s.query.now.shape s.query.now.m s.query.now.asks).1 s.indices.now c.requires.1 s.out.now c.requires.2 in
    omega (arith, f.0, c.challenges_at-at.ensures)

pub slice_bounds-put_part-start : goal.slice_bounds-put_part-start
slice_bounds-put_part-start c =
    let challenges_at' = c.challenges_at-at in
    let s = c.args in
    let f = parts_fit s.query.now.bytes.now (sizes_in s.query.now.shape) s.query.now.m (offline_taken s.query.now.bytes.now s.query.now.kappa s.query.now.shape s.query.now.m s.query.now.asks).1 s.indices.now c.requires.1 s.out.now c.requires.2 in
    let from : challenges_at'.result ≤ length s.query.now.bytes.now = omega (arith, f.0, challenges_at'.ensures) in
    search rules

pub put_part-requires-2 : goal.put_part-requires-2
put_part-requires-2 c =
    let challenges_at' = c.challenges_at-at in
    let s = c.args in
    let f = parts_fit s.query.now.bytes.now (sizes_in s.query.now.shape) s.query.now.m (offline_taken s.query.now.bytes.now s.query.now.kappa s.query.now.shape s.query.now.m s.query.now.asks).1 s.indices.now c.requires.1 s.out.now c.requires.2 in
    let l : length (take (length s.query.now.bytes.now - challenges_at'.result) (drop challenges_at'.result s.query.now.bytes.now)) ≡ 4 * s.query.now.m =
    ap length (mid_tail challenges_at'.result s.query.now.bytes.now) ∙ length-drop challenges_at'.result s.query.now.bytes.now ∙ omega
    (arith, challenges_at'.ensures, long s.query.now.bytes.now (sizes_in s.query.now.shape) s.query.now.m (offline_taken s.query.now.bytes.now s.query.now.kappa s.query.now.shape s.query.now.m s.query.now.asks).1 s.indices.now c.requires.1 s.out.now c.requires.2) in
    omega (arith, f.3, l, c.points_at.ensures, c.put_words.auto.out, c.put_part.auto.out)

pub indices_at-requires : goal.indices_at-requires
indices_at-requires c =
    (offline_facts c.args.query.now.bytes.now (sizes_in c.args.query.now.shape) c.args.query.now.m (offline_taken c.args.query.now.bytes.now c.args.query.now.kappa c.args.query.now.shape c.args.query.now.m c.args.query.now.asks).1).few_points

pub put_halves-requires : goal.put_halves-requires
put_halves-requires c =
    let s = c.args in
    let f = parts_fit s.query.now.bytes.now (sizes_in s.query.now.shape) s.query.now.m (offline_taken s.query.now.bytes.now s.query.now.kappa s.query.now.shape s.query.now.m s.query.now.asks).1 s.indices.now c.requires.1 s.out.now c.requires.2 in
    omega (
      arith,
      f.4,
      c.indices_at.ensures,
      c.put_part-2.auto.out,
      c.put_words.auto.out,
      c.put_part.auto.out,
    )

pub returns : goal.returns
returns c =
    let challenges_at' = c.challenges_at-at in
    let indices_at' = c.indices_at in
    let points_at' = c.points_at in
    let putBytes' = c.put_part in
    let putBytes2' = c.put_part-2 in
    let putHalves' = c.put_halves in
    let putWords' = c.put_words in
    let s = c.args in
    parts_put s.query.now.bytes.now (sizes_in s.query.now.shape) s.query.now.m (offline_taken s.query.now.bytes.now s.query.now.kappa s.query.now.shape s.query.now.m s.query.now.asks).1 s.indices.now c.requires.1 s.out.now c.requires.2
    s.challenges.now challenges_at'.result points_at'.result indices_at'.result (take challenges_at'.result s.query.now.bytes.now)
    (take (length s.query.now.bytes.now - challenges_at'.result) (drop challenges_at'.result s.query.now.bytes.now))
    putBytes'.new.out putWords'.new.out putBytes2'.new.out putHalves'.new.out c.requires.0 challenges_at'.ensures points_at'.ensures indices_at'.ensures
    (ap (λ (n : ℕ). take n s.query.now.bytes.now) challenges_at'.ensures) (mid_tail challenges_at'.result s.query.now.bytes.now ∙ ap (λ (n : ℕ). drop n s.query.now.bytes.now) challenges_at'.ensures)
    putBytes'.ensures putWords'.ensures putBytes2'.ensures putHalves'.ensures
