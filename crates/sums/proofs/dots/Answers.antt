use Rattle.std.proofs.Common.{◌≡◌, ℕ, ◌+◌, ◌*◌, List, length, subst, arith, length-set, rules}
use Rattle.lists.specs.Fill.{Filled, entry_of, fill_next}
use Rattle.algebra.specs.Dot.{dots_of, dots_at, dots_done, four_rows_fit, dots_four}
use Rattle.sums.proofs.dots.Goals as goal

pub slice_bounds-four_dots-end-in-loop-group : goal.slice_bounds-four_dots-end-in-loop-group
slice_bounds-four_dots-end-in-loop-group c =
    let f = four_rows_fit (length c.args.weights.now) (4 * c.loop-group.group) (length c.args.out.now) (length c.args.rows.now) (omega arith) c.requires.0 in search rules

pub slice_bounds-four_dots-end-in-loop-group-2 : goal.slice_bounds-four_dots-end-in-loop-group-2
slice_bounds-four_dots-end-in-loop-group-2 c =
    let f = four_rows_fit (length c.args.weights.now) (4 * c.loop-group.group) (length c.args.out.now) (length c.args.rows.now) (omega arith) c.requires.0 in search rules

pub slice_bounds-four_dots-end-in-loop-group-3 : goal.slice_bounds-four_dots-end-in-loop-group-3
slice_bounds-four_dots-end-in-loop-group-3 c =
    let f = four_rows_fit (length c.args.weights.now) (4 * c.loop-group.group) (length c.args.out.now) (length c.args.rows.now) (omega arith) c.requires.0 in search rules

pub loop-group-preserved : goal.loop-group-preserved
loop-group-preserved c =
    let loop = c.loop-group in
    let w : List ℕ = c.args.weights.now in
    let n : ℕ = length c.args.out.now in
    let r = c.four_dots-v in
    let f = dots_four w c.args.rows.now loop.out n (4 * loop.group) r.result.a.0 r.result.b.0 r.result.c.0 r.result.d.0 (omega arith) loop.invariant.0 loop.invariant.1
    r.ensures.0 r.ensures.1 r.ensures.2 r.ensures.3 in
    (simp length-set loop.invariant.0, λ (j : ℕ) m u. f j m (omega arith))

pub loop-j-preserved : goal.loop-j-preserved
loop-j-preserved c =
    let loop = c.loop-j in
    let w : List ℕ = c.args.weights.now in
    let n : ℕ = length c.args.out.now in
    let v = dots_at w c.args.rows.now n loop.j (loop.j * length w) (loop.j * length w + length w) c.dot.result.0 (omega arith) (omega arith) (omega arith) c.dot.ensures in
    (simp length-set loop.invariant.0, fill_next (entry_of (dots_of w n c.args.rows.now)) loop.out 0 loop.j c.dot.result.0 (omega arith) v loop.invariant.1)

pub returns : goal.returns
returns c =
    let loop = c.loop-j in
    let w : List ℕ = c.args.weights.now in
    let n : ℕ = length c.args.out.now in
    let e : loop.j ≡ n = omega arith in
    dots_done w c.args.rows.now n loop.out loop.invariant.0 (subst (λ (k : ℕ). Filled (entry_of (dots_of w n c.args.rows.now)) loop.out 0 k) e loop.invariant.1)
