use mathlib.Core.Path.{◌≡◌, refl, sym, ◌∙◌, subst}
use mathlib.Core.List.{List}
use Prim.Native.Nat.{ℕ, ◌+◌, ◌-◌, ◌*◌}
use lib.ListN.{length, get_or, take, drop}
use Rattle.lists.specs.Fill.{Filled}
use Rattle.lists.specs.Parts.{row_fits, span_length, part_is}
use Rattle.algebra.specs.Sums.{low_added, high_added, SmallProducts, Summed, summed_none, summed_turn, summed-spare}
use native.Mathlib.Omega.{arith}
use Rattle.row_sums.proofs.add_rows.Goals as goal

pub loop-j-init : goal.loop-j-init
loop-j-init c =
    (refl, c.requires.0, summed_none c.args.weights.now (length c.args.low.now) c.args.rows.now c.args.low.now c.args.high.now refl c.requires.0 c.requires.3 c.requires.4)

pub add_multiple-requires : goal.add_multiple-requires
add_multiple-requires c =
    let loop = c.loop-j in
    let n : ℕ = length c.args.low.now in
    let r = row_fits n loop.j (length c.args.weights.now) (omega arith) in
    let e : length (take (n * loop.j + n - n * loop.j) (drop (n * loop.j) c.args.rows.now)) ≡ n = span_length (n * loop.j) n c.args.rows.now (omega (arith, r, c.requires.1)) in
    let b = summed-spare c.args.weights.now n c.args.rows.now loop.j loop.low loop.high (omega (arith, c.requires.2)) loop.invariant.0 loop.invariant.1 loop.invariant.2 in
    (loop.invariant.0 ∙ sym e, loop.invariant.1 ∙ sym e, b.0, b.1)

pub loop-j-preserved : goal.loop-j-preserved
loop-j-preserved c =
    let loop = c.loop-j in
    let ws : List ℕ = c.args.weights.now in
    let rs : List ℕ = c.args.rows.now in
    let n : ℕ = length c.args.low.now in
    let row : List ℕ = take (n * loop.j + n - n * loop.j) (drop (n * loop.j) rs) in
    let r = row_fits n loop.j (length ws) (omega arith) in
    let e : length row ≡ n = span_length (n * loop.j) n rs (omega (arith, r, c.requires.1)) in
    let x : List ℕ = c.add_multiple.new.low in
    let y : List ℕ = c.add_multiple.new.high in (
      c.add_multiple.auto.low ∙ loop.invariant.0,
      c.add_multiple.auto.high ∙ loop.invariant.1,
      summed_turn ws n rs loop.j row loop.low loop.high x y (omega arith) (part_is n loop.j rs)
          (subst (λ (k : ℕ). Filled (low_added (get_or ws loop.j 0) row loop.low) x 0 k) e c.add_multiple.ensures.0)
          (subst (λ (k : ℕ). Filled (high_added (get_or ws loop.j 0) row loop.high) y 0 k) e c.add_multiple.ensures.1)
          (subst (λ (k : ℕ). SmallProducts (get_or ws loop.j 0) row k) e c.add_multiple.ensures.2)
          loop.invariant.2,
    )

pub returns : goal.returns
returns c =
    let loop = c.loop-j in
    let ws : List ℕ = c.args.weights.now in
    let n : ℕ = length c.args.low.now in
    let e : loop.j ≡ length ws = omega arith in
    let b = summed-spare ws n c.args.rows.now loop.j loop.low loop.high (omega (arith, c.requires.2)) loop.invariant.0 loop.invariant.1 loop.invariant.2 in
    (subst (λ (k : ℕ). Summed ws n c.args.rows.now k loop.low loop.high) e loop.invariant.2, b.0, b.1)
