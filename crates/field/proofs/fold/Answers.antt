use mathlib.Core.Path.{◌≡◌, sym, ◌∙◌, subst}
use mathlib.Core.List.{List}
use Prim.Native.Nat.{ℕ}
use lib.ListN.{length}
use Rattle.algebra.specs.Dot.{accumulated_at, accumulate_n_is}
use Rattle.lists.specs.Fill.{Filled, filled_is}
use native.Mathlib.Omega.{arith}
use Rattle.field.proofs.fold.Goals as goal

pub returns : goal.returns
returns c =
    let loop = c.loop-i in
    let acc : List ℕ = c.args.acc.now in
    let row : List ℕ = c.args.row.now in
    let f : ℕ → ℕ = accumulated_at row c.args.c.0 acc in
    let e : loop.i ≡ length row = omega arith in
    let l : length loop.acc ≡ length row = omega arith in
    filled_is f loop.acc (length row) l (subst (λ (k : ℕ). Filled f loop.acc 0 k) e loop.invariant.1) ∙ accumulate_n_is row acc c.args.c.0 (sym c.requires)
