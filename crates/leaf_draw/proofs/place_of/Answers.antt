use native.Mathlib.Nat.{add-zero, zero-add, le_of_eq}
use Rattle.leaf_draw.specs.Place.{place_of}
use Rattle.leaf_draw.proofs.Place.{walk_stop, walk_on, walk_end}
use lib.ListN.{length, drop_of_length-le}
use mathlib.Core.Path.{ap, sym, ◌∙◌, ◌≡◌}
use Prim.Native.Nat.{ℕ, ◌+◌}
use borrow.Author.Rules.{rules}
use native.Mathlib.Omega.{arith}
use Rattle.leaf_draw.proofs.place_of.Goals as goal

pub loop-k-init : goal.loop-k-init
loop-k-init c =
    let s = c.args in
    ap (λ (n : ℕ). place_of n s.used.now) (sym (add-zero s.rank)) ∙ sym (zero-add (place_of (s.rank + 0) s.used.now))

pub returns-then-rank-k : goal.returns-then-rank-k
returns-then-rank-k c =
    let s = c.args in
    sym (c.loop-k.invariant ∙ walk_stop s.rank s.used.now c.loop-k.k (omega arith) (search rules))

pub loop-k-preserved : goal.loop-k-preserved
loop-k-preserved c =
    let s = c.args in
    c.loop-k.invariant ∙ walk_on s.rank s.used.now c.loop-k.k (omega arith) (search rules)

pub returns : goal.returns
returns c =
    let s = c.args in
    let e : c.loop-k.k ≡ length s.used.now = omega arith in
    sym (c.loop-k.invariant ∙ walk_end s.rank s.used.now c.loop-k.k (drop_of_length-le s.used.now (le_of_eq (sym e))) ∙ e)
