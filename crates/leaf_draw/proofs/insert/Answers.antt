use mathlib.Core.List.{List}
use mathlib.Core.Path.{◌≡◌, ◌∙◌, ap₂, ap}
use lib.ListN.{length-set, set, get_or}
use Rattle.leaf_draw.proofs.Moved.{insert_none, carried_first, insert_next, up_to, carried_next, carried_at, insert_all}
use Prim.Native.Nat.{ℕ}
use borrow.Author.Rules.{rules}
use native.Mathlib.Omega.{arith}
use Rattle.leaf_draw.proofs.insert.Goals as goal

pub loop-i-init : goal.loop-i-init
loop-i-init c =
    let s = c.args in
    (search rules, search rules, search rules, insert_none s.out.now s.n s.k s.x c.requires.0 c.requires.1, carried_first s.out.now s.n s.k s.x c.requires.0 c.requires.1)

pub loop-i-preserved : goal.loop-i-preserved
loop-i-preserved c =
    let s = c.args in
    let loop = c.loop-i in
    let o = s.out.now in (
      omega arith,
      omega arith,
      length-set loop.out loop.i loop.carried ∙ loop.invariant.2,
      ap₂ (λ (t : List ℕ) (v : ℕ). set t loop.i v) loop.invariant.3 loop.invariant.4 ∙ insert_next o s.n s.k s.x c.requires.0 c.requires.1 loop.i loop.invariant.0 (omega arith),
      ap (λ (t : List ℕ). get_or t loop.i 0) loop.invariant.3 ∙ carried_next o s.n s.k s.x c.requires.0 c.requires.1 loop.i loop.invariant.0 (omega arith),
    )

pub bounds-out-n : goal.bounds-out-n
bounds-out-n c = omega (arith, c.loop-i.invariant.2)

pub shape_of-out : goal.shape_of-out
shape_of-out c = length-set c.loop-i.out c.args.n c.loop-i.carried ∙ c.loop-i.invariant.2

pub returns : goal.returns
returns c =
    let s = c.args in
    let loop = c.loop-i in
    let e : loop.i ≡ s.n = omega arith in
    ap₂ (λ (t : List ℕ) (v : ℕ). set t s.n v) (loop.invariant.3 ∙ ap (λ (j : ℕ). up_to s.out.now s.n s.k s.x c.requires.0 c.requires.1 j) e)
    (loop.invariant.4 ∙ ap (λ (j : ℕ). carried_at s.out.now s.n s.k s.x c.requires.0 c.requires.1 j) e)
    ∙ insert_all s.out.now s.n s.k s.x c.requires.0 c.requires.1
