use mathlib.Core.Path.{◌≡◌, sym, ap, ◌∙◌}
use mathlib.Core.List.{List}
use Prim.Native.Nat.{ℕ, ◌+◌, ◌-◌, ◌<◌}
use native.Mathlib.Omega.{arith}
use lib.ListN.{drop}
use Rattle.tree.specs.Walk.{used}
use Rattle.tree.proofs.Children.{heads_lt}
use Rattle.node_sets.proofs.Parents.{skip_own, skip_listed, skip_done}
use Rattle.node_sets.proofs.skip_children.Goals as goal
use Rattle.node_sets.proofs.skip_children.Goals.{then-next_is, else-next_is}

pub overflow_add-a : goal.overflow_add-a
overflow_add-a c =
    omega (arith, heads_lt c.args.set.now c.loop-c.a c.loop-c.c (sym c.next_is.ensures ∙ c.if-next_is.true))

-- one child fewer is left
fewer : (s : List ℕ) (a i n : ℕ) → a + used (i + 1) (n - i - 1) (drop a s) ≡ a + used (i + 1) (n - (i + 1)) (drop a s)
fewer s a i n = let e : n - i - 1 ≡ n - (i + 1) = omega arith in ap (λ (k : ℕ). a + used (i + 1) k (drop a s)) e

pub loop-c-preserved : goal.loop-c-preserved
loop-c-preserved c =
    let s = c.args.set.now in
    let l = c.loop-c in
    let n : ℕ = c.args.first + c.args.b in
    let more : 0 < n - l.c = omega arith in
    elim c.if-next_is.branch [
      | then-next_is w ↦ ap (λ (a : ℕ). a + used (l.c + 1) (n - (l.c + 1)) (drop a s)) w.a-is
          ∙ sym (skip_own s l.a l.c (n - l.c) more (sym c.next_is.ensures ∙ w.if-next_is.true) ∙ fewer s (l.a + 1) l.c n) ∙ l.invariant
      | else-next_is w ↦ ap (λ (a : ℕ). a + used (l.c + 1) (n - (l.c + 1)) (drop a s)) w.a-is
          ∙ sym (skip_listed s l.a l.c (n - l.c) more (sym c.next_is.ensures ∙ w.if-next_is.false) ∙ fewer s l.a l.c n) ∙ l.invariant
    ]

pub returns : goal.returns
returns c =
    let l = c.loop-c in
    sym (skip_done c.args.set.now l.a l.c (c.args.first + c.args.b - l.c) (omega arith)) ∙ l.invariant
