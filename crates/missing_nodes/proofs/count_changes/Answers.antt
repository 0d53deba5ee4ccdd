use mathlib.Core.Logic.{inl, inr}
use mathlib.Core.Path.{◌≡◌, sym, ap, ◌∙◌}
use Prim.Native.Nat.{ℕ, ◌-◌}
use native.Mathlib.Omega.{arith}
use lib.ListN.{length}
use Rattle.lists.specs.Tests.{tally, tally_none, tally_few}
use Rattle.missing_nodes.proofs.Counting.{differs, tallied, changes_are}
use Rattle.missing_nodes.proofs.count_changes.Goals as goal
use Rattle.missing_nodes.proofs.count_changes.Goals.{then-indices-a, else-indices-a}

pub loop-a-init : goal.loop-a-init
loop-a-init c = (omega arith, sym (tally_none (differs c.args.shift c.args.indices.now)))

pub overflow_add-n : goal.overflow_add-n
overflow_add-n c =
    let s = c.args in
    omega (arith, c.loop-a.invariant.1, tally_few c.loop-a.a (differs s.shift s.indices.now))

pub loop-a-preserved : goal.loop-a-preserved
loop-a-preserved c =
    let s = c.args in
    let l = c.loop-a in (
      omega arith,
      tallied s.shift s.indices.now l.n l.a c.if-indices-a.n l.invariant.1 (elim c.if-indices-a.branch [ then-indices-a w ↦ inl (w.if-indices-a.true, w.n-is) | else-indices-a w ↦ inr (w.if-indices-a.false, w.n-is) ]),
    )

pub returns : goal.returns
returns c =
    let s = c.args in
    let e : c.loop-a.a ≡ length s.indices.now - 1 = omega arith in
    changes_are s.shift s.indices.now c.loop-a.n (c.loop-a.invariant.1 ∙ ap (λ (k : ℕ). tally k (differs s.shift s.indices.now)) e)
