use native.Mathlib.Nat.{not-suc-le-zero}
use mathlib.Core.Path.{◌∙◌, ◌≡◌, ap, subst, sym}
use mathlib.Core.List.{List}
use lib.Seq.{length-take-le}
use lib.ListN.{take}
use Rattle.lists.specs.Least.{least_is, least_none}
use Rattle.counter_search.specs.Tried.{tried_after}
use Rattle.counter_search.proofs.Tried.{none_next, rest_stays, tail-tried}
use Prim.Native.Nat.{◌+◌, ◌<◌, ℕ}
use borrow.Author.Rules.{rules}
use native.Mathlib.Omega.{arith}
use Rattle.counter_search.proofs.search.Goals as goal

pub loop-c-init : goal.loop-c-init
loop-c-init c = (search rules, search rules, λ j l. absurd (not-suc-le-zero l))

pub put_word-requires : goal.put_word-requires
put_word-requires c = omega (arith, c.loop-c.invariant.0, c.requires.0)

pub slice_bounds-tail_qualifies-end : goal.slice_bounds-tail_qualifies-end
slice_bounds-tail_qualifies-end c =
    omega (arith, c.put_word.auto.out, c.loop-c.invariant.0, c.requires.0)

pub slice_bounds-tail_qualifies-end-in-loop-c : goal.slice_bounds-tail_qualifies-end-in-loop-c
slice_bounds-tail_qualifies-end-in-loop-c c =
    let putWord' = c.put_word in
    sym (length-take-le (c.args.at + 4) putWord'.new.out (omega (arith, putWord'.auto.out, c.loop-c.invariant.0, c.requires.0)))

pub shape_of-tail-then-tail_qualifies : goal.shape_of-tail-then-tail_qualifies
shape_of-tail-then-tail_qualifies c = c.put_word.auto.out ∙ c.loop-c.invariant.0

pub returns-then-tail_qualifies : goal.returns-then-tail_qualifies
returns-then-tail_qualifies c =
    let loop' = c.loop-c in
    let putWord' = c.put_word in
    let s = c.args in record {
      value = sym (least_is s.limit (tried_after s.kappa s.a (take s.at s.tail.now)) loop'.c (search rules)
          (ap (λ (y : List ℕ). tried_after s.kappa s.a y loop'.c) (sym loop'.invariant.1) ∙ sym
          (tail-tried s.kappa s.a loop'.c s.at loop'.tail putWord'.new.out (omega (arith, loop'.invariant.0, c.requires.0)) putWord'.ensures) ∙ sym c.tail_qualifies.ensures ∙ c.if-tail_qualifies.true)
          loop'.invariant.2);
      tail_unchanged = rest_stays s.kappa s.a loop'.c s.at loop'.tail putWord'.new.out (omega (arith, loop'.invariant.0, c.requires.0)) putWord'.ensures ∙ loop'.invariant.1;
    }

pub loop-c-preserved : goal.loop-c-preserved
loop-c-preserved c =
    let loop' = c.loop-c in
    let putWord' = c.put_word in
    let s = c.args in
    let stays = rest_stays s.kappa s.a loop'.c s.at loop'.tail putWord'.new.out (omega (arith, loop'.invariant.0, c.requires.0)) putWord'.ensures in (
      putWord'.auto.out ∙ loop'.invariant.0,
      stays ∙ loop'.invariant.1,
      none_next (tried_after s.kappa s.a (take s.at s.tail.now)) loop'.c loop'.invariant.2
          (ap (λ (y : List ℕ). tried_after s.kappa s.a y loop'.c) (sym loop'.invariant.1) ∙ sym
          (tail-tried s.kappa s.a loop'.c s.at loop'.tail putWord'.new.out (omega (arith, loop'.invariant.0, c.requires.0)) putWord'.ensures) ∙ sym c.tail_qualifies.ensures ∙ c.if-tail_qualifies.false),
    )

pub shape_of-tail : goal.shape_of-tail
shape_of-tail c = c.loop-c.invariant.0

pub returns : goal.returns
returns c =
    let loop' = c.loop-c in
    let s = c.args in
    let e : loop'.c ≡ s.limit = omega arith in
    record { value = sym (least_none s.limit (tried_after s.kappa s.a (take s.at s.tail.now)) (λ j l. loop'.invariant.2 j (subst (λ (n : ℕ). j < n) (sym e) l))); tail_unchanged = loop'.invariant.1 }
