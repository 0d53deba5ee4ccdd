use Rattle.lists.specs.Bytes.{doubles}
use mathlib.Core.List.{List, []}
use Rattle.leaf_draw.specs.Place.{place_of}
use Rattle.leaf_draw.proofs.Place.{place_few}
use native.Mathlib.Nat.{mod-lt}
use Rattle.fiat_shamir.specs.Draw.{ranks_at}
use Rattle.fiat_shamir.specs.Ranks.{drawn_into}
use lib.Seq.{length-take-le, take_all}
use lib.ListN.{length, take, drop}
use mathlib.Core.Path.{sym, ◌≡◌, ◌∙◌, ap}
use Rattle.leaf_draw.proofs.Walk.{drawn_none, walk_next}
use Prim.Native.Nat.{◌-◌, ◌%◌, ◌≤◌, ℕ}
use Rattle.keccak.specs.Strings.{word}
use borrow.Author.Rules.{rules}
use native.Mathlib.Omega.{arith}
use Rattle.leaf_draw.proofs.draw_leaves.Goals as goal

pub loop-j-init : goal.loop-j-init
loop-j-init c = (search rules, drawn_none c.args.leaves (drop ranks_at c.args.draw.now))

-- a leaf's place is among those chosen so far, or after them
among : (r j k : ℕ) (o : List ℕ) → j ≤ length o → k ≡ place_of r (take j o) → k ≤ j
among r j k o h e = omega (arith, e, place_few r (take j o), length-take-le j o h)

pub slice_bounds-place_of-end-in-loop-j : goal.slice_bounds-place_of-end-in-loop-j
slice_bounds-place_of-end-in-loop-j c = sym (length-take-le c.loop-j.j c.loop-j.out (omega arith))

pub place_of-k-requires : goal.place_of-k-requires
place_of-k-requires c =
    let loop = c.loop-j in
    (omega (arith, mod-lt c.word.result {m = c.args.leaves - loop.j} (omega arith)), omega (arith, length-take-le loop.j loop.out (omega arith)))

pub overflow_add-rank : goal.overflow_add-rank
overflow_add-rank c =
    let loop = c.loop-j in
    let u = c.args.leaves - loop.j in
    omega (arith, mod-lt c.word.result {m = u} (omega arith), among (c.word.result % u) loop.j c.place_of-k.result loop.out (omega arith) c.place_of-k.ensures)

pub insert-requires : goal.insert-requires
insert-requires c =
    let loop = c.loop-j in
    (among (c.word.result % (c.args.leaves - loop.j)) loop.j c.place_of-k.result loop.out (omega arith) c.place_of-k.ensures, omega arith)

pub loop-j-preserved : goal.loop-j-preserved
unfolding word
loop-j-preserved c =
    let s = c.args in
    let loop = c.loop-j in
    let k = c.place_of-k in (
      c.insert.auto.out ∙ loop.invariant.0,
      walk_next s.leaves s.draw.now ranks_at loop.j loop.out c.insert.new.out (omega arith) loop.invariant.1 c.word.result k.result c.word.ensures k.ensures
          (among (c.word.result % (s.leaves - loop.j)) loop.j k.result loop.out (omega arith) k.ensures)
          c.insert.ensures,
    )

pub returns : goal.returns
returns c =
    let loop = c.loop-j in
    let s = c.args in
    let e : loop.j ≡ length s.out.now = omega arith in
    sym (take_all loop.j loop.out (omega arith)) ∙ loop.invariant.1 ∙ ap (λ (n : ℕ). drawn_into s.leaves [] (doubles n (drop ranks_at s.draw.now))) e
