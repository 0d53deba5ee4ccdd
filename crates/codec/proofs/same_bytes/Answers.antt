use mathlib.Core.Path.{refl, sym, ap, ap₂, ◌∙◌}
use mathlib.Core.Bool.{Bool, ◌&&◌}
use Prim.Native.Nat.{ℕ}
use lib.Dec.{eqb}
use lib.ListN.{length, take}
use Rattle.std.proofs.lemmas.List.{length_push}
use Rattle.std.proofs.lemmas.Slice.Zip.{zip_turn, zip_end}
use Rattle.lists.specs.Tests.{same}
use Rattle.lists.specs.Scan.{same_next, same_done, other_length}
use borrow.Author.Rules.{rules}
use native.Mathlib.Omega.{arith}
use Rattle.codec.proofs.same_bytes.Goals as goal

pub returns-then-a-b : goal.returns-then-a-b
returns-then-a-b c = sym (other_length c.args.a.now c.args.b.now c.if-a-b.true)

pub loop-x-init : goal.loop-x-init
unfolding same
loop-x-init c = refl

pub loop-x-preserved : goal.loop-x-preserved
loop-x-preserved c =
    let a = c.args.a.now in
    let b = c.args.b.now in
    let loop = c.loop-x in
    let i = length loop.yielded in
    let turn = zip_turn a b loop.yielded c.into_iter-x-iterator.result loop.x-iterator c.next.new.self _ (search rules) (search rules) loop.yielded_by _ c.in-Some.is c.next.ensures.steps in
    ap₂ (λ (t u : Bool). t && u) loop.invariant (ap₂ eqb (turn.2 0) (turn.3 0))
    ∙ same_next a b i turn.0 c.if-a-b.false
    ∙ ap (λ (n : ℕ). same (take n a) (take n b)) (sym (length_push loop.yielded (c.in-Some.x, c.in-Some.y)))

pub returns : goal.returns
returns c =
    let a = c.args.a.now in
    let b = c.args.b.now in
    let loop = c.loop-x in
    let n = zip_end a b loop.yielded c.into_iter-x-iterator.result loop.x-iterator c.next.new.self _ (search rules) (search rules) loop.yielded_by c.in-None.is c.next.ensures.steps in
    loop.invariant ∙ same_done a b (length loop.yielded) (omega (arith, n, c.if-a-b.false)) c.if-a-b.false
