use Rattle.std.proofs.Common.{ℕ, ◌*◌, List, [], ◌∷◌, length, ap₂, arith, length-append}
use Rattle.std.proofs.lemmas.Slice.Zip.{zip_turn, zip_end}
use Rattle.algebra.specs.Wrapped.{wrapped_none, wrapped_turn, wrapped_spare, wrapped_done}
use Rattle.sums.proofs.dot.Goals as goal

pub loop-x-init : goal.loop-x-init
loop-x-init c = wrapped_none c.args.a.now c.args.b.now

pub add_product-s-requires : goal.add_product-s-requires
add_product-s-requires c =
    let loop = c.loop-x in
    let a : List ℕ = c.args.a.now in
    let b : List ℕ = c.args.b.now in
    let t = zip_turn a b loop.yielded c.into_iter-x-iterator.result loop.x-iterator c.next.new.self _ (cc) (cc) loop.yielded_by _ c.in-Some.is c.next.ensures.steps in
    (wrapped_spare a b (length loop.yielded) loop.s.all loop.s.upper (omega (arith, t.0, c.requires.1)) loop.invariant).1

pub loop-x-preserved : goal.loop-x-preserved
loop-x-preserved c =
    let loop = c.loop-x in
    let a : List ℕ = c.args.a.now in
    let b : List ℕ = c.args.b.now in
    let r = c.add_product-s in
    let k : ℕ = length loop.yielded in
    let t = zip_turn a b loop.yielded c.into_iter-x-iterator.result loop.x-iterator c.next.new.self _ (cc) (cc) loop.yielded_by _ c.in-Some.is c.next.ensures.steps in
    rw (length-append loop.yielded ((c.in-Some.field-0-0, c.in-Some.field-0-1) ∷ []))
    (wrapped_turn a b k loop.s.all loop.s.upper (c.in-Some.field-0-0.now * c.in-Some.field-0-1.now) r.result.all r.result.upper t.0 c.requires.0 (ap₂ ◌*◌ (t.2 0) (t.3 0))
    r.ensures.2 r.ensures.0 r.ensures.1 loop.invariant)

pub reduce_parts-requires : goal.reduce_parts-requires
reduce_parts-requires c =
    let loop = c.loop-x in
    let a : List ℕ = c.args.a.now in
    let b : List ℕ = c.args.b.now in
    let e = zip_end a b loop.yielded c.into_iter-x-iterator.result loop.x-iterator c.next.new.self _ (cc) (cc) loop.yielded_by c.in-None.is c.next.ensures.steps in
    wrapped_spare a b (length loop.yielded) loop.s.all loop.s.upper (omega (arith, e, c.requires.1)) loop.invariant

pub returns : goal.returns
returns c =
    let loop = c.loop-x in
    let a : List ℕ = c.args.a.now in
    let b : List ℕ = c.args.b.now in
    let e = zip_end a b loop.yielded c.into_iter-x-iterator.result loop.x-iterator c.next.new.self _ (cc) (cc) loop.yielded_by c.in-None.is c.next.ensures.steps in
    wrapped_done a b (length loop.yielded) loop.s.all loop.s.upper c.reduce_parts.result.0 (omega (arith, e, c.requires.1)) (omega (arith, e, c.requires.0)) c.requires.0 loop.invariant c.reduce_parts.ensures
