use Rattle.std.proofs.Common.{◌≡◌, ℕ, ◌<◌, ◌≤◌, List, length, refl, arith}
use Rattle.algebra.specs.Dot.{longest}
use Rattle.algebra.specs.Wrapped.{wrapped_none, wrapped_turn, wrapped_spare, wrapped_done}
use Rattle.sums.proofs.four_dots.Goals as goal

pub loop-i-init : goal.loop-i-init
loop-i-init c =
    let w : List ℕ = c.args.weights.now in
    (wrapped_none w c.args.a.now, wrapped_none w c.args.b.now, wrapped_none w c.args.c.now, wrapped_none w c.args.d.now)

pub add_product-s-requires : goal.add_product-s-requires
add_product-s-requires c =
    let loop = c.loop-i in
    (wrapped_spare c.args.weights.now c.args.a.now loop.i loop.s.all loop.s.upper (omega arith) loop.invariant.0).1

pub add_product-t-requires : goal.add_product-t-requires
add_product-t-requires c =
    let loop = c.loop-i in
    (wrapped_spare c.args.weights.now c.args.b.now loop.i loop.t.all loop.t.upper (omega arith) loop.invariant.1).1

pub add_product-u-requires : goal.add_product-u-requires
add_product-u-requires c =
    let loop = c.loop-i in
    (wrapped_spare c.args.weights.now c.args.c.now loop.i loop.u.all loop.u.upper (omega arith) loop.invariant.2).1

pub add_product-v-requires : goal.add_product-v-requires
add_product-v-requires c =
    let loop = c.loop-i in
    (wrapped_spare c.args.weights.now c.args.d.now loop.i loop.v.all loop.v.upper (omega arith) loop.invariant.3).1

pub loop-i-preserved : goal.loop-i-preserved
loop-i-preserved c =
    let loop = c.loop-i in
    let w : List ℕ = c.args.weights.now in
    let s = c.add_product-s in
    let t = c.add_product-t in
    let u = c.add_product-u in
    let v = c.add_product-v in
    let i : loop.i < length w = omega arith in (
      wrapped_turn w c.args.a.now loop.i loop.s.all loop.s.upper _ s.result.all s.result.upper i c.requires.1 refl s.ensures.2 s.ensures.0 s.ensures.1 loop.invariant.0,
      wrapped_turn w c.args.b.now loop.i loop.t.all loop.t.upper _ t.result.all t.result.upper i c.requires.2 refl t.ensures.2 t.ensures.0 t.ensures.1 loop.invariant.1,
      wrapped_turn w c.args.c.now loop.i loop.u.all loop.u.upper _ u.result.all u.result.upper i c.requires.3 refl u.ensures.2 u.ensures.0 u.ensures.1 loop.invariant.2,
      wrapped_turn w c.args.d.now loop.i loop.v.all loop.v.upper _ v.result.all v.result.upper i c.requires.4 refl v.ensures.2 v.ensures.0 v.ensures.1 loop.invariant.3,
    )

pub reduce_parts-requires : goal.reduce_parts-requires
reduce_parts-requires c =
    let loop = c.loop-i in
    wrapped_spare c.args.weights.now c.args.a.now loop.i loop.s.all loop.s.upper (omega arith) loop.invariant.0

pub reduce_parts-requires-2 : goal.reduce_parts-requires-2
reduce_parts-requires-2 c =
    let loop = c.loop-i in
    wrapped_spare c.args.weights.now c.args.b.now loop.i loop.t.all loop.t.upper (omega arith) loop.invariant.1

pub reduce_parts-requires-3 : goal.reduce_parts-requires-3
reduce_parts-requires-3 c =
    let loop = c.loop-i in
    wrapped_spare c.args.weights.now c.args.c.now loop.i loop.u.all loop.u.upper (omega arith) loop.invariant.2

pub reduce_parts-requires-4 : goal.reduce_parts-requires-4
reduce_parts-requires-4 c =
    let loop = c.loop-i in
    wrapped_spare c.args.weights.now c.args.d.now loop.i loop.v.all loop.v.upper (omega arith) loop.invariant.3

pub returns : goal.returns
returns c =
    let loop = c.loop-i in
    let w : List ℕ = c.args.weights.now in
    let l : loop.i ≤ longest = omega arith in
    let e : loop.i ≡ length w = omega arith in (
      wrapped_done w c.args.a.now loop.i loop.s.all loop.s.upper c.reduce_parts.result.0 l e c.requires.1 loop.invariant.0 c.reduce_parts.ensures,
      wrapped_done w c.args.b.now loop.i loop.t.all loop.t.upper c.reduce_parts-2.result.0 l e c.requires.2 loop.invariant.1 c.reduce_parts-2.ensures,
      wrapped_done w c.args.c.now loop.i loop.u.all loop.u.upper c.reduce_parts-3.result.0 l e c.requires.3 loop.invariant.2 c.reduce_parts-3.ensures,
      wrapped_done w c.args.d.now loop.i loop.v.all loop.v.upper c.reduce_parts-4.result.0 l e c.requires.4 loop.invariant.3 c.reduce_parts-4.ensures,
    )
