-- `divided_differences::invert` meets its contract: one inverse, and a walk back.
use mathlib.Core.Path.{refl, sym}
use mathlib.Core.List.{List}
use Prim.Native.Nat.{ℕ}
use lib.ListN.{length}
use Rattle.algebra.specs.Inverses.{none_zero, some_zero, inverse_asks, inverse_all}
use Rattle.divided_differences.proofs.invert.Goals as goal

pub returns-then-p-eq0 : goal.returns-then-p-eq0
returns-then-p-eq0 c =
    let p = c.products_before-p in
    (sym (some_zero c.args.s.now p.result.0 c.requires.0 p.ensures.0 c.if-p-eq0.true), refl)

pub inverse-a-requires : goal.inverse-a-requires
inverse-a-requires c =
    let p = c.products_before-p in
    inverse_asks c.args.s.now (length c.args.s.now) p.result.0 p.ensures.0 c.if-p-eq0.false

pub inverses_back-requires : goal.inverses_back-requires
inverses_back-requires c =
    let p = c.products_before-p in
    let s : List ℕ = c.args.s.now in
    (p.ensures.1, inverse_all s (length s) p.result.0 c.inverse-a.result.0 p.ensures.0 c.if-p-eq0.false c.inverse-a.ensures)

pub returns : goal.returns
returns c =
    let p = c.products_before-p in
    (sym (none_zero c.args.s.now p.result.0 p.ensures.0 c.if-p-eq0.false), c.inverses_back.ensures)
