-- `counter_search::find_counter` meets its contract.
use mathlib.Core.List.{List}
use lib.Seq.{length-take-le}
use lib.ListN.{length, replicate, take}
use Rattle.sponge.specs.Draw.{drawn_after}
use Rattle.lists.specs.Least.{least}
use Rattle.counter_search.specs.Tried.{tried_after}
use Rattle.counter_search.proofs.Tried.{found-drawn, rest_put, rest_of, search_is}
use Prim.Native.Nat.{◌*◌, ◌+◌, ◌-◌, ◌/◌, ℕ}
use mathlib.Core.Path.{refl, ◌∙◌, ◌≡◌, ap, ap₂, sym}
use native.Mathlib.Omega.{arith}
use Rattle.counter_search.proofs.find_counter.Goals as goal

pub slice_bounds-draw_after-end : goal.slice_bounds-draw_after-end
slice_bounds-draw_after-end c =
    let putWord' = c.put_word in
    let x = c.args.string.now in
    let size : length putWord'.new.out ≡ 139 = putWord'.auto.out ∙ c.search-counter.auto.tail ∙ c.put_bytes.auto.out in
    sym (length-take-le (length x - 136 * (length x / 136) + 4) putWord'.new.out (omega (arith, size)))

pub returns : goal.returns
returns c =
    let absorbPrefix' = c.absorb_prefix-a in
    let putBytes' = c.put_bytes in
    let putWord' = c.put_word in
    let search' = c.search-counter in
    let s = c.args in
    let x = s.string.now in
    let from : ℕ = 136 * (length x / 136) in
    let left : ℕ = length x - from in
    let rest : take left putBytes'.new.out ≡ rest_of x = rest_put x (replicate 139 0) putBytes'.new.out from refl putBytes'.ensures in
    let size : length search'.new.tail ≡ 139 = search'.auto.tail ∙ putBytes'.auto.out in record {
      value = search'.ensures.value ∙ ap₂ (λ (a : List ℕ) (y : List ℕ). least s.limit (tried_after s.kappa a y)) absorbPrefix'.ensures rest ∙ search_is s.kappa s.limit x (rest_of x) refl;
      out_after = c.draw_after.ensures ∙ ap (λ (a : List ℕ). drawn_after a (take (left + 4) putWord'.new.out) (length s.out.now)) absorbPrefix'.ensures
          ∙ found-drawn x search'.result left (length s.out.now) search'.new.tail putWord'.new.out (omega (arith, size)) (search'.ensures.tail_unchanged ∙ rest) putWord'.ensures;
    }
