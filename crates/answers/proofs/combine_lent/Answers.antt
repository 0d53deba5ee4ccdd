-- `answers::combine_lent` meets its contract: the columns' values at z, and after them the combination of the tails.
use mathlib.Core.Path.{◌≡◌}
use mathlib.Core.List.{List}
use Prim.Native.Nat.{ℕ}
use lib.ListN.{length, length-replicate, replicate}
use Rattle.lent.specs.Witnessed.{witnessed}
use Rattle.commitment.specs.Shape.{sizes_in}
use Rattle.answers.proofs.Rows.{columns_ask, columns-length, combined, rest_ask, weights_fit, weights-kept, weights-length, weights_room}
use Rattle.answers.proofs.combine_lent.Goals as goal

pub slice_bounds-weights-end : goal.slice_bounds-weights-end
slice_bounds-weights-end c =
    let b : List ℕ = replicate 64 0 in
    let l : length b ≡ 64 = length-replicate {A = ℕ} 64 0 in
    let s = c.args in
    let m = c.row_count-rows in
    let n = c.column_count-columns in
    weights_fit (sizes_in s.s) (witnessed s.witness.now) c.requires.0 m.result n.result s.out.now b m.ensures n.ensures c.requires.1 l

pub slice_bounds-powers-end : goal.slice_bounds-powers-end
slice_bounds-powers-end c =
    let b : List ℕ = replicate 64 0 in
    let l : length b ≡ 64 = length-replicate {A = ℕ} 64 0 in
    let s = c.args in
    let m = c.row_count-rows in
    let n = c.column_count-columns in
    weights_room (sizes_in s.s) (witnessed s.witness.now) c.requires.0 m.result n.result s.out.now b m.ensures n.ensures c.requires.1 l

pub slice_bounds-weights-end-2 : goal.slice_bounds-weights-end-2
slice_bounds-weights-end-2 c =
    let b : List ℕ = replicate 64 0 in
    let l : length b ≡ 64 = length-replicate {A = ℕ} 64 0 in
    let s = c.args in
    let m = c.row_count-rows in
    let n = c.column_count-columns in
    let w = c.powers in
    weights-kept (sizes_in s.s) (witnessed s.witness.now) c.requires.0 m.result n.result s.out.now b m.ensures n.ensures c.requires.1 l s.z.0 w.new.out w.ensures

pub slice_bounds-combine_columns-end : goal.slice_bounds-combine_columns-end
slice_bounds-combine_columns-end c =
    let b : List ℕ = replicate 64 0 in
    let l : length b ≡ 64 = length-replicate {A = ℕ} 64 0 in
    let s = c.args in
    let m = c.row_count-rows in
    let n = c.column_count-columns in
    let w = c.powers in
    weights-length (sizes_in s.s) (witnessed s.witness.now) c.requires.0 m.result n.result s.out.now b m.ensures n.ensures c.requires.1 l s.z.0 w.new.out w.ensures

pub slice_bounds-combine_columns-end-3 : goal.slice_bounds-combine_columns-end-3
slice_bounds-combine_columns-end-3 c =
    let b : List ℕ = replicate 64 0 in
    let l : length b ≡ 64 = length-replicate {A = ℕ} 64 0 in
    let s = c.args in
    let m = c.row_count-rows in
    let n = c.column_count-columns in
    columns-length (sizes_in s.s) (witnessed s.witness.now) c.requires.0 m.result n.result s.out.now b m.ensures n.ensures c.requires.1 l

pub combine_columns-requires : goal.combine_columns-requires
combine_columns-requires c =
    let b : List ℕ = replicate 64 0 in
    let l : length b ≡ 64 = length-replicate {A = ℕ} 64 0 in
    let s = c.args in
    let m = c.row_count-rows in
    let n = c.column_count-columns in
    let w = c.powers in
    columns_ask (sizes_in s.s) (witnessed s.witness.now) c.requires.0 m.result n.result s.out.now b m.ensures n.ensures c.requires.1 l s.z.0 w.new.out w.ensures

pub slice_bounds-weights-end-3 : goal.slice_bounds-weights-end-3
slice_bounds-weights-end-3 c =
    let b : List ℕ = replicate 64 0 in
    let l : length b ≡ 64 = length-replicate {A = ℕ} 64 0 in
    let s = c.args in
    let m = c.row_count-rows in
    let n = c.column_count-columns in
    let w = c.powers in
    weights-kept (sizes_in s.s) (witnessed s.witness.now) c.requires.0 m.result n.result s.out.now b m.ensures n.ensures c.requires.1 l s.z.0 w.new.out w.ensures

pub slice_bounds-combine_tails-end : goal.slice_bounds-combine_tails-end
slice_bounds-combine_tails-end c =
    let b : List ℕ = replicate 64 0 in
    let l : length b ≡ 64 = length-replicate {A = ℕ} 64 0 in
    let s = c.args in
    let m = c.row_count-rows in
    let n = c.column_count-columns in
    let w = c.powers in
    weights-length (sizes_in s.s) (witnessed s.witness.now) c.requires.0 m.result n.result s.out.now b m.ensures n.ensures c.requires.1 l s.z.0 w.new.out w.ensures

pub combine_tails-requires : goal.combine_tails-requires
combine_tails-requires c =
    let b : List ℕ = replicate 64 0 in
    let l : length b ≡ 64 = length-replicate {A = ℕ} 64 0 in
    let s = c.args in
    let m = c.row_count-rows in
    let n = c.column_count-columns in
    let w = c.powers in
    let y = c.combine_columns in
    rest_ask (sizes_in s.s) (witnessed s.witness.now) c.requires.0 m.result n.result s.out.now b m.ensures n.ensures c.requires.1 l s.z.0 w.new.out w.ensures
    y.new.out y.ensures

pub returns : goal.returns
returns c =
    let b : List ℕ = replicate 64 0 in
    let l : length b ≡ 64 = length-replicate {A = ℕ} 64 0 in
    let s = c.args in
    let m = c.row_count-rows in
    let n = c.column_count-columns in
    let w = c.powers in
    let y = c.combine_columns in
    combined (sizes_in s.s) (witnessed s.witness.now) c.requires.0 m.result n.result s.out.now b m.ensures n.ensures c.requires.1 l s.z.0 w.new.out w.ensures
    y.new.out y.ensures c.combine_tails.new.out c.combine_tails.ensures
