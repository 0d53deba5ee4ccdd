-- `row_sums::sum_rows` meets its contract: the sums of the parts in the fronts of two rooms, then reduced.
use mathlib.Core.Path.{◌≡◌, refl, sym, ap₂, ◌∙◌, subst}
use mathlib.Core.List.{List}
use Prim.Native.Nat.{ℕ, ◌*◌, ◌≤◌}
use lib.ListN.{length, take, replicate}
use lib.Seq.{length-take-le}
use Rattle.lists.specs.All.{All, all_take, all_replicate}
use Rattle.lists.specs.Parts.{lent_front}
use Rattle.lists.specs.Tabulate.{tabulate}
use Rattle.algebra.specs.Sums.{Summed, reduced_at, summed_done}
use native.Mathlib.Omega.{arith}
use Rattle.row_sums.proofs.sum_rows.Goals as goal

pub add_rows-requires : goal.add_rows-requires
add_rows-requires c =
    let n : ℕ = length c.args.out.now in
    let x : List ℕ = replicate 64 0 in
    let u : length (take n x) ≡ n = length-take-le n x (omega (arith, c.requires.2)) in
    let zero : All (λ t. t ≡ 0) (take n x) = all_take (λ t. t ≡ 0) n x (all_replicate (λ t. t ≡ 0) 64 0 refl) in
    (refl, subst (λ (i : ℕ). i * length c.args.weights.now ≤ length c.args.rows.now) (sym u) c.requires.0, c.requires.1, zero, zero)

pub returns : goal.returns
returns c =
    let n : ℕ = length c.args.out.now in
    let x : List ℕ = replicate 64 0 in
    let p : List ℕ = c.add_rows.new.low in
    let r : List ℕ = c.add_rows.new.high in
    let h : n ≤ 64 = c.requires.2 in
    c.reduce_sums.ensures
    ∙ ap₂ (λ (a b : List ℕ). tabulate n (reduced_at a b)) (lent_front n p x h c.add_rows.auto.low) (lent_front n r x h c.add_rows.auto.high)
    ∙ summed_done c.args.weights.now n c.args.rows.now (length c.args.weights.now) p r refl
    (subst (λ (i : ℕ). Summed c.args.weights.now i c.args.rows.now (length c.args.weights.now) p r) (length-take-le n x h) c.add_rows.ensures.0)
