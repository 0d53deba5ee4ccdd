use mathlib.Core.Path.{◌≡◌, refl, ◌∙◌, ap, subst}
use mathlib.Core.List.{List}
use Prim.Native.Nat.{ℕ, ◌*◌, ◌-◌, ◌%◌}
use lib.ListN.{length, get_or, length-set}
use Rattle.lists.specs.Fill.{Filled, entry_of, filled_none, filled_own, fill-back, fill_behind}
use Rattle.lists.specs.Tabulate.{length-tabulate, get_d_tabulate}
use Rattle.algebra.specs.Prime.{q}
use Rattle.algebra.specs.Inverse.{inv_n}
use Rattle.algebra.specs.Inverses.{before_n, inverse-entry, inverse_left, inverses_done}
use native.Mathlib.Omega.{arith}
use Rattle.divided_differences.proofs.inverses_back.Goals as goal

pub loop-i-init : goal.loop-i-init
loop-i-init c =
    let s : List ℕ = c.args.s.now in
    (omega arith, ap length c.requires.0 ∙ length-tabulate (length s) (before_n s), refl, c.requires.1, filled_own s 0 (length s), filled_none (λ j. inv_n (get_or s j 0)) s (length s) (length s) (omega arith))

pub loop-i-preserved : goal.loop-i-preserved
loop-i-preserved c =
    let multiply = c.multiply-v in
    let multiply2 = c.multiply-a in
    let loop = c.loop-i in
    let s : List ℕ = c.args.s.now in
    let i : ℕ = loop.i in
    let v : ℕ = multiply.result.0 in
    let own : get_or loop.s (i - 1) 0 ≡ get_or s (i - 1) 0 = loop.invariant.4 (i - 1) (omega arith) (omega arith) in
    let b : get_or c.args.before.now (i - 1) 0 ≡ before_n s (i - 1) = ap (λ (t : List ℕ). get_or t (i - 1) 0) c.requires.0 ∙ get_d_tabulate (length s) (before_n s) (i - 1) (omega arith) in (
      omega arith,
      loop.invariant.1,
      simp length-set loop.invariant.2,
      inverse_left s loop.a.0 i (omega arith) loop.invariant.3 multiply2.result.0 (multiply2.ensures ∙ ap (λ (t : ℕ). loop.a.0 * t % q) own),
      fill_behind (entry_of s) loop.s 0 (i - 1) (i - 1) v (omega arith) (λ j l m. loop.invariant.4 j l (omega arith)),
      fill-back (λ j. inv_n (get_or s j 0)) loop.s i (length s) v (omega arith) (omega arith)
          (inverse-entry s loop.a.0 i (omega arith) loop.invariant.3 v (multiply.ensures ∙ ap (λ (t : ℕ). loop.a.0 * t % q) b)) loop.invariant.5,
    )

pub returns : goal.returns
returns c =
    let loop = c.loop-i in
    let s : List ℕ = c.args.s.now in
    let e : loop.i ≡ 0 = omega arith in
    inverses_done s loop.s loop.invariant.2 (subst (λ (k : ℕ). Filled (λ j. inv_n (get_or s j 0)) loop.s k (length s)) e loop.invariant.5)
