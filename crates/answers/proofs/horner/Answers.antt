use mathlib.Core.Path.{◌≡◌, refl, ◌∙◌, ap}
use Prim.Native.Nat.{ℕ, ◌+◌, ◌*◌, ◌-◌}
use lib.ListN.{length, take, drop}
use Rattle.algebra.specs.Dot.{accumulate_n}
use Rattle.answers.proofs.Combining.{combined_from, combined_length, combined_last, combined_next, combined_all}
use native.Mathlib.Omega.{arith}
use Rattle.answers.proofs.horner.Goals as goal

pub loop-j-init : goal.loop-j-init
loop-j-init c =
    let s = c.args in
    let n : ℕ = length s.out.now in
    let e : c.fold.new.acc ≡ combined_from n s.mu s.z.0 s.rows.now (s.mu - 1) = c.fold.ensures ∙ combined_last n s.mu s.z.0 s.rows.now
    c.requires.whole s.out.now c.requires.some refl in
    (e, ap length e ∙ combined_length n s.mu s.z.0 s.rows.now (s.mu - 1))

pub loop-j-preserved : goal.loop-j-preserved
loop-j-preserved c =
    let s = c.args in
    let loop = c.loop-j in
    let n : ℕ = length s.out.now in
    let e : c.fold-in-loop-j.new.acc ≡ combined_from n s.mu s.z.0 s.rows.now (loop.j - 1) =
    c.fold-in-loop-j.ensures
    ∙ ap (accumulate_n (take (n * (loop.j - 1) + n - n * (loop.j - 1)) (drop (n * (loop.j - 1)) s.rows.now)) s.z.0) loop.invariant.0
    ∙ combined_next n s.mu s.z.0 s.rows.now c.requires.whole loop.j (omega arith) (omega arith) in
    (e, ap length e ∙ combined_length n s.mu s.z.0 s.rows.now (loop.j - 1))

pub returns : goal.returns
returns c =
    let s = c.args in
    let n : ℕ = length s.out.now in
    let e : c.loop-j.j ≡ 0 = omega arith in
    c.loop-j.invariant.0 ∙ ap (combined_from n s.mu s.z.0 s.rows.now) e ∙ combined_all n s.mu s.z.0 s.rows.now
