use mathlib.Core.Path.{◌≡◌, refl, sym, ap, ◌∙◌}
use mathlib.Core.List.{List}
use Prim.Native.Nat.{ℕ, ◌/◌, ◌%◌, ◌<◌, ◌≤◌}
use native.Mathlib.Omega.{arith}
use lib.ListN.{length, get_or, set, take}
use lib.Seq.{get_or-take, length-take-le}
use Rattle.lists.specs.Tabulate.{tabulate, tabulate_is, get_d_tabulate, filled, fill_more, fill_all}
use Rattle.keccak.specs.Strings.{bytes}
use Rattle.squeezing.proofs.Shift.{pow-bytes}
use Rattle.squeezing.proofs.squeeze_block.Invariants.{byte}
use Rattle.squeezing.proofs.squeeze_block.Goals as goal

front : (a : List ℕ) (d : ℕ) → d ≤ 200 → tabulate d (byte a) ≡ take d (bytes a)
front a d h =
    sym
    (tabulate_is d (byte a) (take d (bytes a)) (length-take-le d (bytes a) h)
    (λ k b. let inside : k < 200 = omega arith in get_or-take d (bytes a) k 0 b ∙ get_d_tabulate 200 (byte a) k inside))

pub loop-i-preserved : goal.loop-i-preserved
loop-i-preserved c =
    let l = c.loop-i in
    let a = c.args.a in
    let out = c.args.out.now in
    ap (λ (x : ℕ). set l.out l.i (get_or a (l.i / 8) 0 / x % 256)) (sym (pow-bytes (l.i % 8)))
    ∙ ap (λ (o : List ℕ). set o l.i (byte a l.i)) l.invariant
    ∙ fill_more (byte a) l.i out (omega arith)

pub returns : goal.returns
returns c =
    let l = c.loop-i in
    let a = c.args.a in
    let out = c.args.out.now in
    let all : l.i ≡ length out = omega arith in
    l.invariant ∙ ap (λ (n : ℕ). filled (byte a) n out) all ∙ fill_all (byte a) (length out) out refl ∙ front a (length out) (omega arith)
