-- `keccak_round::round` meets its contract: each lane that π leaves by its rotation, then each D[x] by the contract of `theta_effect`, then χ and ι on
-- the lanes that are complemented; and the parities.
use mathlib.Core.Path.{refl, ap, ◌∙◌}
use mathlib.Core.List.{List, []}
use Prim.Native.Nat.{ℕ}
use Rattle.keccak.proofs.Literal.{cons}
use Rattle.keccak.proofs.Chi.{few_complements}
use Rattle.keccak.proofs.Carried.{carried}
use Rattle.keccak.proofs.ByLanes.{round_by_lanes}
use Rattle.keccak_round.proofs.round.Goals as goal

pub returns : goal.returns
returns c =
    let a = c.args.a in
    let k = c.args.k in
    ap (λ (b : List ℕ). carried (few_complements b k))
    (cons c.rotate-b0.ensures
    (cons c.rotate-b1.ensures
    (cons c.rotate-b2.ensures
    (cons c.rotate-b3.ensures
    (cons c.rotate-b4.ensures
    (cons c.rotate-b5.ensures
    (cons c.rotate-b6.ensures
    (cons c.rotate-b7.ensures
    (cons c.rotate-b8.ensures
    (cons c.rotate-b9.ensures
    (cons c.rotate-b10.ensures
    (cons c.rotate-b11.ensures
    (cons c.rotate-b12.ensures
    (cons c.rotate-b13.ensures
    (cons c.rotate-b14.ensures
    (cons c.rotate-b15.ensures
    (cons c.rotate-b16.ensures
    (cons c.rotate-b17.ensures
    (cons c.rotate-b18.ensures
    (cons c.rotate-b19.ensures
    (cons c.rotate-b20.ensures
    (cons c.rotate-b21.ensures
    (cons c.rotate-b22.ensures
    (cons c.rotate-b23.ensures
    (cons {s = []} {t = []} c.rotate-b24.ensures
    refl)))))))))))))))))))))))))
    ∙ round_by_lanes a c.theta_effect-d.result k c.theta_effect-d.ensures
