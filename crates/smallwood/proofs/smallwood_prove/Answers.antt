-- `smallwood::smallwood_prove` meets its contract: by the prover's answer.
use mathlib.Core.Path.{◌∙◌, ap}
use Prim.Native.Nat.{ℕ}
use Rattle.lists.specs.Bytes.{Bytes}
use Rattle.scheme.specs.Layers.{lent_of}
use Rattle.smallwood.proofs.ProofLength.{proof_told}
use Rattle.smallwood.proofs.smallwood_prove.Goals as goal

pub returns : goal.returns
returns c =
    let s = c.args in
    let p = c.prove-proved in
    ap {B = ℕ × ℕ × Bytes} (λ (z : ℕ × ℕ). (z.0, z.1, p.new.proof)) c.put_number.ensures
    ∙ proof_told s.question.now s.kappa s.limit (lent_of s.coefficients.now s.tails.now s.blinds.now s.masks.now s.nonces.now s.salt.now) s.table.now s.tree.now s.proof.now s.length.now
    p.result p.new.proof p.ensures
