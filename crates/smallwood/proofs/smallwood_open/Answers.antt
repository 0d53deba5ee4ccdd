-- `smallwood::smallwood_open` meets its contract: by the opener's answer.
use mathlib.Core.Path.{◌∙◌, ap}
use Prim.Native.Nat.{ℕ}
use Rattle.lists.specs.Bytes.{Bytes}
use Rattle.scheme.specs.Layers.{lent_of}
use Rattle.smallwood.proofs.Length.{length_told}
use Rattle.smallwood.proofs.smallwood_open.Goals as goal

pub returns : goal.returns
returns c =
    let s = c.args in
    let o = c.open-opened in
    ap {B = ℕ × ℕ × Bytes} (λ (z : ℕ × ℕ). (z.0, z.1, o.new.reply)) c.put_number.ensures
    ∙ length_told s.question.now (lent_of s.coefficients.now s.tails.now s.blinds.now s.masks.now s.nonces.now s.salt.now) s.table.now s.tree.now s.reply.now s.length.now
    o.result o.new.reply o.ensures
