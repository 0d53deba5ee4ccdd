-- `smallwood::check_in` meets its contract.
use mathlib.Core.Path.{◌∙◌, ap}
use mathlib.Core.List.{List}
use Prim.Native.Nat.{ℕ}
use Rattle.scheme.proofs.Work.{uncounted}
use Rattle.smallwood.specs.InBytes.{in_bytes}
use Rattle.smallwood.proofs.check_in.Goals as goal

pub returns : goal.returns
returns g c =
    let s = c.args in
    c.put_values.ensures ∙ ap (λ (z : ℕ × List ℕ). in_bytes z s.values.now)
    (uncounted s.question.now s.reply.now _ _ _ _ c.check-checked.ensures)
