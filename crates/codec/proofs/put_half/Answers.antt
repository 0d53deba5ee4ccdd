-- `codec::put_half` meets its contract.
use mathlib.Core.Path.{ap, ◌∙◌}
use mathlib.Core.List.{List}
use Prim.Native.Nat.{ℕ}
use lib.ListN.{length}
use Rattle.lists.specs.Spliced.{spliced}
use Rattle.codec.proofs.Library.{half-bytes}
use Rattle.codec.proofs.put_half.Goals as goal

pub returns : goal.returns
returns c =
    let s = c.args in
    c.put_bytes.ensures
    ∙ ap (λ (p : List ℕ). spliced s.at (length p) p s.out.now) c.to_le_bytes.ensures
    ∙ ap (λ (p : List ℕ). spliced s.at 2 p s.out.now) (half-bytes s.x)
