-- `drawing::qualified` meets its contract.
use Rattle.drawing.proofs.Parts.{qualified_is}
use native.Mathlib.Nat.{one-mul}
use lib.Pow.{shl_exact}
use lib.ListN.{get_or}
use lib.Dec.{ltb}
use mathlib.Core.Path.{◌≡◌, ◌∙◌, ap₂}
use Prim.Native.Nat.{◌-◌, ◌*◌, ◌+◌, ◌^◌}
use borrow.Author.Rules.{rules}
use native.Mathlib.Omega.{arith}
use Rattle.drawing.proofs.qualified.Goals as goal

pub returns : goal.returns
returns c =
    let x = c.args.draw.now in
    let k = 16 - c.args.kappa in
    let first : c.from.result ≡ 256 * get_or x 0 0 + get_or x 1 0 = omega (arith, c.from.ensures, c.from_be_bytes-first.ensures) in
    ap₂ ltb first (shl_exact 1 k 32 (omega arith) (omega arith) ∙ one-mul (2 ^ k))
    ∙ qualified_is c.args.kappa x (search rules) (search rules) (search rules) (search rules)
