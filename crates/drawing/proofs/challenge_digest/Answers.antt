-- `drawing::challenge_digest` meets its contract.
use Rattle.scheme.specs.Question.{challenges_at}
use mathlib.Core.List.{◌∷◌}
use Prim.Native.Nat.{suc, ℕ}
use Rattle.drawing.proofs.Parts.{prefixed_whole}
use Rattle.sponge.specs.Digest.{digest}
use lib.ListN.{length, take, replicate}
use lib.Seq.{length-take-le}
use mathlib.Core.Path.{sym, ◌≡◌, ◌∙◌, ap}
use borrow.Author.Rules.{rules}
use native.Mathlib.Omega.{arith}
use Rattle.drawing.proofs.challenge_digest.Goals as goal

pub slice_bounds-put_prefixed-end : goal.slice_bounds-put_prefixed-end
slice_bounds-put_prefixed-end c = sym (length-take-le c.challenges_at-to.result c.args.question.now (search rules))

pub put_prefixed-requires : goal.put_prefixed-requires
put_prefixed-requires c =
    omega (arith, c.challenges_at-to.ensures, length-take-le c.challenges_at-to.result c.args.question.now (search rules))

pub returns : goal.returns
returns c =
    let b = c.args.question.now in
    let size : length (take c.challenges_at-to.result b) ≡ challenges_at = length-take-le c.challenges_at-to.result b (search rules) ∙
    c.challenges_at-to.ensures in
    c.digest.ensures
    ∙ ap digest (c.put_prefixed.ensures ∙ prefixed_whole 2 (take c.challenges_at-to.result b) (replicate (suc challenges_at) 0) (ap suc (sym size)) ∙ ap
    (λ (n : ℕ). 2 ∷ take n b) c.challenges_at-to.ensures)
