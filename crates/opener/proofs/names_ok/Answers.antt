-- `opener::names_ok` meets its contract.
use mathlib.Core.Path.{ap, ap₂, ◌∙◌}
use mathlib.Core.Bool.{◌&&◌}
use mathlib.Core.List.{List}
use Prim.Native.Nat.{ℕ, ◌-◌}
use native.Mathlib.Nat.{le_of_eq}
use lib.ListN.{length, take, drop, length-drop}
use lib.Seq.{take_all}
use Rattle.lists.specs.Tests.{same}
use Rattle.opener.proofs.names_ok.Goals as goal

pub returns : goal.returns
returns c =
    let t : List ℕ = c.args.tree.now in
    let b : List ℕ = c.args.question.now in
    let a : ℕ = length t - 32 in
    c.both.ensures
    ∙ ap₂ ◌&&◌
    (c.same_bytes-root.ensures
    ∙ ap₂ same (take_all (length t - a) (drop a t) (le_of_eq (length-drop a t)))
    (ap₂ (λ (to from : ℕ). take (to - from) (drop from b)) c.salt_at-middle.ensures c.root_at-from.ensures))
    (c.same_bytes-known.ensures ∙ ap (same c.args.salt.now) (ap₂ (λ (to from : ℕ). take (to - from) (drop from b)) c.challenges_at-to.ensures c.salt_at-middle.ensures))
