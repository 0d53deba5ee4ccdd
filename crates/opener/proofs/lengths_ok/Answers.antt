-- `opener::lengths_ok` meets its contract.
use mathlib.Core.Path.{sym, ap, ap₂, ◌∙◌, subst}
use mathlib.Core.Bool.{Bool, ◌&&◌}
use Prim.Native.Nat.{ℕ}
use lib.Dec.{eqb}
use lib.ListN.{length}
use Rattle.lists.specs.Tests.{every_three}
use Rattle.tree.specs.Clauses.{IndexSet}
use Rattle.commitment.specs.Shape.{sizes_in}
use Rattle.scheme.proofs.Accepted.{sizes_in_order}
use Rattle.question.proofs.Answer.{asked_indices}
use Rattle.opener.proofs.Given.{sizes_ok_lem, points_few}
use Rattle.opener.proofs.lengths_ok.Goals as goal

pub lent_ok-lent-requires : goal.lent_ok-lent-requires
lent_ok-lent-requires c =
    let q = c.args.query.now in
    sizes_in_order (sizes_in q.shape) (sizes_ok_lem q.bytes.now q.shape q.m q.asks)

pub filled_ok-filled-requires : goal.filled_ok-filled-requires
filled_ok-filled-requires c =
    let q = c.args.query.now in
    sizes_in_order (sizes_in q.shape) (sizes_ok_lem q.bytes.now q.shape q.m q.asks)

pub length_for-requires : goal.length_for-requires
length_for-requires c =
    let q = c.args.query.now in (
      sizes_in_order (sizes_in q.shape) (sizes_ok_lem q.bytes.now q.shape q.m q.asks),
      points_few q.bytes.now q.shape q.m q.asks,
      subst (IndexSet q.shape.h) (sym c.requires) (asked_indices q.bytes.now q.shape q.m q.asks).1,
    )

pub returns : goal.returns
returns c =
    let n : ℕ = length c.args.reply.now in
    every_three _ _ _ c.both-2.result c.both.result (c.both.ensures ∙ ap₂ ◌&&◌ c.filled_ok-filled.ensures (ap (eqb n) c.length_for.ensures))
    (c.both-2.ensures ∙ ap (λ (x : Bool). x && c.both.result) c.lent_ok-lent.ensures)
