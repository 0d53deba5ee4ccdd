-- `prover::lengths_ok` meets its contract.
use mathlib.Core.Path.{◌∙◌, ap, ap₂}
use mathlib.Core.Bool.{Bool, ◌&&◌}
use lib.ListN.{length}
use lib.Dec.{eqb}
use Rattle.lists.specs.Tests.{every_three}
use Prim.Native.Nat.{ℕ}
use Rattle.offline_question.proofs.Answer.{query_facts}
use Rattle.prover.proofs.lengths_ok.Goals as goal

pub lent_ok-lent-requires : goal.lent_ok-lent-requires
lent_ok-lent-requires c =
    let q = c.args.query.now in
    (query_facts q.bytes.now q.kappa q.shape q.m q.asks).in_order

pub filled_ok-filled-requires : goal.filled_ok-filled-requires
filled_ok-filled-requires c =
    let q = c.args.query.now in
    (query_facts q.bytes.now q.kappa q.shape q.m q.asks).in_order

pub proof_bound-requires : goal.proof_bound-requires
proof_bound-requires c =
    let q = c.args.query.now in
    let f = query_facts q.bytes.now q.kappa q.shape q.m q.asks in
    (f.in_order, f.few_points)

pub returns : goal.returns
returns c =
    let both' = c.both in
    let both2' = c.both-2 in
    let n : ℕ = length c.args.proof.now in
    every_three _ _ _ both2'.result both'.result (both'.ensures ∙ ap₂ ◌&&◌ c.filled_ok-filled.ensures (ap (eqb n) c.proof_bound.ensures))
    (both2'.ensures ∙ ap (λ (x : Bool). x && both'.result) c.lent_ok-lent.ensures)
