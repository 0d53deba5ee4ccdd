-- `question::Query::indices` meets its contract.
use Rattle.scheme.proofs.Accepted.{sizes_in_order}
use Rattle.commitment.specs.Shape.{sizes_in}
use Rattle.question.proofs.Answer.{taken, indices_read}
use lib.ListN.{replicate}
use native.Mathlib.Omega.{arith}
use Rattle.question.proofs.Query.indices.Goals as goal

pub indices_at-at-requires : goal.indices_at-at-requires
indices_at-at-requires c = (taken c.args.self.now.bytes.now c.args.self.now.shape c.args.self.now.m c.args.self.now.asks).m_high

pub read_halves-requires : goal.read_halves-requires
read_halves-requires c =
    let s = c.args in
    let t = taken s.self.now.bytes.now s.self.now.shape s.self.now.m c.args.self.now.asks in
    (omega (arith, t.long, c.indices_at-at.ensures), omega (arith, (sizes_in_order (sizes_in s.self.now.shape) t.sizes_ok_lem).ℓ-high))

pub returns : goal.returns
returns c =
    let s = c.args in
    indices_read s.self.now.bytes.now s.self.now.shape s.self.now.m (replicate 64 0) c.read_halves.new.out c.indices_at-at.result
    c.args.self.now.asks c.indices_at-at.ensures c.read_halves.ensures
