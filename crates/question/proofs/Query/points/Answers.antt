-- `question::Query::points` meets its contract.
use Rattle.scheme.specs.Question.{read_question, points_at}
use Rattle.commitment.specs.Shape.{sizes_in}
use Rattle.question.proofs.Answer.{taken, words_read}
use lib.ListN.{replicate}
use native.Mathlib.Omega.{arith}
use Rattle.question.proofs.Query.points.Goals as goal

pub read_words-requires : goal.read_words-requires
read_words-requires c =
    let s = c.args in
    let t = taken s.self.now.bytes.now s.self.now.shape s.self.now.m c.args.self.now.asks in
    (omega (arith, t.long, c.points_at-at.ensures), omega (arith, t.m_high))

pub returns : goal.returns
returns c =
    let s = c.args in
    words_read s.self.now.m c.points_at-at.result (points_at (sizes_in s.self.now.shape)) s.self.now.bytes.now (replicate 8 0) c.read_words.new.out
    (read_question s.self.now.bytes.now).evaluation_points c.points_at-at.ensures (taken s.self.now.bytes.now s.self.now.shape s.self.now.m c.args.self.now.asks).points
    c.read_words.ensures
