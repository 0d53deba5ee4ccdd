-- `question::Query::challenges` meets its contract.
use Rattle.scheme.specs.Question.{read_question, challenges_at}
use Rattle.scheme.proofs.Accepted.{sizes_in_order}
use Rattle.commitment.specs.Shape.{sizes_in}
use Rattle.question.proofs.Answer.{taken, words_read}
use lib.ListN.{replicate}
use native.Mathlib.Omega.{arith}
use Rattle.question.proofs.Query.challenges.Goals as goal

pub read_words-requires : goal.read_words-requires
read_words-requires c =
    let s = c.args in
    let t = taken s.self.now.bytes.now s.self.now.shape s.self.now.m c.args.self.now.asks in
    (omega (arith, t.long, c.challenges_at.ensures), omega (arith, (sizes_in_order (sizes_in s.self.now.shape) t.sizes_ok_lem).η-high))

pub returns : goal.returns
returns c =
    let s = c.args in
    words_read s.self.now.shape.eta c.challenges_at.result challenges_at s.self.now.bytes.now (replicate 4 0) c.read_words.new.out
    (read_question s.self.now.bytes.now).challenges c.challenges_at.ensures
    (taken s.self.now.bytes.now s.self.now.shape s.self.now.m c.args.self.now.asks).challenges c.read_words.ensures
