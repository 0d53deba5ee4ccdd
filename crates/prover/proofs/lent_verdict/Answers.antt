-- `prover::lent_verdict` meets its contract: the tests in their order.
use mathlib.Core.Path.{◌∙◌, sym}
use Rattle.lent.specs.Witnessed.{witnessed}
use Rattle.prover.proofs.Order.{says_0, says_2, says_3, says_8}
use Rattle.opener.proofs.Given.{root_room}
use Rattle.offline_question.proofs.Answer.{query_facts}
use Rattle.lists.specs.Tests.{every_true}
use Rattle.commitment.specs.Shape.{sizes_in}
use native.Mathlib.Omega.{arith}
use Rattle.prover.proofs.lent_verdict.Goals as goal

pub returns-then-not-lengths_ok : goal.returns-then-not-lengths_ok
returns-then-not-lengths_ok c =
    let lengths_ok' = c.lengths_ok in
    let s = c.args in
    says_2 s.query.now.bytes.now (sizes_in s.query.now.shape) s.query.now.m (witnessed s.witness.now) s.table.now s.tree.now s.proof.now
    (sym lengths_ok'.ensures ∙ c.if-not-lengths_ok.true)

pub returns-then-not-words_ok : goal.returns-then-not-words_ok
returns-then-not-words_ok c =
    let lengths_ok' = c.lengths_ok in
    let words_ok' = c.words_ok in
    let s = c.args in
    says_3 s.query.now.bytes.now (sizes_in s.query.now.shape) s.query.now.m (witnessed s.witness.now) s.table.now s.tree.now s.proof.now
    (sym lengths_ok'.ensures ∙ c.if-not-lengths_ok.false) (sym words_ok'.ensures ∙ c.if-not-words_ok.true)

pub names_ok-requires : goal.names_ok-requires
names_ok-requires c =
    let lengths_ok' = c.lengths_ok in
    let s = c.args in
    let f = query_facts s.query.now.bytes.now s.query.now.kappa s.query.now.shape s.query.now.m s.query.now.asks in
    let t = every_true _ (sym lengths_ok'.ensures ∙ c.if-not-lengths_ok.false) in
    (omega (arith, f.long), root_room (sizes_in s.query.now.shape) s.table.now s.tree.now t.1.0)

pub returns-then-not-names_ok : goal.returns-then-not-names_ok
returns-then-not-names_ok c =
    let lengths_ok' = c.lengths_ok in
    let names_ok' = c.names_ok in
    let words_ok' = c.words_ok in
    let s = c.args in
    says_8 s.query.now.bytes.now (sizes_in s.query.now.shape) s.query.now.m (witnessed s.witness.now) s.table.now s.tree.now s.proof.now
    (sym lengths_ok'.ensures ∙ c.if-not-lengths_ok.false) (sym words_ok'.ensures ∙ c.if-not-words_ok.false)
    (sym names_ok'.ensures ∙ c.if-not-names_ok.true)

pub returns : goal.returns
returns c =
    let lengths_ok' = c.lengths_ok in
    let names_ok' = c.names_ok in
    let words_ok' = c.words_ok in
    let s = c.args in
    says_0 s.query.now.bytes.now (sizes_in s.query.now.shape) s.query.now.m (witnessed s.witness.now) s.table.now s.tree.now s.proof.now
    (sym lengths_ok'.ensures ∙ c.if-not-lengths_ok.false) (sym words_ok'.ensures ∙ c.if-not-words_ok.false)
    (sym names_ok'.ensures ∙ c.if-not-names_ok.false)
