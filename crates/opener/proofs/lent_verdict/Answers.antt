-- `opener::lent_verdict` meets its contract: the tests in their order.
use mathlib.Core.Path.{sym, ◌∙◌}
use Rattle.lists.specs.Tests.{every_true}
use Rattle.lent.specs.Witnessed.{witnessed}
use Rattle.commitment.specs.Shape.{sizes_in}
use Rattle.opener.proofs.Given.{long, root_room}
use Rattle.opener.proofs.Order.{says_0, says_2, says_3, says_8}
use native.Mathlib.Omega.{arith}
use Rattle.opener.proofs.lent_verdict.Goals as goal

pub lengths_ok-requires : goal.lengths_ok-requires
lengths_ok-requires c = c.requires

pub returns-then-not-lengths_ok : goal.returns-then-not-lengths_ok
returns-then-not-lengths_ok c =
    let s = c.args in
    says_2 s.query.now.bytes.now (witnessed s.witness.now) s.table.now s.tree.now s.reply.now s.query.now.shape s.query.now.m s.indices.now
    (s.query.now.asks, c.requires) (sym c.lengths_ok.ensures ∙ c.if-not-lengths_ok.true)

pub returns-then-not-words_ok : goal.returns-then-not-words_ok
returns-then-not-words_ok c =
    let s = c.args in
    says_3 s.query.now.bytes.now (witnessed s.witness.now) s.table.now s.tree.now s.reply.now s.query.now.shape s.query.now.m s.indices.now
    (s.query.now.asks, c.requires)
    (sym c.lengths_ok.ensures ∙ c.if-not-lengths_ok.false)
    (sym c.words_ok.ensures ∙ c.if-not-words_ok.true)

pub names_ok-requires : goal.names_ok-requires
names_ok-requires c =
    let s = c.args in
    let t = every_true _ (sym c.lengths_ok.ensures ∙ c.if-not-lengths_ok.false) in
    let l = long s.query.now.bytes.now s.query.now.shape s.query.now.m s.query.now.asks in
    (omega arith, root_room (sizes_in s.query.now.shape) s.table.now s.tree.now t.1.0)

pub returns-then-not-names_ok : goal.returns-then-not-names_ok
returns-then-not-names_ok c =
    let s = c.args in
    says_8 s.query.now.bytes.now (witnessed s.witness.now) s.table.now s.tree.now s.reply.now s.query.now.shape s.query.now.m s.indices.now
    (s.query.now.asks, c.requires)
    (sym c.lengths_ok.ensures ∙ c.if-not-lengths_ok.false)
    (sym c.words_ok.ensures ∙ c.if-not-words_ok.false) (sym c.names_ok.ensures ∙ c.if-not-names_ok.true)

pub returns : goal.returns
returns c =
    let s = c.args in
    says_0 s.query.now.bytes.now (witnessed s.witness.now) s.table.now s.tree.now s.reply.now s.query.now.shape s.query.now.m s.indices.now
    (s.query.now.asks, c.requires)
    (sym c.lengths_ok.ensures ∙ c.if-not-lengths_ok.false)
    (sym c.words_ok.ensures ∙ c.if-not-words_ok.false) (sym c.names_ok.ensures ∙ c.if-not-names_ok.false)
