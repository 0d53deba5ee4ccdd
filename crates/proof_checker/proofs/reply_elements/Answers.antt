-- `proof_checker::reply_elements` meets its contract.
use Rattle.commitment.specs.Shape.{sizes_in}
use Rattle.proof_checker.proofs.Elements.{answers_few, answers_inside, answer_fails, records_inside, records_decide}
use borrow.Author.Rules.{rules}
use Rattle.proof_checker.proofs.reply_elements.Goals as goal

pub overflow_mul-words : goal.overflow_mul-words
overflow_mul-words c =
    let row-width = c.row_width in
    let s = c.args in
    let few = answers_few (sizes_in s.s) s.m s.reply.now row-width.result row-width.ensures c.requires.0 c.requires.1 in search rules

pub elements_in-requires : goal.elements_in-requires
elements_in-requires c =
    let row-width = c.row_width in
    let s = c.args in
    answers_inside (sizes_in s.s) s.m s.reply.now row-width.result row-width.ensures c.requires.2

pub returns-then-not-elements_in : goal.returns-then-not-elements_in
returns-then-not-elements_in c =
    let row-width = c.row_width in
    let elements_in_lem = c.elements_in in
    let s = c.args in
    answer_fails (sizes_in s.s) s.m s.reply.now row-width.result row-width.ensures elements_in_lem.result elements_in_lem.ensures c.if-not-elements_in.true

pub record_elements-requires : goal.record_elements-requires
record_elements-requires c =
    let records-at = c.records_at in
    let record_length_lem = c.record_length in
    let record-values = c.record_values in
    let s = c.args in
    records_inside (sizes_in s.s) s.m s.reply.now records-at.result record_length_lem.result record-values.result records-at.ensures record_length_lem.ensures record-values.ensures c.requires.2

pub returns : goal.returns
returns c =
    let row-width = c.row_width in
    let elements_in_lem = c.elements_in in
    let records-at = c.records_at in
    let record_length_lem = c.record_length in
    let record-values = c.record_values in
    let record-elements = c.record_elements in
    let s = c.args in
    records_decide (sizes_in s.s) s.m s.reply.now row-width.result row-width.ensures elements_in_lem.result elements_in_lem.ensures c.if-not-elements_in.false
    records-at.result record_length_lem.result record-values.result record-elements.result records-at.ensures record_length_lem.ensures record-values.ensures record-elements.ensures
