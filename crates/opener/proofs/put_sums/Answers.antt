-- `opener::put_sums` meets its contract: the two parts one after the other.
use Rattle.scheme.proofs.Accepted.{leaves-high}
use Rattle.commitment.specs.Shape.{sizes_in}
use Rattle.lent.specs.Witnessed.{witnessed}
use Rattle.opener.proofs.Sums.{batchings_ask, answers_ask, sums_are}
use borrow.Author.Rules.{rules}
use Rattle.opener.proofs.put_sums.Goals as goal

pub row_width-n-requires : goal.row_width-n-requires
row_width-n-requires c = c.requires.combine.extend.laid.sizes

pub leaf_count-requires : goal.leaf_count-requires
leaf_count-requires c = c.requires.combine.extend.laid.sizes.h_high

pub overflow_cast-first : goal.overflow_cast-first
overflow_cast-first c =
    let h = leaves-high (sizes_in c.args.s) c.requires.combine.extend.laid.sizes in search rules

pub put_batchings-requires : goal.put_batchings-requires
put_batchings-requires c =
    let s = c.args in
    batchings_ask (sizes_in s.s) s.m s.question.now (witnessed s.witness.now) s.reply.now c.requires
    c.row_width-n.result c.leaf_count.result c.challenges_at.result c.row_width-n.ensures c.leaf_count.ensures
    c.challenges_at.ensures

pub answers_at-requires : goal.answers_at-requires
answers_at-requires c = c.requires.combine.extend.laid.sizes

pub put_answers-requires : goal.put_answers-requires
put_answers-requires c =
    let s = c.args in
    answers_ask (sizes_in s.s) s.m s.question.now (witnessed s.witness.now) s.reply.now
    c.requires c.row_width-n.result
    c.points_at.result c.answers_at.result c.put_batchings.new.out
    c.row_width-n.ensures c.points_at.ensures c.answers_at.ensures
    c.put_batchings.auto.out

pub returns : goal.returns
returns c =
    let s = c.args in
    sums_are (sizes_in s.s) s.m s.question.now (witnessed s.witness.now) s.reply.now
    c.requires
    c.row_width-n.result
    c.leaf_count.result c.challenges_at.result
    c.points_at.result c.answers_at.result
    c.put_batchings.new.out c.put_answers.new.out
    c.row_width-n.ensures
    c.leaf_count.ensures c.challenges_at.ensures
    c.points_at.ensures c.answers_at.ensures c.put_batchings.ensures
    c.put_answers.ensures
