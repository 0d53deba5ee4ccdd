-- `reply_tests::words_verdict` meets its contract: the first test that fails says its number.
use mathlib.Core.Path.{sym, ◌∙◌, ap}
use Rattle.refusal.specs.Numbers.{number_of}
use Rattle.scheme.proofs.Work.{after_hashing_lem, before_hashing}
use Rattle.reply_tests.specs.Asked.{asked}
use Rattle.reply_tests.proofs.Verdicts.{said_work, no_work, work-posed, say_3, say_8, say_9, say_10, say_0, elements-tested, root_tested, batching_tested, evaluation_tested, batching_asks, evaluation_asks}
use Rattle.reply_tests.proofs.words_verdict.Goals as goal

pub returns-then-not-elements_read : goal.returns-then-not-elements_read
returns-then-not-elements_read c =
    let task = c.args.task.now in
    let reply = c.args.reply.now in record {
      verdict_value = ap number_of c.refused.ensures.0
          ∙ say_3 task reply
          (sym (elements-tested task reply c.requires c.records_at-at.ensures c.record_length-size.ensures c.record_values-n.ensures c.elements_read.ensures) ∙ c.if-not-elements_read.true);
      permutations_value = said_work (asked task) (ap number_of c.refused.ensures.0) c.refused.ensures.1
          (no_work (asked task) 3 before_hashing.1.1.0);
    }

pub returns-then-not-same_bytes : goal.returns-then-not-same_bytes
returns-then-not-same_bytes c =
    let task = c.args.task.now in
    let reply = c.args.reply.now in record {
      verdict_value = ap number_of c.refused-then-not-same_bytes.ensures.0
          ∙ say_8 task reply
          (sym (elements-tested task reply c.requires c.records_at-at.ensures c.record_length-size.ensures c.record_values-n.ensures c.elements_read.ensures) ∙ c.if-not-elements_read.false)
          (sym (root_tested task reply c.requires c.records_at-at.ensures c.record_length-size.ensures c.reply_root-found.ensures.digest_value c.same_bytes.ensures) ∙ c.if-not-same_bytes.true);
      permutations_value = said_work (asked task) (ap number_of c.refused-then-not-same_bytes.ensures.0) c.refused-then-not-same_bytes.ensures.1
          (work-posed task reply 8 after_hashing_lem.1.0 c.record_length-size.ensures c.reply_root-found.ensures.permutations_value);
    }

pub batching_ok-requires : goal.batching_ok-requires
batching_ok-requires c =
    batching_asks c.args.task.now c.args.reply.now c.requires c.records_at-at.ensures c.record_length-size.ensures c.row_width-width.ensures c.row_count-rows.ensures

pub returns-then-not-batching_ok : goal.returns-then-not-batching_ok
returns-then-not-batching_ok c =
    let task = c.args.task.now in
    let reply = c.args.reply.now in record {
      verdict_value = ap number_of c.refused-then-not-batching_ok.ensures.0
          ∙ say_9 task reply
          (sym (elements-tested task reply c.requires c.records_at-at.ensures c.record_length-size.ensures c.record_values-n.ensures c.elements_read.ensures) ∙ c.if-not-elements_read.false)
          (sym (root_tested task reply c.requires c.records_at-at.ensures c.record_length-size.ensures c.reply_root-found.ensures.digest_value c.same_bytes.ensures) ∙ c.if-not-same_bytes.false)
          (sym (batching_tested task reply c.requires c.records_at-at.ensures c.record_length-size.ensures c.row_width-width.ensures c.row_count-rows.ensures
          c.batching_ok.ensures) ∙ c.if-not-batching_ok.true);
      permutations_value = said_work (asked task) (ap number_of c.refused-then-not-batching_ok.ensures.0) c.refused-then-not-batching_ok.ensures.1
          (work-posed task reply 9 after_hashing_lem.1.1.0 c.record_length-size.ensures c.reply_root-found.ensures.permutations_value);
    }

pub evaluation_ok-requires : goal.evaluation_ok-requires
evaluation_ok-requires c =
    evaluation_asks c.args.task.now c.args.reply.now c.requires c.records_at-at.ensures c.record_length-size.ensures c.leaf_count-leaves.ensures c.row_width-width.ensures
    c.row_count-rows.ensures

pub returns-then-not-evaluation_ok : goal.returns-then-not-evaluation_ok
returns-then-not-evaluation_ok c =
    let task = c.args.task.now in
    let reply = c.args.reply.now in record {
      verdict_value = ap number_of c.refused-then-not-evaluation_ok.ensures.0
          ∙ say_10 task reply
          (sym (elements-tested task reply c.requires c.records_at-at.ensures c.record_length-size.ensures c.record_values-n.ensures c.elements_read.ensures) ∙ c.if-not-elements_read.false)
          (sym (root_tested task reply c.requires c.records_at-at.ensures c.record_length-size.ensures c.reply_root-found.ensures.digest_value c.same_bytes.ensures) ∙ c.if-not-same_bytes.false)
          (sym (batching_tested task reply c.requires c.records_at-at.ensures c.record_length-size.ensures c.row_width-width.ensures c.row_count-rows.ensures
          c.batching_ok.ensures) ∙ c.if-not-batching_ok.false)
          (sym (evaluation_tested task reply c.requires c.records_at-at.ensures c.record_length-size.ensures c.leaf_count-leaves.ensures c.row_width-width.ensures
          c.row_count-rows.ensures c.evaluation_ok.ensures) ∙ c.if-not-evaluation_ok.true);
      permutations_value = said_work (asked task) (ap number_of c.refused-then-not-evaluation_ok.ensures.0) c.refused-then-not-evaluation_ok.ensures.1
          (work-posed task reply 10 after_hashing_lem.1.1.1.0 c.record_length-size.ensures c.reply_root-found.ensures.permutations_value);
    }

pub returns : goal.returns
returns c =
    let task = c.args.task.now in
    let reply = c.args.reply.now in record {
      verdict_value = say_0 task reply
          (sym (elements-tested task reply c.requires c.records_at-at.ensures c.record_length-size.ensures c.record_values-n.ensures c.elements_read.ensures) ∙ c.if-not-elements_read.false)
          (sym (root_tested task reply c.requires c.records_at-at.ensures c.record_length-size.ensures c.reply_root-found.ensures.digest_value c.same_bytes.ensures) ∙ c.if-not-same_bytes.false)
          (sym (batching_tested task reply c.requires c.records_at-at.ensures c.record_length-size.ensures c.row_width-width.ensures c.row_count-rows.ensures
          c.batching_ok.ensures) ∙ c.if-not-batching_ok.false)
          (sym (evaluation_tested task reply c.requires c.records_at-at.ensures c.record_length-size.ensures c.leaf_count-leaves.ensures c.row_width-width.ensures
          c.row_count-rows.ensures c.evaluation_ok.ensures) ∙ c.if-not-evaluation_ok.false);
      permutations_value = work-posed task reply 0 after_hashing_lem.0 c.record_length-size.ensures c.reply_root-found.ensures.permutations_value;
    }
