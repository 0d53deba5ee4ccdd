-- `reply_elements::elements_read` meets its contract.
use mathlib.Core.Path.{sym, ◌∙◌}
use mathlib.Core.Bool.{Bool, false≢true}
use Rattle.lists.specs.Tests.{each, every_first, every_second, every_last}
use Rattle.scheme.specs.Sizes.{elements}
use Rattle.reply_elements.specs.Elements.{record_elements_at}
use Rattle.reply_elements.proofs.elements_read.Goals.{then-elements_ok, else-elements_ok}
use Rattle.reply_elements.proofs.elements_read.Goals as goal

pub returns-then-elements_ok-2 : goal.returns-then-elements_ok-2
returns-then-elements_ok-2 c =
    let s = c.args in
    let r : Bool = each s.count (record_elements_at s.at s.size s.n s.reply.now) in
    let e = c.if-elements_ok-2.true in
    elim c.if-elements_ok.branch [
      | then-elements_ok w ↦ c.record_elements.ensures ∙ sym (every_last (elements s.batching.now) (elements s.answers.now) r
          (sym c.elements_ok.ensures ∙ w.if-elements_ok.true) (sym w.elements_ok-then-elements_ok.ensures ∙ sym w.value-is ∙ e))
      | else-elements_ok w ↦ absurd (false≢true (sym w.if-elements_ok.false ∙ sym w.value-is ∙ e))
    ]

pub returns-else-elements_ok-2 : goal.returns-else-elements_ok-2
returns-else-elements_ok-2 c =
    let s = c.args in
    let r : Bool = each s.count (record_elements_at s.at s.size s.n s.reply.now) in
    let e = c.if-elements_ok-2.false in
    elim c.if-elements_ok.branch [
      | then-elements_ok w ↦ e ∙ sym (every_second (elements s.batching.now) (elements s.answers.now) r
          (sym c.elements_ok.ensures ∙ w.if-elements_ok.true) (sym w.elements_ok-then-elements_ok.ensures ∙ sym w.value-is ∙ e))
      | else-elements_ok w ↦ e ∙ sym (every_first (elements s.batching.now) (elements s.answers.now) r (sym c.elements_ok.ensures ∙ w.if-elements_ok.false))
    ]
