-- `interpolation::samples_verdict` meets its contract.
use Rattle.interpolation.proofs.Verdicts.{refused_1, refused_2, refused_3, passed_3}
use mathlib.Core.Path.{ap}
use mathlib.Core.Bool.{not}
use Rattle.interpolation.proofs.samples_verdict.Goals as goal

pub returns-then-not-both : goal.returns-then-not-both
returns-then-not-both c =
    let both = c.both in
    let args = c.args in
    refused_1 args.points.now args.values.now args.room.now both.result both.ensures (ap not c.if-not-both.true)

pub returns-then-not-both-2 : goal.returns-then-not-both-2
returns-then-not-both-2 c =
    let both = c.both in
    let both2 = c.both-2 in
    let args = c.args in
    refused_2 args.points.now args.values.now args.room.now both.result both.ensures (ap not c.if-not-both.false) both2.result both2.ensures (ap not c.if-not-both-2.true)

pub returns-then-not-both-3 : goal.returns-then-not-both-3
returns-then-not-both-3 c =
    let both = c.both in
    let both2 = c.both-2 in
    let elements_ok = c.elements_ok-p in
    let elements-ok2 = c.elements_ok in
    let both3 = c.both-3 in
    let args = c.args in
    refused_3 args.points.now args.values.now args.room.now both.result both.ensures (ap not c.if-not-both.false) both2.result both2.ensures (ap not c.if-not-both-2.false)
    elements_ok.result elements-ok2.result both3.result elements_ok.ensures elements-ok2.ensures both3.ensures (ap not c.if-not-both-3.true)

pub returns : goal.returns
returns c =
    let both = c.both in
    let both2 = c.both-2 in
    let elements_ok = c.elements_ok-p in
    let elements-ok2 = c.elements_ok in
    let both3 = c.both-3 in
    let args = c.args in
    passed_3 args.points.now args.values.now args.room.now both.result both.ensures (ap not c.if-not-both.false) both2.result both2.ensures (ap not c.if-not-both-2.false)
    elements_ok.result elements-ok2.result both3.result elements_ok.ensures elements-ok2.ensures both3.ensures (ap not c.if-not-both-3.false)
