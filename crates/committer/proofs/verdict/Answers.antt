-- `committer::verdict` meets its contract: at each return, what the tests before it said.
use Rattle.lent.specs.Witnessed.{witnessed}
use Rattle.commitment.specs.Shape.{sizes_in}
use Rattle.committer.proofs.Verdicts.{sizes_passed, refused_1, refused_2, refused_2_filled, refused_3, taken}
use mathlib.Core.Path.{ap}
use mathlib.Core.Bool.{not}
use Rattle.committer.proofs.verdict.Goals as goal

pub returns-then-not-sizes_ok : goal.returns-then-not-sizes_ok
returns-then-not-sizes_ok c =
    let args = c.args in
    refused_1 (sizes_in args.s) (witnessed args.witness.now) args.table.now args.tree.now c.sizes_ok.result
    c.sizes_ok.ensures (ap not c.if-not-sizes_ok.true)

pub lent_ok-requires : goal.lent_ok-requires
lent_ok-requires c =
    let args = c.args in
    sizes_passed (sizes_in args.s) (witnessed args.witness.now) args.table.now args.tree.now c.sizes_ok.result
    c.sizes_ok.ensures
    (ap not c.if-not-sizes_ok.false)

pub returns-then-not-lent_ok : goal.returns-then-not-lent_ok
returns-then-not-lent_ok c =
    let args = c.args in
    refused_2 (sizes_in args.s) (witnessed args.witness.now) args.table.now args.tree.now c.sizes_ok.result
    c.sizes_ok.ensures (ap not c.if-not-sizes_ok.false) c.lent_ok.result c.lent_ok.ensures (ap not c.if-not-lent_ok.true)

pub filled_ok-requires : goal.filled_ok-requires
filled_ok-requires c =
    let args = c.args in
    sizes_passed (sizes_in args.s) (witnessed args.witness.now) args.table.now args.tree.now c.sizes_ok.result
    c.sizes_ok.ensures (ap not c.if-not-sizes_ok.false)

pub returns-then-not-filled_ok : goal.returns-then-not-filled_ok
returns-then-not-filled_ok c =
    let args = c.args in
    refused_2_filled (sizes_in args.s) (witnessed args.witness.now) args.table.now args.tree.now
    c.sizes_ok.result c.sizes_ok.ensures (ap not c.if-not-sizes_ok.false) c.lent_ok.result
    c.lent_ok.ensures (ap not c.if-not-lent_ok.false) c.filled_ok.result c.filled_ok.ensures (ap not c.if-not-filled_ok.true)

pub returns-then-not-lent_elements : goal.returns-then-not-lent_elements
returns-then-not-lent_elements c =
    let args = c.args in
    refused_3 (sizes_in args.s) (witnessed args.witness.now) args.table.now args.tree.now
    c.sizes_ok.result c.sizes_ok.ensures (ap not c.if-not-sizes_ok.false)
    c.lent_ok.result c.lent_ok.ensures (ap not c.if-not-lent_ok.false) c.filled_ok.result
    c.filled_ok.ensures (ap not c.if-not-filled_ok.false) c.lent_elements.result c.lent_elements.ensures (ap not c.if-not-lent_elements.true)

pub returns : goal.returns
returns c =
    let args = c.args in
    taken (sizes_in args.s) (witnessed args.witness.now) args.table.now args.tree.now
    c.sizes_ok.result c.sizes_ok.ensures (ap not c.if-not-sizes_ok.false)
    c.lent_ok.result c.lent_ok.ensures (ap not c.if-not-lent_ok.false) c.filled_ok.result
    c.filled_ok.ensures (ap not c.if-not-filled_ok.false) c.lent_elements.result c.lent_elements.ensures (ap not c.if-not-lent_elements.false)
