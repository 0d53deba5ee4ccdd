use native.Mathlib.Omega.{arith}
use lib.Seq.{take-length}
use Rattle.missing_nodes.proofs.ListedLevels.{level_holds, level_list, level_moves, level_again, level_done, listed_whole}
use Rattle.missing_nodes.proofs.list_level.Goals as goal

pub loop-a-init : goal.loop-a-init
loop-a-init c = level_holds c.requires

pub list_children-g-requires : goal.list_children-g-requires
list_children-g-requires c = level_list c.requires c.loop-a.invariant c.loop-a-test.true

pub loop-a-smaller : goal.loop-a-smaller
loop-a-smaller c = omega (arith, level_moves c.requires c.loop-a.invariant c.loop-a-test.true (listed_whole c.list_children-g.ensures), c.loop-a-test.true)

pub loop-a-preserved : goal.loop-a-preserved
loop-a-preserved c =
    let g = c.list_children-g in
    level_again c.requires c.loop-a.invariant c.loop-a-test.true (listed_whole g.ensures) g.auto.out

pub returns : goal.returns
returns c = rw take-length at (level_done c.requires c.loop-a.invariant c.loop-a-test.false)
