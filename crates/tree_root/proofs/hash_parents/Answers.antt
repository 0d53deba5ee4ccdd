use native.Mathlib.Omega.{arith}
use lib.Seq.{take-length}
use Rattle.tree_root.proofs.ParentDigests.{hash_parents_holds, hash_parents_count, parents_gather, hash_parents_moves, hash_parents_again, hash_parents_done, gathered_whole}
use Rattle.tree_root.proofs.hash_parents.Goals as goal

pub loop-a-init : goal.loop-a-init
loop-a-init c = hash_parents_holds c.requires

pub gather_children-g-requires : goal.gather_children-g-requires
gather_children-g-requires c = parents_gather c.requires c.loop-a.invariant c.loop-a-test.true

pub overflow_add-ran : goal.overflow_add-ran
overflow_add-ran c =
    let g = c.gather_children-g in
    omega (arith, hash_parents_count c.requires c.loop-a.invariant c.loop-a-test.true g.new.buf g.auto.buf c.write_digest-ran.ensures.value)

pub loop-a-smaller : goal.loop-a-smaller
loop-a-smaller c = omega (arith, hash_parents_moves c.requires c.loop-a.invariant c.loop-a-test.true (gathered_whole c.gather_children-g.ensures), c.loop-a-test.true)

pub loop-a-preserved : goal.loop-a-preserved
loop-a-preserved c =
    let g = c.gather_children-g in
    let d = c.write_digest-ran.ensures in
    hash_parents_again c.requires c.loop-a.invariant c.loop-a-test.true (gathered_whole g.ensures) g.auto.buf d.row_after d.value

pub returns-clause-parents_hashed : goal.returns-clause-parents_hashed
returns-clause-parents_hashed c = rw take-length at ((hash_parents_done c.requires c.loop-a.invariant c.loop-a-test.false).0)

pub returns-clause-permutations_value : goal.returns-clause-permutations_value
returns-clause-permutations_value c = rw take-length at ((hash_parents_done c.requires c.loop-a.invariant c.loop-a-test.false).1)
