-- `hash_level` meets its contract.
use Rattle.tree_fill.proofs.Filling.{HashLevelInv}
use Rattle.tree_fill.proofs.hash_level.Given as goal

abbrev pub invariant-loop-p : goal.invariant-loop-p
invariant-loop-p l = HashLevelInv l.b l.w l.initial.part l.initial.buf l.off l.part l.buf l.p
