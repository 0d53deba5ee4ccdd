-- `answers::put_answers` meets its contract. The invariant: the first p answers are written.
use mathlib.Core.Path.{◌≡◌}
use Prim.Native.Nat.{◌*◌, ◌≤◌}
use lib.ListN.{length, drop}
use Rattle.lists.specs.Bytes.{words}
use Rattle.scheme.specs.Layers.{extended_rows}
use Rattle.lent.specs.Witnessed.{witnessed}
use Rattle.commitment.specs.Shape.{sizes_in}
use Rattle.answers.specs.Answers.{answer_at}
use Rattle.answers.proofs.Answers.{answers_to}
use Rattle.answers.proofs.put_answers.Given as goal

abbrev pub invariant-loop-p : goal.invariant-loop-p
invariant-loop-p l =
    (l.size ≡ 4 * l.n) × (l.p ≤ l.m) × (l.out ≡ answers_to (answer_at l.n (extended_rows (sizes_in l.s) (witnessed l.witness))) (words l.m (drop l.points l.question)) l.n l.at l.initial.out l.p) × (length l.out ≡ length l.initial.out)
