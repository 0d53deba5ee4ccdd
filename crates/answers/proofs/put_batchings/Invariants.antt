-- `answers::put_batchings` meets its contract. The invariant: the first k answers are written.
use mathlib.Core.Path.{◌≡◌}
use Prim.Native.Nat.{◌*◌, ◌≤◌}
use lib.ListN.{length, drop}
use Rattle.lists.specs.Bytes.{words}
use Rattle.lists.specs.Range.{up_from}
use Rattle.scheme.specs.Layers.{extended_rows}
use Rattle.lent.specs.Witnessed.{witnessed}
use Rattle.commitment.specs.Shape.{sizes_in}
use Rattle.answers.specs.Answers.{batching_at}
use Rattle.answers.proofs.Answers.{answers_to}
use Rattle.answers.proofs.put_batchings.Given as goal

abbrev pub invariant-loop-k : goal.invariant-loop-k
invariant-loop-k l =
    (l.eta ≡ l.s.eta) × (l.size ≡ 4 * l.n) × (l.k ≤ l.eta) × (l.out ≡ answers_to (batching_at l.first.0 l.n (extended_rows (sizes_in l.s) (witnessed l.witness)) l.witness.masks.now (words l.s.eta (drop l.challenges l.question))) (up_from 0 l.s.eta) l.n l.at
    l.initial.out l.k) × (length l.out ≡ length l.initial.out)
