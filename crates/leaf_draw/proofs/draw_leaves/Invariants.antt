-- `leaf_draw::draw_leaves` meets its contract: the first j places hold the leaves that the first j words name.
use Rattle.lists.specs.Bytes.{doubles}
use mathlib.Core.List.{[]}
use Rattle.fiat_shamir.specs.Draw.{ranks_at}
use Rattle.fiat_shamir.specs.Ranks.{drawn_into}
use lib.ListN.{length, take, drop}
use mathlib.Core.Path.{◌≡◌}
use Rattle.leaf_draw.proofs.draw_leaves.Given as goal

abbrev pub invariant-loop-j : goal.invariant-loop-j
invariant-loop-j l = (length l.out ≡ length l.initial.out) × (take l.j l.out ≡ drawn_into l.leaves [] (doubles l.j (drop ranks_at l.draw)))
