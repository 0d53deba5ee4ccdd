-- Work of a check (No. 7 of document 02): how many permutations it runs, and how many it will run, before there is a reply.
use Rattle.std.specs.Prelude.{◌≡◌, Bool, true, false, List, [], ◌∷◌, ℕ, ◌+◌, ◌*◌, ◌≤◌, length}
use Rattle.lists.specs.Bytes.{Bytes}
use Rattle.lists.specs.Choice.{pick}
use Rattle.tree.specs.Ancestors.{nodes_above}
use Rattle.tree.specs.Leaf.{prefix_length, record_start}
use Rattle.tree.specs.Sets.{Node, mem}
use Rattle.tree.specs.Work.{permutations_for, work}
use Rattle.scheme.specs.Sizes.{Sizes, arity, levels}
use Rattle.scheme.specs.Question.{Question, read_question}
use Rattle.scheme.specs.Reply.{Reply, read_reply, record_length}
use Rattle.scheme.specs.Sizing.{planning, planning_c}
use Rattle.scheme.specs.Check.{checking, hashed_strings}

-- ---- of a check

-- the verdicts that are given after hashing
unfoldable pub after_hashing : ℕ → Bool
after_hashing v = mem v (0 ∷ 8 ∷ 9 ∷ 10 ∷ [])

-- with these: each opened leaf's string and that of each node above one, once; with a verdict given before hashing: 0
unfoldable pub check_work : Question → Reply → ℕ → ℕ
check_work u r v = pick (after_hashing v) (work (hashed_strings u r)) 0

-- what the check does: its verdict, its work, and the value buffer
unfoldable pub checking_counted : Bytes → Bytes → List ℕ → ℕ × ℕ × List ℕ
checking_counted question reply buffer =
    let u : Question = read_question question in
    let z : ℕ × List ℕ = checking question reply buffer in
    (z.0, check_work u (read_reply u reply) z.0, z.1)

-- ---- before there is a reply

-- the lengths of a leaf's string and of a node's
abbrev pub leaf_length : Sizes → ℕ
leaf_length s = record_start + record_length s

abbrev pub node_length : Sizes → ℕ
node_length s = prefix_length + 32 * arity s

-- the nodes above the opened leaves
abbrev pub nodes_hashed : Question → List Node
nodes_hashed u = nodes_above (arity u.sizes) (levels u.sizes) u.indices

-- the work of every check of the question that comes to hashing: sizes and indices alone decide it
unfoldable pub question_work : Question → ℕ
question_work u = u.sizes.ℓ * permutations_for (leaf_length u.sizes) + length (nodes_hashed u) * permutations_for (node_length u.sizes)

-- by the verdict
abbrev pub work_by : Question → ℕ → ℕ
work_by u v = pick (after_hashing v) (question_work u) 0

-- what the entry for planners does
abbrev pub counting : Bytes → ℕ × ℕ
counting = planning question_work

abbrev pub counting_c : Bytes → ℕ → ℕ × ℕ
counting_c = planning_c question_work

-- ---- what is claimed of every call of the check

-- the most permutations: three for a leaf, and one for each level above it
abbrev pub work_bound : Sizes → ℕ
work_bound s = s.ℓ * (3 + s.h)

pub record Counted (question : Bytes) (z : ℕ × ℕ × List ℕ) : Type 0 where
  -- a planner has the number before any reply; a verdict given before hashing has none
  pub planned : after_hashing z.0 ≡ true → counting question ≡ (0, z.1)
  pub none : after_hashing z.0 ≡ false → z.1 ≡ 0
  pub bounded : z.1 ≤ work_bound (read_question question).sizes

abbrev pub AllCounted : Type 0
AllCounted = (question reply : Bytes) (values : List ℕ) → Counted question (checking_counted question reply values)
