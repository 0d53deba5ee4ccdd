-- The small instances hold, by computation: the rows of case P and the half are known by their values.
use mathlib.Core.Path.{◌≡◌, refl, sym, ap}
use mathlib.Core.List.{List, [], ◌∷◌, ◌++◌, flatten}
use Prim.Native.Nat.{ℕ, ◌+◌, ◌*◌}
use native.Mathlib.Omega.{arith}
use lib.ListN.{get_or}
use Rattle.lists.specs.Range.{up_from}
use Rattle.lists.specs.Number.{number}
use Rattle.lists.specs.Bytes.{little_endian}
use Rattle.lists.specs.Rising.{rising}
use Rattle.tree.specs.Leaf.{leaf_string}
use Rattle.tree.specs.Tree.{node_string}
use Rattle.tree.specs.Ancestors.{nodes_above}
use Rattle.tree.specs.Work.{work}
use Rattle.lists.specs.Total.{total}
use Rattle.scheme.specs.Work.{after_hashing, question_work}
use Rattle.tree.specs.Sets.{children, below, mem, without, push, parents, siblings, missing}
use Rattle.lists.specs.All.{All}
use Rattle.algebra.specs.Inverse.{inv_n, inv_n-unique}
use Rattle.algebra.specs.Numbers.{eval_n, values_at_n}
use Rattle.algebra.specs.Batch.{column_n}
use Rattle.algebra.specs.Columns.{pow_n}
use Rattle.algebra.specs.Lowered.{lowered}
use Rattle.algebra.specs.Cases.{interp_n_is}
use Rattle.lists.specs.Pieces.{pieces}
use Rattle.lists.specs.Tests.{verdict_of, every, all, same}
use Rattle.scheme.specs.Sizes.{sizes_ok}
use Rattle.scheme.specs.Matrix.{blinding_rows, lowered_by, column_of}
use Rattle.scheme.specs.Layers.{extended, combination, polynomial_values}
use Rattle.scheme.specs.Question.{read_question, question_tests}
use Rattle.scheme.specs.Commit.{lent_ok, filled_ok, commit_tests, commit_verdict}
use Rattle.lists.specs.Differ.{differ}
use Rattle.scheme.specs.Interpolate.{samples_tests, interpolation_tests, interpolation_verdict, interpolating}
use Rattle.scheme.specs.Cases.{rows_p, starred, further}
use Rattle.scheme.proofs.Interpolation.{filled}

half : inv_n 2 ≡ 2147483646
half = sym (inv_n-unique 2 2147483646 (omega arith) refl)

rows_p_lem : rows_p ≡ (4294967288 ∷ 4 ∷ []) ∷ []
unfolding up_from extended eval_n column_of lowered lowered_by blinding_rows
rows_p_lem = ap (λ (p : List ℕ). p ∷ []) (interp_n_is (2 ∷ 3 ∷ []) (5 ∷ 9 ∷ []) (4294967288 ∷ 4 ∷ []) (omega arith) (omega arith) (omega arith) (omega arith) refl refl refl)

pub cases : All (λ (row : List ℕ × List ℕ). row.0 ≡ row.1) starred
unfolding eval_n values_at_n column_n pow_n up_from children below mem without push parents siblings missing flatten
    pieces verdict_of every all sizes_ok column_of lowered lowered_by blinding_rows extended combination polynomial_values lent_ok filled_ok commit_tests commit_verdict
cases = (
  rw half refl,
  (
    ap (λ (ps : List (List ℕ)). values_at_n ps 0 ++ values_at_n ps 1) rows_p_lem,
    (
      ap (λ (ps : List (List ℕ)). combination 2 10 ((7 ∷ 2 ∷ []) ∷ ps)) rows_p_lem,
      (
        ap (λ (ps : List (List ℕ)). eval_n (combination 2 10 ((7 ∷ 2 ∷ []) ∷ ps)) 1 ∷ (eval_n (7 ∷ 2 ∷ []) 1 + 10 * get_or (values_at_n ps 1) 0 0) ∷ []) rows_p_lem,
        (refl, (refl, (refl, (refl, (refl, (refl, (refl, tt))))))),
      ),
    ),
  ),
)

pub further-cases : All (λ (row : List ℕ × List ℕ). row.0 ≡ row.1) further
unfolding eval_n values_at_n column_n pow_n up_from children below mem without push parents siblings missing
    verdict_of every all sizes_ok column_of lowered lowered_by blinding_rows extended combination polynomial_values pieces lent_ok filled_ok commit_tests commit_verdict
    little_endian number leaf_string node_string flatten same rising read_question question_tests differ samples_tests interpolation_tests interpolation_verdict
    nodes_above total work after_hashing question_work
further-cases = (refl, (refl, (refl, (refl, (refl, (refl, (refl, (refl, (refl, (refl, (refl, (refl, (refl, (refl, (refl, (refl, (refl, (refl, (refl, tt)))))))))))))))))))

-- the squares 1, 4, 9 at 1, 2, 3: X^2, whatever stood in the room
pub interpolation_case : (a b c : ℕ) → interpolating (1 ∷ 2 ∷ 3 ∷ []) (1 ∷ 4 ∷ 9 ∷ []) (a ∷ b ∷ c ∷ []) ≡ (0, 0 ∷ 0 ∷ 1 ∷ [])
unfolding eval_n verdict_of every all differ samples_tests interpolation_tests interpolation_verdict
interpolation_case a b c =
    sym (filled (1 ∷ 2 ∷ 3 ∷ []) (1 ∷ 4 ∷ 9 ∷ []) (a ∷ b ∷ c ∷ []) (0 ∷ 0 ∷ 1 ∷ []) taken
    (sym (interp_n_is (1 ∷ 2 ∷ 3 ∷ []) (1 ∷ 4 ∷ 9 ∷ []) (0 ∷ 0 ∷ 1 ∷ []) (omega arith) (omega arith) (omega arith) (omega arith) refl refl refl)))
  where
    taken : interpolation_verdict (1 ∷ 2 ∷ 3 ∷ []) (1 ∷ 4 ∷ 9 ∷ []) (a ∷ b ∷ c ∷ []) ≡ 0
    taken = refl
