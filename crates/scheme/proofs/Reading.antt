-- Reading aids: short laws that say of a definition what the paper says of its word.
use mathlib.Core.Path.{◌≡◌, sym, ap, ◌∙◌}
use mathlib.Core.Logic.{⊎_elim, ◌≢◌}
use mathlib.Core.Bool.{Bool, true, false}
use mathlib.Core.List.{List, ◌++◌, map, flatten, map-map, Memᴰ as Mem}
use Prim.Native.Nat.{ℕ, ◌≤◌, ◌<◌}
use native.Mathlib.Omega.{arith}
use lib.Dec.{eqb}
use borrow.Author.Tests.{eqb-true}
use Rattle.sponge.specs.Digest.{digest}
use Rattle.lists.specs.Choice.{pick, tested}
use Rattle.lists.specs.All.{All, all_append}
use Rattle.lists.specs.Bytes.{Bytes}
use Rattle.lists.specs.Pieces.{piece}
use Rattle.lists.specs.Range.{up_from}
use Rattle.lists.specs.Tests.{Test, verdict_within}
use Rattle.tree.specs.Sets.{missing}
use Rattle.tree.specs.Leaf.{leaf_string}
use Rattle.tree.specs.Tree.{tree, node_strings}
use Rattle.tree.proofs.Strings.{tree_digests}
use Rattle.tree.proofs.Missing.{Above, Missing, sibling, missing_of, missing_in, missing-sibling, sibling-missing}
use Rattle.scheme.specs.Sizes.{Sizes, arity, levels, node_prefix, leaves, columns}
use Rattle.scheme.specs.Matrix.{polynomial}
use Rattle.scheme.specs.Layers.{Lent, column, row_polynomials, held_polynomial}
use Rattle.scheme.specs.Question.{Question, read_question, question_tests, question_verdict}
use Rattle.scheme.specs.Sizing.{planning_c}
use Rattle.scheme.specs.Commit.{commit_tests, commit_verdict, committing, table_of, leaf_record, leaf_digests, tree_of, committed_strings, last_digest}
use Rattle.scheme.specs.Open.{open_tests, open_verdict, opening, opening_c}
use Rattle.scheme.specs.Check.{reply_tests, check_verdict, checking, checking_c}
use Rattle.scheme.specs.Interpolate.{samples_tests, interpolation_tests, interpolation_verdict, interpolating}
use Rattle.scheme.specs.Honest.{WellLent}
use Rattle.scheme.proofs.Lent.{counted, lent_facts}
use Rattle.scheme.proofs.Entries.{column_unblinded}
use Rattle.scheme.proofs.Held.{held_committed}
use Rattle.scheme.proofs.Opening.{true_names, names_passed}

-- ---- the rows of a commitment hold the committed polynomials: all their coefficients, whatever the blinds

pub committed_held : (s : Sizes) (l : Lent) → WellLent s l → (i : ℕ) → i < s.w → held_polynomial s (row_polynomials s l) i ≡ polynomial s l.coefficients l.blinds i
committed_held s l right i m = held_committed s l (lent_facts s l right) i m

-- without blinding rows column a holds coefficients aμ, aμ + 1, .. of all that are lent
pub without_blinding_rows : (s : Sizes) (l : Lent) → WellLent s l → s.β ≡ 0 → (a : ℕ) → a < columns s → column s l a ≡ piece s.μ a l.coefficients
without_blinding_rows s l right e a m = column_unblinded s l (counted (lent_facts s l right)) e a m

-- ---- the missing nodes of a set are those not above (or in) the set whose sibling is

pub missing_means : (h : ℕ) (s : List ℕ) (k p : ℕ) → Mem (k, p) (missing 2 h s) → (k < h) × (Above 2 s (k, p) → ⊥) × Above 2 s (k, sibling p)
missing_means h s k p m = let o : Missing 2 h s (k, p) = missing_of 2 h s (k, p) (omega arith) m in (o.under, o.not_above, missing-sibling h s k p o)

pub means_missing : (h : ℕ) (s : List ℕ) (k p : ℕ) → k < h → (Above 2 s (k, p) → ⊥) → Above 2 s (k, sibling p) → Mem (k, p) (missing 2 h s)
means_missing h s k p l n a = missing_in 2 h s k p (omega arith) (sibling-missing h s k p l n a)

-- ---- the opener answers only where the tree's root and the salt that it is lent are the question's

pub opened_names : (question : Bytes) (l : Lent) (table : List ℕ) (nodes buffer : Bytes) → open_verdict question l table nodes buffer ≡ 0
    → (last_digest nodes ≡ (read_question question).root) × (l.salt ≡ (read_question question).salt)
opened_names question l table nodes buffer e =
    true_names (read_question question).root (read_question question).salt l nodes (names_passed question l table nodes buffer e)

-- ---- a tree holds the digests of the strings that committing hashes, and nothing else

pub tree_holds_digests : (s : Sizes) (l : Lent) → tree_of s l ≡ flatten (map digest (committed_strings s l))
unfolding tree_of committed_strings leaf_digests
tree_holds_digests s l =
    let f : ℕ → Bytes = λ i. leaf_string l.salt i (leaf_record s (table_of s l) l.nonces i) in
    let pre : Bytes = node_prefix s l.salt in
    let e : map (λ i. digest (f i)) (up_from 0 (leaves s)) ≡ map digest (map f (up_from 0 (leaves s))) = sym (map-map digest f (up_from 0 (leaves s))) in
    ap flatten
    (ap (tree digest (arity s) pre (levels s)) e
    ∙ tree_digests digest (arity s) pre (levels s) (map f (up_from 0 (leaves s)))
    ∙ ap (λ (level : List Bytes). map digest (map f (up_from 0 (leaves s)) ++ node_strings digest (arity s) pre (levels s) level)) (sym e))

-- ---- a refusal leaves every lent slice, and every lent length, as it was

kept : {A : Type 0} (v : ℕ) (filled before : A) → v ≢ 0 → pick (eqb v 0) filled before ≡ before
kept v filled before n = ⊎_elim (λ (h : eqb v 0 ≡ true). absurd (n (eqb-true v 0 h))) (λ (h : eqb v 0 ≡ false). ap (λ (t : Bool). pick t filled before) h) (tested (eqb v 0))

pub commit_refused : (s : Sizes) (l : Lent) (table : List ℕ) (nodes : Bytes) → (committing s l table nodes).0 ≢ 0
    → ((committing s l table nodes).1 ≡ table) × ((committing s l table nodes).2 ≡ nodes)
unfolding committing
commit_refused s l table nodes n = (kept _ _ table n, kept _ _ nodes n)

pub open_refused : (question : Bytes) (l : Lent) (table : List ℕ) (nodes buffer : Bytes) → (opening question l table nodes buffer).0 ≢ 0
    → (opening question l table nodes buffer).2 ≡ buffer
unfolding opening
open_refused question l table nodes buffer n = kept _ _ buffer n

pub plan_refused_c : (plan : Question → ℕ) (question : Bytes) (before : ℕ) → (planning_c plan question before).0 ≢ 0 → (planning_c plan question before).1 ≡ before
unfolding planning_c
plan_refused_c plan question before n = kept _ _ before n

pub open_refused_c : (question : Bytes) (l : Lent) (table : List ℕ) (nodes buffer : Bytes) (before : ℕ) → (opening_c question l table nodes buffer before).0 ≢ 0
    → ((opening_c question l table nodes buffer before).1 ≡ before) × ((opening_c question l table nodes buffer before).2 ≡ buffer)
unfolding opening_c
open_refused_c question l table nodes buffer before n = (kept _ _ before n, open_refused question l table nodes buffer n)

pub check_refused : (question reply : Bytes) (values : List ℕ) → (checking question reply values).0 ≢ 0 → (checking question reply values).1 ≡ values
unfolding checking
check_refused question reply values n = kept _ _ values n

pub check_refused_c : (question reply values : Bytes) → (checking_c question reply values).0 ≢ 0 → (checking_c question reply values).1 ≡ values
unfolding checking_c
check_refused_c question reply values n = kept _ _ values n

pub interpolate_refused : (points values room : List ℕ) → (interpolating points values room).0 ≢ 0 → (interpolating points values room).1 ≡ room
unfolding interpolating
interpolate_refused points values room n = kept _ _ room n

-- ---- verdicts lie between 0 and 10, and that of interpolation between 0 and 13

AtMost : List Test → Type 0
AtMost ts = All (λ (t : Test). t.0 ≤ 10) ts

question_within : (b : Bytes) → AtMost (question_tests b)
unfolding AtMost question_tests
question_within b = omega arith

pub question_verdict_within : (b : Bytes) → question_verdict b ≤ 10
unfolding AtMost
question_verdict_within b = verdict_within 10 (question_tests b) (question_within b)

pub commit_verdict_within : (s : Sizes) (l : Lent) (table : List ℕ) (nodes : Bytes) → commit_verdict s l table nodes ≤ 10
unfolding commit_verdict commit_tests
commit_verdict_within s l table nodes = verdict_within 10 (commit_tests s l table nodes) (omega arith)

pub open_verdict_within : (question : Bytes) (l : Lent) (table : List ℕ) (nodes buffer : Bytes) → open_verdict question l table nodes buffer ≤ 10
unfolding open_verdict open_tests AtMost
open_verdict_within question l table nodes buffer =
    verdict_within 10 (open_tests question l table nodes buffer) (all_append (λ (t : Test). t.0 ≤ 10) (question_tests question) _ (question_within question) (omega arith))

pub check_verdict_within : (unit : ℕ) (question reply : Bytes) (n : ℕ) → check_verdict unit question reply n ≤ 10
unfolding check_verdict reply_tests AtMost
check_verdict_within unit question reply n = verdict_within 10 _ (all_append (λ (t : Test). t.0 ≤ 10) (question_tests question) _ (question_within question) (omega arith))

pub interpolate_verdict_within : (points values room : List ℕ) → interpolation_verdict points values room ≤ 13
unfolding interpolation_verdict interpolation_tests samples_tests
interpolate_verdict_within points values room = verdict_within 13 (interpolation_tests points values room) (omega arith)
