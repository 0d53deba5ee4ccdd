-- What the code tests, what its steps ask, and the order of the verdicts, for a question as the code holds it.
use mathlib.Core.Path.{◌≡◌, refl, sym, ap, ap₂, subst, ◌∙◌}
use mathlib.Core.Bool.{Bool, true, false, not}
use mathlib.Core.List.{List, [], ◌∷◌}
use Prim.Native.Nat.{ℕ, ◌+◌, ◌*◌, ◌≤◌, ◌<◌}
use native.Mathlib.Nat.{le_of_eq}
use native.Mathlib.Omega.{arith}
use lib.Dec.{eqb}
use lib.ListN.{length, drop}
use lib.Pow.{pow_pos}
use borrow.Author.Tests.{eq-eqb, ne_eqb}
use Rattle.tree.specs.Sets.{missing}
use Rattle.tree.specs.Clauses.{IndexSet}
use Rattle.lists.specs.All.{Below}
use Rattle.lists.specs.Bytes.{Bytes, length-words}
use Rattle.lists.specs.Choice.{pick}
use Rattle.lists.specs.Tests.{Test, verdict_of, every, each, same, verdict_hit, verdict_miss}
use Rattle.tree.specs.Ancestors.{nodes_above}
use Rattle.tree.specs.Leaf.{prefix_length, record_start}
use Rattle.tree.specs.Work.{permutations_for}
use Rattle.scheme.specs.Work.{after_hashing, question_work, work_by}
use Rattle.scheme.specs.Sizes.{Sizes, elements, leaves, rows, width, record_values}
use Rattle.scheme.specs.Question.{Question}
use Rattle.scheme.specs.Reply.{Reply, read_reply, answers_at, records_at, record_length, nodes_at, reply_length}
use Rattle.scheme.specs.Check.{reply_elements, reply_root, batching_at, evaluation_at, reply_tests}
use Rattle.scheme.proofs.Accepted.{leaves-high}
use Rattle.opened.specs.Records.{record_words_at}
use Rattle.batching_test.specs.Batching.{batched_row}
use Rattle.evaluation_test.specs.Evaluation.{evaluated_leaf}
use Rattle.reply_elements.specs.Elements.{record_elements_at}
use Rattle.reply_root.specs.Root.{root_at}
use Rattle.reply_root.proofs.Defined.{root_is}
use Rattle.reply_tests.specs.Words.{batching_words, answer_words}
use Rattle.commitment.specs.Shape.{sizes_in}
use Rattle.reply_tests.specs.Posed.{Posed, Read, later_tests}
use Rattle.reply_tests.specs.Asked.{asked}
use Rattle.reply_tests.specs.declared.task.Task.{Task}
use Rattle.node_sets.proofs.Sets.{indices_small}
use Rattle.commitment.proofs.Places.{width-high}
use Rattle.reply_tests.proofs.ReplyTests.{elements_are, batching_is, evaluation_is}

-- ---- four tests in order

module _ (a b c d : Bool) where
  abbrev four : List Test
  four = (3, not a) ∷ (8, not b) ∷ (9, not c) ∷ (10, not d) ∷ []

  four_3 : a ≡ false → 3 ≡ verdict_of four
  unfolding verdict_of
  four_3 e = rw e

  four_8 : a ≡ true → b ≡ false → 8 ≡ verdict_of four
  unfolding verdict_of
  four_8 e f = rw (e, f)

  four_9 : a ≡ true → b ≡ true → c ≡ false → 9 ≡ verdict_of four
  unfolding verdict_of
  four_9 e f g = rw (e, f, g)

  four_10 : a ≡ true → b ≡ true → c ≡ true → d ≡ false → 10 ≡ verdict_of four
  unfolding verdict_of
  four_10 e f g h = rw (e, f, g, h)

  four_0 : a ≡ true → b ≡ true → c ≡ true → d ≡ true → 0 ≡ verdict_of four
  unfolding verdict_of
  four_0 e f g h = rw (e, f, g, h)

-- the work that is said with a verdict; none with one given before hashing
pub said_work : (u : Question) {v w n k : ℕ} → w ≡ v → n ≡ k → k ≡ work_by u v → n ≡ work_by u w
said_work u e f g = f ∙ g ∙ ap (work_by u) (sym e)

pub no_work : (u : Question) (v : ℕ) → after_hashing v ≡ false → 0 ≡ work_by u v
no_work u v h = sym (ap (λ (b : Bool). pick b (question_work u) 0) h)

module _ (task : Task) (reply : List ℕ) where
  abbrev s : Sizes
  s = sizes_in task.shape

  abbrev root : Bytes
  root = task.root.now

  abbrev salt : Bytes
  salt = task.salt.now

  abbrev challenges : List ℕ
  challenges = task.challenges.now

  abbrev points : List ℕ
  points = task.points.now

  abbrev indices : List ℕ
  indices = task.indices.now

  abbrev p : Posed s salt challenges points indices
  p = task.well_posed

  abbrev u : Question
  u = asked task

  abbrev r : Reply
  r = read_reply u reply

  abbrev batching_ok : Bool
  batching_ok = each s.η (λ k. each s.ℓ (batching_at u r k))

  abbrev evaluation_ok : Bool
  evaluation_ok = each (length points) (λ i. each s.ℓ (evaluation_at u r i))

  -- ---- the order

  pub say_3 : reply_elements u r ≡ false → 3 ≡ verdict_of (later_tests u reply)
  unfolding later_tests
  say_3 e = four_3 (reply_elements u r) (same (reply_root u r) root) batching_ok evaluation_ok e

  pub say_8 : reply_elements u r ≡ true → same (reply_root u r) root ≡ false → 8 ≡ verdict_of (later_tests u reply)
  unfolding later_tests
  say_8 e f = four_8 (reply_elements u r) (same (reply_root u r) root) batching_ok evaluation_ok e f

  pub say_9 : reply_elements u r ≡ true → same (reply_root u r) root ≡ true → batching_ok ≡ false → 9 ≡ verdict_of (later_tests u reply)
  unfolding later_tests
  say_9 e f g = four_9 (reply_elements u r) (same (reply_root u r) root) batching_ok evaluation_ok e f g

  pub say_10 : reply_elements u r ≡ true → same (reply_root u r) root ≡ true → batching_ok ≡ true → evaluation_ok ≡ false → 10 ≡ verdict_of (later_tests u reply)
  unfolding later_tests
  say_10 e f g h = four_10 (reply_elements u r) (same (reply_root u r) root) batching_ok evaluation_ok e f g h

  pub say_0 : reply_elements u r ≡ true → same (reply_root u r) root ≡ true → batching_ok ≡ true → evaluation_ok ≡ true → 0 ≡ verdict_of (later_tests u reply)
  unfolding later_tests
  say_0 e f g h = four_0 (reply_elements u r) (same (reply_root u r) root) batching_ok evaluation_ok e f g h

  pub say_7 : (n : ℕ) → n ≡ reply_length u → (length reply ≡ n → ⊥) → 7 ≡ verdict_of (reply_tests u reply)
  unfolding reply_tests
  say_7 n e f = sym (verdict_hit 7 (not (eqb (length reply) (reply_length u))) _ (ap not (ne_eqb (length reply) (reply_length u) (λ g. f (g ∙ sym e)))))

  pub say_later : length reply ≡ reply_length u → verdict_of (later_tests u reply) ≡ verdict_of (reply_tests u reply)
  unfolding reply_tests later_tests
  say_later e = sym (verdict_miss 7 (not (eqb (length reply) (reply_length u))) (later_tests u reply) (ap not (eq-eqb (length reply) (reply_length u) e)))

  -- ---- the work

  -- what `reply_root` runs is the question's, with a verdict given after it
  pub work-posed : (v : ℕ) → after_hashing v ≡ true → {size n : ℕ} → size ≡ record_length s
      → n ≡ length indices * permutations_for (record_start + size) + length (nodes_above 2 s.h indices) * permutations_for (prefix_length + 32 * 2) → n ≡ work_by u v
  unfolding question_work
  work-posed v h e f =
      f
      ∙ ap₂ (λ (k j : ℕ). k * permutations_for (record_start + j) + length (nodes_above 2 s.h indices) * permutations_for (prefix_length + 32 * 2)) p.opened e
      ∙ sym (ap (λ (b : Bool). pick b (question_work u) 0) h)

  -- ---- what the steps ask

  index_set : IndexSet s.h indices
  index_set = record {
    depth = p.in_order.h_high;
    some = omega (arith, p.opened, p.in_order.ℓ-low);
    few = omega (arith, p.opened, p.in_order.ℓ-high);
    rising = p.rising;
    leaves = p.below;
  }

  -- where the reply's parts end
  records_end : {at size : ℕ} → at ≡ records_at s (length points) → size ≡ record_length s → at + size * length indices ≡ nodes_at s (length points)
  records_end e f = ap₂ (λ (i j : ℕ). i + j * length indices) e f ∙ ap (λ (n : ℕ). records_at s (length points) + record_length s * n) p.opened

  module _ (whole : length reply ≡ reply_length u) where
    root_fits : {at size : ℕ} → at ≡ records_at s (length points) → size ≡ record_length s
        → at + size * length indices + 32 * length (missing 2 s.h indices) ≤ length reply
    root_fits e f = le_of_eq (ap (λ (n : ℕ). n + 32 * length (missing 2 s.h indices)) (records_end e f) ∙ sym whole)

    records_fit : {at size : ℕ} → at ≡ records_at s (length points) → size ≡ record_length s → at + size * length indices ≤ length reply
    records_fit e f = omega (arith, root_fits e f)

  -- ---- the tests

  module _ {batching answers : List ℕ} (d : Read u reply batching answers) where
    length_batching : length batching ≡ width s * s.η
    length_batching = ap length d.batching_read ∙ length-words (width s * s.η) reply

    length_answers : length answers ≡ width s * length points
    length_answers = ap length d.answers_read ∙ length-words (width s * length points) (drop (answers_at s) reply)

    module _ {at size : ℕ} (e : at ≡ records_at s (length points)) (f : size ≡ record_length s) where
      pub elements-tested : {n : ℕ} {t : Bool} → n ≡ record_values s → t ≡ every (elements batching ∷ elements answers ∷ each (length indices) (record_elements_at at size n reply) ∷ []) → t ≡ reply_elements u r
      elements-tested {n} {t} g h =
          h
          ∙ ap₂ (λ (x y : List ℕ). every (elements x ∷ elements y ∷ each (length indices) (record_elements_at at size n reply) ∷ [])) d.batching_read d.answers_read
          ∙ ap (λ (z : Bool). every (elements (batching_words u reply) ∷ elements (answer_words u reply) ∷ z ∷ []))
          (ap₂ (λ (i j : ℕ). each (length indices) (record_elements_at i j n reply)) e f
          ∙ ap₂ (λ (i j : ℕ). each i (record_elements_at (records_at s (length points)) (record_length s) j reply)) p.opened g)
          ∙ elements_are u reply

      pub root_tested : {t : Bool} {x : Bytes} → x ≡ root_at salt s.h at size indices reply → t ≡ same x root → t ≡ same (reply_root u r) root
      root_tested {t} {x} g h = h ∙ ap (λ (y : Bytes). same y root) (g ∙ ap₂ (λ (i j : ℕ). root_at salt s.h i j indices reply) e f ∙ root_is u reply p.opened d.whole)

      pub batching_tested : {t : Bool} {wide k : ℕ} → wide ≡ width s → k ≡ rows s
          → t ≡ each (length challenges) (batched_row wide k challenges batching indices (record_words_at at size (k + length challenges) reply)) → t ≡ batching_ok
      batching_tested {t} {wide} {k} g r h =
          h
          ∙ ap (λ (j : ℕ). each (length challenges) (batched_row wide j challenges batching indices (record_words_at at size (j + length challenges) reply))) r
          ∙ ap₂ (λ (w : ℕ) (x : List ℕ). each (length challenges) (batched_row w (rows s) challenges x indices (record_words_at at size (rows s + length challenges) reply))) g d.batching_read
          ∙ ap₂ (λ (i j : ℕ). each (length challenges) (batched_row (width s) (rows s) challenges (batching_words u reply) indices (record_words_at i j (rows s + length challenges) reply))) e f
          ∙ ap (λ (n : ℕ). each (length challenges) (batched_row (width s) (rows s) challenges (batching_words u reply) indices (record_words_at (records_at s (length points)) (record_length s) (rows s + n) reply))) p.repetitions
          ∙ batching_is u reply p.repetitions p.opened

      pub evaluation_tested : {t : Bool} {first wide k : ℕ} → first ≡ leaves s → wide ≡ width s → k ≡ rows s
          → t ≡ each (length indices) (evaluated_leaf first wide points answers indices (record_words_at at size k reply)) → t ≡ evaluation_ok
      evaluation_tested {t} {first} {wide} {k} g h r i =
          i
          ∙ ap (λ (j : ℕ). each (length indices) (evaluated_leaf first wide points answers indices (record_words_at at size j reply))) r
          ∙ ap₂ (λ (j k : ℕ). each (length indices) (evaluated_leaf j k points answers indices (record_words_at at size (rows s) reply))) g h
          ∙ ap (λ (x : List ℕ). each (length indices) (evaluated_leaf (leaves s) (width s) points x indices (record_words_at at size (rows s) reply))) d.answers_read
          ∙ ap₂ (λ (j k : ℕ). each (length indices) (evaluated_leaf (leaves s) (width s) points (answer_words u reply) indices (record_words_at j k (rows s) reply))) e f
          ∙ evaluation_is u reply refl p.opened

      pub batching_asks : {wide k : ℕ} → wide ≡ width s → k ≡ rows s
          → (0 < wide) × Below 65536 indices × (wide * length challenges ≤ length batching) × (k ≤ 64) × (length challenges ≤ 4)
          × (4 * (k + length challenges) ≤ size) × (at + size * length indices ≤ length reply)
      batching_asks g r = (
        omega (arith, g, p.in_order.ℓ-low),
        indices_small index_set,
        le_of_eq (ap₂ ◌*◌ g p.repetitions ∙ sym length_batching),
        omega (arith, r, p.in_order.rows-high),
        omega (arith, p.repetitions, p.in_order.η-high),
        omega (arith, f, r, p.repetitions),
        records_fit d.whole e f,
      )

      pub evaluation_asks : {first wide k : ℕ} → first ≡ leaves s → wide ≡ width s → k ≡ rows s
          → (0 < first) × (first ≤ 4096) × Below first indices × (length indices ≤ 64) × (0 < wide) × (wide ≤ 320) × (k ≤ 64) × (length points ≤ 8)
          × (wide * length points ≤ length answers) × (4 * k ≤ size) × (at + size * length indices ≤ length reply)
      evaluation_asks g h r = (
        omega (arith, g, pow_pos s.h),
        omega (arith, g, leaves-high s p.in_order),
        subst (λ (k : ℕ). Below k indices) (sym g) p.below,
        omega (arith, p.opened, p.in_order.ℓ-high),
        omega (arith, h, p.in_order.ℓ-low),
        omega (arith, h, width-high s p.in_order),
        omega (arith, r, p.in_order.rows-high),
        p.few_points,
        le_of_eq (ap (λ (k : ℕ). k * length points) h ∙ sym length_answers),
        omega (arith, f, r),
        records_fit d.whole e f,
      )
