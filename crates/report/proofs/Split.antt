-- How the input splits into a question and a reply, and what is printed for the two parts.
use mathlib.Core.Path.{◌≡◌, sym, ap, ap₂, ◌∙◌, subst}
use mathlib.Core.Logic.{◌⊎◌, inl, inr, ⊎_elim}
use mathlib.Core.Bool.{Bool, true, false}
use mathlib.Core.List.{List, []}
use Prim.Native.Nat.{ℕ, ◌-◌, ◌*◌, ◌≤◌, ◌<◌, min}
use native.Mathlib.Nat.{one-mul, not-suc-le-zero, min-eq_left, min-eq_right, le-min, le_of_eq, sub-zero, mul-le-mul_left}
use native.Mathlib.Omega.{arith}
use lib.Dec.{eqb, leb}
use lib.ListN.{length, take, drop, length-drop, drop_of_length-le}
use lib.Seq.{take_all, take-take, take-length, drop-length, get_or-take}
use borrow.Author.Tests.{eq-eqb, ne_eqb, eqb-false, ltb-false, leb-true, leb-false}
use Rattle.lists.specs.Choice.{pick, tested}
use Rattle.lists.specs.Bytes.{Bytes}
use Rattle.lists.specs.Tests.{passed, verdict_of, verdict_stop, within_high}
use Rattle.scheme.specs.Sizes.{Sizes}
use Rattle.scheme.specs.Question.{Question, read_question, question_tests, header_tests, header_length, header_sizes, header_points, question_length}
use Rattle.scheme.specs.Reply.{read_reply}
use Rattle.scheme.specs.Commit.{after}
use Rattle.scheme.specs.Check.{check_verdict, check_values, checking}
use Rattle.scheme.specs.Program.{input_limit, header_verdict, question_part, reply_part, value_lines, text, printed}
use Rattle.scheme.proofs.Accepted.{sizes_in_order}
use Rattle.scheme.proofs.Replies.{header_sizes_lem}
use Rattle.commitment.specs.Shape.{sizes_in}
use Rattle.question.specs.Asked.{Heads}
use Rattle.commitment.specs.declared.Shape.{Shape}
use Rattle.question.proofs.Answer.{well_headed}
use Rattle.report.specs.Written.{written, checked_text}
use Rattle.report.proofs.Text.{text-refused}
use Rattle.commitment.proofs.Places.{buffer_high}

-- ---- the text for two parts

pub text-checked : (out question reply : Bytes) (m w : ℕ) (buffer : List ℕ) (v : ℕ) (vs : List ℕ) (z : ℕ × Bytes) → (v, vs) ≡ checking question reply buffer
    → z ≡ written out 0 (text v (value_lines m w vs)) → z ≡ written out 0 (checked_text question reply m w buffer)
unfolding checked_text
text-checked out question reply m w buffer v vs z e f = f ∙ ap (λ (x : ℕ × List ℕ). written out 0 (text x.0 (value_lines m w x.1))) e

abbrev parted : Bytes → Bytes → Bytes
parted question reply =
    let u : Question = read_question question in
    text (check_verdict 1 question reply (1 * (u.sizes.w * u.m))) (value_lines u.m u.sizes.w (check_values u (read_reply u reply)))

all_read : (b : Bytes) → length b ≤ input_limit → printed b ≡ parted (question_part b) (reply_part b)
unfolding printed
all_read b few = ap (λ (x : Bytes). parted (question_part x) (reply_part x)) (take_all input_limit b few)

-- ---- a header that is refused

module _ (b : Bytes) (few : length b ≤ input_limit) (v : ℕ) (positive : 0 < v) (e : header_verdict b ≡ v) where
  stops : eqb (header_verdict b) 0 ≡ false
  stops = ne_eqb (header_verdict b) 0 (λ z. not-suc-le-zero (subst (λ (n : ℕ). 0 < n) (sym e ∙ z) positive))

  all_question : question_part b ≡ b
  unfolding question_part
  all_question = ap (λ (t : Bool). pick t (take (question_length (header_sizes b) (header_points b)) b) b) stops

  no_reply : reply_part b ≡ []
  unfolding reply_part
  no_reply = ap (λ (t : Bool). pick t (drop (question_length (header_sizes b) (header_points b)) b) []) stops

  first_test : (n : ℕ) → check_verdict 1 b [] n ≡ v
  unfolding check_verdict question_tests header_verdict
  first_test n = verdict_stop (header_tests b) _ v positive e

  printed-refused : printed b ≡ text v []
  printed-refused =
      all_read b few
      ∙ ap₂ parted all_question no_reply
      ∙ ap (λ (n : ℕ). text n (value_lines (read_question b).m (read_question b).sizes.w (check_values (read_question b) (read_reply (read_question b) [])))) (first_test _)
      ∙ text-refused v _ (λ z. not-suc-le-zero (subst (λ (n : ℕ). 0 < n) z positive))

-- ---- a header that passes

shorter : (n : ℕ) (b : Bytes) → (n ≤ length b) ⊎ (length b ≤ n)
shorter n b = ⊎_elim (λ t. inl (leb-true n (length b) t)) (λ t. inr (omega (arith, leb-false n (length b) t))) (tested (leb n (length b)))

take_min : (n : ℕ) (b : Bytes) → take (min n (length b)) b ≡ take n b
take_min n b =
    ⊎_elim (λ (l : n ≤ length b). ap (λ (k : ℕ). take k b) (min-eq_left l))
    (λ (l : length b ≤ n). ap (λ (k : ℕ). take k b) (min-eq_right l) ∙ take-length b ∙ sym (take_all n b l)) (shorter n b)

drop_min : (n : ℕ) (b : Bytes) → drop (min n (length b)) b ≡ drop n b
drop_min n b =
    ⊎_elim (λ (l : n ≤ length b). ap (λ (k : ℕ). drop k b) (min-eq_left l))
    (λ (l : length b ≤ n). ap (λ (k : ℕ). drop k b) (min-eq_right l) ∙ drop-length b ∙ sym (drop_of_length-le b l)) (shorter n b)

-- of a longer front the header is the same
same_sizes : (n : ℕ) (b : Bytes) → header_length ≤ n → header_sizes (take n b) ≡ header_sizes b
same_sizes n b l = sym (header_sizes_lem (take n b)) ∙ ap header_sizes (take-take header_length n b l) ∙ header_sizes_lem b

same_points : (n : ℕ) (b : Bytes) → header_length ≤ n → header_points (take n b) ≡ header_points b
same_points n b l = get_or-take n b 13 0 (omega arith)

-- the lines of values that a refusal leaves do not matter
same_text : (v m w : ℕ) (vs buffer : List ℕ) → text v (value_lines m w (after v vs buffer)) ≡ text v (value_lines m w vs)
same_text v m w vs buffer =
    ⊎_elim (λ t. ap (λ (b : Bool). text v (value_lines m w (pick b vs buffer))) t)
    (λ t. text-refused v _ (eqb-false v 0 t) ∙ sym (text-refused v _ (eqb-false v 0 t))) (tested (eqb v 0))

module _ (b : Bytes) (few : length b ≤ input_limit) (e : header_verdict b ≡ 0) where
  passes : eqb (header_verdict b) 0 ≡ true
  passes = eq-eqb (header_verdict b) 0 e

  -- k bytes are the question
  module _ (k : ℕ) (cut : k ≡ min (question_length (header_sizes b) (header_points b)) (length b)) where
    front : question_part b ≡ take k b
    unfolding question_part
    front = ap (λ (t : Bool). pick t (take (question_length (header_sizes b) (header_points b)) b) b) passes ∙ sym (ap (λ (n : ℕ). take n b) cut ∙ take_min _ b)

    back : reply_part b ≡ drop k b
    unfolding reply_part
    back = ap (λ (t : Bool). pick t (drop (question_length (header_sizes b) (header_points b)) b) []) passes ∙ sym (ap (λ (n : ℕ). drop n b) cut ∙ drop_min _ b)

    header_in : header_length ≤ k
    unfolding header_verdict
    header_in =
        let l : header_length ≤ length b = ltb-false (length b) header_length (passed (header_tests b) (omega arith) e).0 in
        subst (λ (n : ℕ). header_length ≤ n) (sym cut) (le-min (omega arith) l)

    asked_sizes : (read_question (take k b)).sizes ≡ header_sizes b
    unfolding read_question
    asked_sizes = same_sizes k b header_in

    asked-points : (read_question (take k b)).m ≡ header_points b
    unfolding read_question
    asked-points = same_points k b header_in

    printed-checked : (buffer : List ℕ) → length buffer ≡ (header_sizes b).w * header_points b
        → checked_text (take k b) (drop k b) (header_points b) (header_sizes b).w buffer ≡ printed b
    unfolding checked_text checking
    printed-checked buffer n =
        let u : Question = read_question (take k b) in
        let vs : List ℕ = check_values u (read_reply u (drop k b)) in
        let q : length buffer ≡ 1 * (u.sizes.w * u.m) =
        n ∙ ap₂ (λ (t : Sizes) (j : ℕ). t.w * j) (sym asked_sizes) (sym asked-points) ∙ sym (one-mul (u.sizes.w * u.m)) in
        same_text (check_verdict 1 (take k b) (drop k b) (length buffer)) (header_points b) (header_sizes b).w vs buffer
        ∙ ap (λ (j : ℕ). text (check_verdict 1 (take k b) (drop k b) j) (value_lines (header_points b) (header_sizes b).w vs)) q
        ∙ ap₂ (λ (t : Sizes) (j : ℕ). text (check_verdict 1 (take k b) (drop k b) (1 * (u.sizes.w * u.m))) (value_lines j t.w vs)) (sym asked_sizes) (sym asked-points)
        ∙ sym (all_read b few ∙ ap₂ parted front back)

-- ---- what the code holds of a header

-- the values fit into 2,048 words
pub few_values : (b : Bytes) (s : Shape) (m : ℕ) → Heads b s m → (m ≤ 8) × (s.w ≤ 256) × (s.w * m ≤ 2048)
few_values b s m e =
    let h = well_headed b s m e in
    let g = sizes_in_order (sizes_in s) h.sizes_ok_lem in
    let hm : m ≤ 8 = within_high 1 8 m h.points_ok_lem in
    let one : s.w * 1 ≤ s.w * s.nu = mul-le-mul_left s.w g.ν-low in
    let hw : s.w ≤ 256 = omega (arith, g.columns-high) in
    (hm, hw, buffer_high (sizes_in s) g m hm)

pub printed-split : (out b : Bytes) (s : Shape) (m k : ℕ) (buffer : List ℕ) (z : ℕ × Bytes) → length b ≤ input_limit → Heads b s m
    → k ≡ min (question_length (sizes_in s) m) (length b) → length buffer ≡ s.w * m
    → z ≡ written out 0 (checked_text (take (k - 0) b) (take (length b - k) (drop k b)) m s.w buffer) → z ≡ written out 0 (printed b)
unfolding header_verdict
printed-split out b s m k buffer z few e cut n f =
    let same : sizes_in s ≡ header_sizes b = ap sizes_in e.shape in
    f
    ∙ ap (written out 0)
    (ap₂ (λ (x y : Bytes). checked_text x y m s.w buffer) (ap (λ (j : ℕ). take j b) (sub-zero k)) (take_all (length b - k) (drop k b) (le_of_eq (length-drop k b)))
    ∙ ap₂ (λ (t : Sizes) (j : ℕ). checked_text (take k b) (drop k b) j t.w buffer) same e.points
    ∙ printed-checked b few e.verdict k (cut ∙ ap₂ (λ (t : Sizes) (j : ℕ). min (question_length t j) (length b)) same e.points) buffer
    (n ∙ ap₂ (λ (t : Sizes) (j : ℕ). t.w * j) same e.points))

pub printed-number : (b : Bytes) (v : ℕ) → length b ≤ input_limit → 0 < v → v ≡ verdict_of (header_tests b) → text v [] ≡ printed b
unfolding header_verdict
printed-number b v few positive e = sym (printed-refused b few v positive (sym e))
