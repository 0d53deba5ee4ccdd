-- What the program prints for an opener's reply: verdict 0 and the true values.
use mathlib.Core.Path.{◌≡◌, refl, sym, ap, ap₂, ◌∙◌}
use mathlib.Core.Bool.{true, not, ◌&&◌}
use mathlib.Core.List.{List, [], ◌∷◌, ◌++◌, flatten}
use Prim.Native.Nat.{ℕ, ◌*◌, ◌≤◌}
use native.Mathlib.Omega.{arith}
use lib.Dec.{eqb}
use lib.ListN.{length, get_or, take, drop, length-append, replicate, length-replicate}
use lib.Seq.{take_all, take_at, drop_at, take-append-le, get_or-take}
use borrow.Author.Tests.{ltb-false, le-ltb, eqb-true, not-false}
use Rattle.lists.specs.Choice.{pick}
use Rattle.lists.specs.Range.{up_from}
use Rattle.lists.specs.Bytes.{Bytes}
use Rattle.algebra.specs.Numbers.{eval_n}
use Rattle.lists.specs.Pieces.{pieces}
use Rattle.scheme.specs.Cases.{sizes_p}
use Rattle.lists.specs.Tests.{verdict_of, same, passed, pass}
use Rattle.scheme.specs.Sizes.{Sizes, sizes_ok, points_ok}
use Rattle.scheme.specs.Layers.{Lent}
use Rattle.scheme.specs.Question.{Question, read_question, question_tests, question_verdict, header_length, header_sizes, header_points, mark, question_length}
use Rattle.scheme.specs.Reply.{read_reply}
use Rattle.scheme.specs.Check.{check_verdict, check_values, checking}
use Rattle.scheme.specs.Honest.{true_values, Names, Replied}
use Rattle.scheme.specs.Program.{input_limit, header_verdict, question_part, reply_part, digits, value_line, value_lines, text, printed}
use Rattle.scheme.proofs.Work.{uncounted}
use Rattle.scheme.proofs.Accepted.{question_numbers}
use Rattle.scheme.proofs.Replies.{header_sizes_lem}

-- ---- the split

same_header : (q r : Bytes) → header_length ≤ length q → take header_length (q ++ r) ≡ take header_length q
same_header q r l = take-append-le header_length q r l

same_sizes : (q r : Bytes) → header_length ≤ length q → header_sizes (q ++ r) ≡ header_sizes q
same_sizes q r l = sym (header_sizes_lem (q ++ r)) ∙ ap header_sizes (same_header q r l) ∙ header_sizes_lem q

same_points : (q r : Bytes) → header_length ≤ length q → header_points (q ++ r) ≡ header_points q
same_points q r l =
    sym (get_or-take header_length (q ++ r) 13 0 (omega arith)) ∙ ap (λ (b : Bytes). get_or b 13 0) (same_header q r l) ∙ get_or-take header_length q 13 0 (omega arith)

record Passed (q : Bytes) : Type 0 where
  long : header_length ≤ length q
  marked : same (take 5 q) mark ≡ true
  sized : sizes_ok (header_sizes q) && points_ok (header_points q) ≡ true
  whole : length q ≡ question_length (header_sizes q) (header_points q)

passed_header : (q : Bytes) → question_verdict q ≡ 0 → Passed q
unfolding question_tests
passed_header q e =
    let t = passed (question_tests q) (question_numbers q) e in
    record { long = ltb-false (length q) header_length t.0; marked = not-false _ t.1.0; sized = not-false _ t.1.1.0; whole = eqb-true _ _ (not-false _ t.1.1.1.0) }

header_passes : (q r : Bytes) → Passed q → header_verdict (q ++ r) ≡ 0
unfolding header_verdict
header_passes q r p =
    pass _ (
      le-ltb (length (q ++ r)) header_length (omega (arith, length-append q r, p.long)),
      (
        ap not (ap (λ (b : Bytes). same b mark) (take-append-le 5 q r (omega (arith, p.long))) ∙ p.marked),
        (ap not (ap₂ (λ (s : Sizes) (m : ℕ). sizes_ok s && points_ok m) (same_sizes q r p.long) (same_points q r p.long) ∙ p.sized), tt),
      ),
    )

cut : (q r : Bytes) → Passed q → length q ≡ question_length (header_sizes (q ++ r)) (header_points (q ++ r))
cut q r p = p.whole ∙ ap₂ question_length (sym (same_sizes q r p.long)) (sym (same_points q r p.long))

pub question_part_lem : (q r : Bytes) → question_verdict q ≡ 0 → question_part (q ++ r) ≡ q
unfolding question_part
question_part_lem q r e =
    let p = passed_header q e in
    ap (λ (v : ℕ). pick (eqb v 0) (take (question_length (header_sizes (q ++ r)) (header_points (q ++ r))) (q ++ r)) (q ++ r)) (header_passes q r p) ∙ take_at q r _ (cut q r p)

pub reply_part_lem : (q r : Bytes) → question_verdict q ≡ 0 → reply_part (q ++ r) ≡ r
unfolding reply_part
reply_part_lem q r e =
    let p = passed_header q e in
    ap (λ (v : ℕ). pick (eqb v 0) (drop (question_length (header_sizes (q ++ r)) (header_points (q ++ r))) (q ++ r)) []) (header_passes q r p) ∙ drop_at q r _ (cut q r p)

-- ---- the text

module _ (question reply : Bytes) (wf : question_verdict question ≡ 0) (few : length (question ++ reply) ≤ input_limit) where
  printed-split : printed (question ++ reply)
      ≡ text (check_verdict 1 question reply (1 * ((read_question question).sizes.w * (read_question question).m)))
      (value_lines (read_question question).m (read_question question).sizes.w (check_values (read_question question) (read_reply (read_question question) reply)))
  unfolding printed
  printed-split =
      ap (λ (b : Bytes). made (question_part b) (reply_part b)) (take_all input_limit (question ++ reply) few) ∙ ap₂ made (question_part_lem question reply wf) (reply_part_lem question reply wf)
    where
      made : Bytes → Bytes → Bytes
      made q r =
          text (check_verdict 1 q r (1 * ((read_question q).sizes.w * (read_question q).m)))
          (value_lines (read_question q).m (read_question q).sizes.w (check_values (read_question q) (read_reply (read_question q) r)))

-- an accepted reply's values are what checking leaves
left : (question reply : Bytes) (n : ℕ) (vs : List ℕ) → checking question reply (replicate n 0) ≡ (0, vs)
    → (check_verdict 1 question reply n ≡ 0) × (check_values (read_question question) (read_reply (read_question question) reply) ≡ vs)
unfolding checking
left question reply n vs e =
    let z : ℕ = 0 in
    let v : check_verdict 1 question reply (length (replicate n z)) ≡ 0 = ap (λ (x : ℕ × List ℕ). x.0) e in (
      ap (check_verdict 1 question reply) (sym (length-replicate n z)) ∙ v,
      ap (λ (k : ℕ). pick (eqb k 0) (check_values (read_question question) (read_reply (read_question question) reply)) (replicate n 0)) (sym v) ∙ ap (λ (x : ℕ × List ℕ). x.1) e,
    )

pub printed_honest : (s : Sizes) (l : Lent) (question buffer : Bytes) → Names s l question → (r : Replied s l question buffer) → length (question ++ r.reply) ≤ input_limit
    → printed (question ++ r.reply) ≡ text 0 (value_lines (read_question question).m s.w (true_values s l (read_question question).evaluation_points))
printed_honest s l question buffer names r few =
    let u : Question = read_question question in
    let n : ℕ = 1 * (u.sizes.w * u.m) in
    let z : ℕ = 0 in
    let e : n ≡ s.w * u.m = one (u.sizes.w * u.m) ∙ ap (λ (t : Sizes). t.w * u.m) names.sizes in
    let h = left question r.reply n _ (sym (uncounted question r.reply (replicate n z) _ _ _ (sym (r.checked (replicate n z) (length-replicate n z ∙ e))))) in
    printed-split question r.reply names.well_formed few
    ∙ ap₂ (λ (v : ℕ) (vs : List ℕ). text v (value_lines u.m u.sizes.w vs)) h.0 h.1
    ∙ ap (λ (t : Sizes). text 0 (value_lines u.m t.w (true_values s l u.evaluation_points))) names.sizes
  where
    one : (k : ℕ) → 1 * k ≡ k
    one k = omega arith

-- nothing read prints `verdict 6`
pub empty_input : printed [] ≡ 0x76 ∷ 0x65 ∷ 0x72 ∷ 0x64 ∷ 0x69 ∷ 0x63 ∷ 0x74 ∷ 32 ∷ 54 ∷ 10 ∷ []
unfolding printed text header_verdict question_part reply_part digits verdict_of check_verdict question_tests read_question
empty_input = refl

-- Case P, for all nonces and salts, z = 6: the opener's reply to any well-formed question about it prints `verdict 0` and `1 1 5`
pub case_p : (nonces salt question buffer : Bytes) (l : Lent) → l ≡ record { coefficients = 5 ∷ []; tails = 9 ∷ []; blinds = []; masks = 7 ∷ 2 ∷ []; nonces = nonces; salt = salt }
    → Names sizes_p l question → (read_question question).m ≡ 1 → (read_question question).evaluation_points ≡ 6 ∷ []
    → (r : Replied sizes_p l question buffer) → length (question ++ r.reply) ≤ input_limit
    → printed (question ++ r.reply) ≡ 0x76 ∷ 0x65 ∷ 0x72 ∷ 0x64 ∷ 0x69 ∷ 0x63 ∷ 0x74 ∷ 32 ∷ 48 ∷ 10 ∷ 49 ∷ 32 ∷ 49 ∷ 32 ∷ 53 ∷ 10 ∷ []
unfolding text value_lines value_line digits true_values pieces eval_n flatten up_from
case_p nonces salt question buffer l e names m z r few =
    printed_honest sizes_p l question buffer names r few
    ∙ ap₂ (λ (k : ℕ) (zs : List ℕ). text 0 (value_lines k 1 (true_values sizes_p l zs))) m z
    ∙ ap (λ (x : Lent). text 0 (value_lines 1 1 (true_values sizes_p x (6 ∷ [])))) e
