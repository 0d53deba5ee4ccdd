-- From the bytes of a question to the question as the code holds it, and from the reply's verdict to the check's.
use Rattle.std.specs.Prelude.{Result, is_ok}
use Rattle.std.specs.Prelude.Result.{Ok, Err}
use Rattle.std.proofs.lemmas.Bool.{false≢true}
use mathlib.Core.Path.{◌≡◌, refl, sym, ap, ap₂, ◌∙◌, subst}
use mathlib.Core.Bool.{Bool, true, false, not}
use mathlib.Core.List.{List, ◌∷◌}
use Prim.Native.Nat.{ℕ, ◌*◌, ◌≤◌, ◌<◌}
use native.Mathlib.Nat.{one-mul, ne_of_gt}
use native.Mathlib.Omega.{arith}
use lib.Dec.{eqb}
use lib.ListN.{length, take, drop}
use borrow.Author.Tests.{eq-eqb, ne_eqb, eqb-true, not-false}
use Rattle.lists.specs.All.{Below}
use Rattle.lists.specs.Rising.{Rising}
use Rattle.lists.specs.Bytes.{Bytes, length-words}
use Rattle.lists.specs.Choice.{pick}
use Rattle.lists.specs.Parts.{span_length}
use Rattle.lists.specs.Tests.{verdict_of, passed, verdict_hit, verdict_miss, verdict_go, verdict_stop}
use Rattle.tree.specs.Leaf.{salt_length}
use Rattle.scheme.specs.Sizes.{Sizes, leaves}
use Rattle.scheme.specs.Question.{Question, read_question, header_length, salt_at, challenges_at, points_at, question_tests, question_verdict}
use Rattle.scheme.specs.Reply.{read_reply, reply_length, records_at}
use Rattle.scheme.specs.Commit.{after}
use Rattle.scheme.specs.Check.{reply_tests, check_values, check_verdict, checking}
use Rattle.scheme.proofs.Accepted.{sizes_in_order, question_numbers}
use Rattle.commitment.specs.Shape.{sizes_in}
use Rattle.question.specs.Asked.{Asks}
use Rattle.commitment.specs.declared.Shape.{Shape}
use Rattle.question.proofs.Answer.{well_asked, Taken, taken, asked_indices}
use Rattle.refusal.specs.declared.Refusal.{Refusal}
use Rattle.refusal.specs.Numbers.{number_of, number_positive}
use Rattle.reply_tests.specs.Posed.{posed, Posed}
use Rattle.checker.specs.Answered.{checking_reply}

-- ---- the question as the code holds it

-- the lists that were read, each the front of its room
pub was_posed : (b : Bytes) (s : Shape) (m : ℕ) (salt challenges points indices : List ℕ) → Asks b s m
    → salt ≡ take salt_length (drop salt_at b) → challenges ≡ (read_question b).challenges → points ≡ (read_question b).evaluation_points → indices ≡ (read_question b).indices
    → Posed (sizes_in s) salt challenges points indices
was_posed b s m salt challenges points indices e es ec ep ei =
    let t : Taken b s m = taken b s m e in
    let k = asked_indices b s m e in
    record {
      in_order = sizes_in_order (sizes_in s) t.sizes_ok_lem;
      salted = ap length es ∙ span_length salt_at salt_length b (omega (arith, t.long));
      repetitions = ap length (ec ∙ t.challenges) ∙ length-words s.eta (drop challenges_at b);
      few_points = subst (λ (n : ℕ). n ≤ 8) (sym (ap length (ep ∙ t.points) ∙ length-words m (drop (points_at (sizes_in s)) b))) t.m_high;
      opened = ap length ei ∙ k.0;
      rising = subst Rising (sym ei) k.1.rising;
      below = subst (Below (leaves (sizes_in s))) (sym ei) k.1.leaves;
    }

pub posed_is : (b : Bytes) (s : Shape) (m : ℕ) (root salt challenges points indices : List ℕ) → Asks b s m
    → root ≡ take 32 (drop header_length b) → salt ≡ take salt_length (drop salt_at b)
    → challenges ≡ (read_question b).challenges → points ≡ (read_question b).evaluation_points → indices ≡ (read_question b).indices
    → posed (sizes_in s) root salt challenges points indices ≡ read_question b
posed_is b s m root salt challenges points indices e er es ec ep ei =
    let t : Taken b s m = taken b s m e in
    let a = well_asked b s m e in
    let n : length points ≡ (read_question b).m = ap length (ep ∙ t.points) ∙ length-words m (drop (points_at (sizes_in s)) b) ∙ a.2 in
    λ i. record {
      sizes = a.1 i;
      m = n i;
      root = (er ∙ sym t.root) i;
      salt = (es ∙ sym t.salt) i;
      challenges = ec i;
      evaluation_points = ep i;
      indices = ei i;
    }

-- ---- the value buffer and the reply

-- an answer that is no refusal has the number 0, and no other has
pub accepted : {A : Type 0} (a : Result A Refusal) → is_ok a ≡ true → number_of a ≡ 0
accepted (Ok x) e = refl
accepted (Err r) e = absurd (false≢true e)

pub not_accepted : {A : Type 0} (a : Result A Refusal) → is_ok a ≡ false → number_of a ≡ 0 → ⊥
not_accepted (Ok x) e z = false≢true (sym e)
not_accepted (Err r) e z = ne_of_gt (number_positive r) z

module _ (u : Question) (reply : Bytes) (buffer : List ℕ) where
  abbrev verdict : ℕ
  verdict = verdict_of ((2, not (eqb (length buffer) (1 * (u.sizes.w * u.m)))) ∷ reply_tests u reply)

  answer_as : (v : ℕ) (out : List ℕ) → verdict ≡ v → after v (check_values u (read_reply u reply)) buffer ≡ out → (v, out) ≡ checking_reply u reply buffer
  unfolding checking_reply
  answer_as v out e f =
      sym (ap (λ (n : ℕ). (n, after n (check_values u (read_reply u reply)) buffer)) e ∙ ap (λ (x : List ℕ). (v, x)) f)

  kept : (v : ℕ) → (v ≡ 0 → ⊥) → after v (check_values u (read_reply u reply)) buffer ≡ buffer
  kept v e = ap (λ (t : Bool). pick t (check_values u (read_reply u reply)) buffer) (ne_eqb v 0 e)

  pub answer_2 : (length buffer ≡ u.sizes.w * u.m → ⊥) → (2, buffer) ≡ checking_reply u reply buffer
  answer_2 e =
      answer_as 2 buffer
      (verdict_hit 2 (not (eqb (length buffer) (1 * (u.sizes.w * u.m)))) (reply_tests u reply) (ap not (ne_eqb _ _ (λ f. e (f ∙ one-mul (u.sizes.w * u.m))))))
      (kept 2 (λ f. omega arith))

  fitting : length buffer ≡ u.sizes.w * u.m → verdict ≡ verdict_of (reply_tests u reply)
  fitting l =
      verdict_miss 2 (not (eqb (length buffer) (1 * (u.sizes.w * u.m)))) (reply_tests u reply) (ap not (eq-eqb _ _ (l ∙ sym (one-mul (u.sizes.w * u.m)))))

  pub answer_refused : (v : ℕ) → length buffer ≡ u.sizes.w * u.m → v ≡ verdict_of (reply_tests u reply) → (v ≡ 0 → ⊥) → (v, buffer) ≡ checking_reply u reply buffer
  answer_refused v l e f = answer_as v buffer (fitting l ∙ sym e) (kept v f)

  pub answer_0 : (v : ℕ) (out : List ℕ) → length buffer ≡ u.sizes.w * u.m → v ≡ verdict_of (reply_tests u reply) → v ≡ 0
      → out ≡ check_values u (read_reply u reply) → (v, out) ≡ checking_reply u reply buffer
  answer_0 v out l e f g = answer_as v out (fitting l ∙ sym e) (ap (λ (n : ℕ). after n (check_values u (read_reply u reply)) buffer) f ∙ sym g)

accepted-length : (u : Question) (reply : Bytes) (v : ℕ) → v ≡ verdict_of (reply_tests u reply) → v ≡ 0 → length reply ≡ reply_length u
unfolding reply_tests
accepted-length u reply v e f = eqb-true _ _ (not-false _ (passed (reply_tests u reply) (omega arith) (sym e ∙ f)).0)

-- in the sizes that the code holds
pub values_count : (b : Bytes) (s : Shape) (m : ℕ) → Asks b s m → s.w * m ≡ (read_question b).sizes.w * (read_question b).m
values_count b s m e = let a = well_asked b s m e in ap₂ (λ (z : Sizes) (n : ℕ). z.w * n) a.1 a.2

pub accepted_room : (b reply : Bytes) (s : Shape) (m v : ℕ) → Asks b s m → v ≡ verdict_of (reply_tests (read_question b) reply) → v ≡ 0 → records_at (sizes_in s) m ≤ length reply
accepted_room b reply s m v e f z =
    let a = well_asked b s m e in
    let l : records_at (read_question b).sizes (read_question b).m ≤ length reply = omega (arith, accepted-length (read_question b) reply v f z) in
    subst (λ (n : ℕ). n ≤ length reply) (sym (ap₂ records_at a.1 a.2)) l

-- ---- the whole check

-- a well-formed question: what is left is the buffer and the reply
pub checked : (b reply : Bytes) (buffer : List ℕ) (s : Shape) (m : ℕ) → Asks b s m
    → checking_reply (read_question b) reply buffer ≡ checking b reply buffer
unfolding checking_reply checking check_verdict
checked b reply buffer s m e =
    let u : Question = read_question b in
    ap (λ (v : ℕ). (v, after v (check_values u (read_reply u reply)) buffer))
    (sym (verdict_go (question_tests b) ((2, not (eqb (length buffer) (1 * (u.sizes.w * u.m)))) ∷ reply_tests u reply) (question_numbers b) (well_asked b s m e).0))

-- any other: its verdict, and the buffer as it was
pub unchecked : (b reply : Bytes) (buffer : List ℕ) (v : ℕ) → 0 < v → v ≡ question_verdict b → (v, buffer) ≡ checking b reply buffer
unfolding checking check_verdict
unchecked b reply buffer v positive e =
    let u : Question = read_question b in
    sym (ap (λ (n : ℕ). (n, after n (check_values u (read_reply u reply)) buffer))
    (verdict_stop (question_tests b) ((2, not (eqb (length buffer) (1 * (u.sizes.w * u.m)))) ∷ reply_tests u reply) v positive (sym e))
    ∙ ap (λ (t : Bool). (v, pick t (check_values u (read_reply u reply)) buffer)) (ne_eqb v 0 (ne_of_gt positive)))
