-- What is known of an accepted call, at sizes s.
use mathlib.Core.Path.{◌≡◌, sym, ap, ◌∙◌, subst}
use mathlib.Core.List.{List, [], ◌∷◌, map, append-nil, Memᴰ as Mem}
use Prim.Native.Nat.{ℕ, ◌+◌, ◌*◌, ◌/◌, ◌<◌}
use native.Mathlib.Nat.{mul-div_cancel_left, zero-add}
use native.Mathlib.Omega.{arith}
use lib.Dec.{eqb}
use lib.ListN.{length, get_or, drop, length-map}
use lib.Seq.{length-take-le}
use Rattle.lists.specs.Rising.{Rising}
use Rattle.lists.specs.Range.{up_from, at_run, length-up_from}
use Rattle.lists.specs.Choice.{pick}
use Rattle.lists.specs.Bytes.{Bytes, words, bytes_of, length-words, words-bytes_of, length-bytes_of}
use Rattle.algebra.specs.Prime.{q}
use Rattle.lists.specs.All.{All, below_mem, all_at, Sized, all_flatten, all_take, all_each}
use Rattle.algebra.specs.Numbers.{eval_n, eval_n_below, interp_n, Elements}
use Rattle.algebra.specs.Columns.{pow_n}
use Rattle.lists.specs.Pieces.{pieces, piece, length-pieces, pieces_at, get_or-flatten}
use Rattle.tree.specs.Leaf.{salt_length}
use Rattle.scheme.specs.Sizes.{Sizes, SizesInOrder, leaves, rows, width, points, leaf_point, record_values}
use Rattle.scheme.specs.Layers.{polynomial_values}
use Rattle.scheme.specs.Question.{Question, read_question}
use Rattle.scheme.specs.Reply.{Reply, read_reply, record_words, row_values, mask_value, records_at, answers_at, record_length}
use Rattle.scheme.specs.Check.{record_at, challenge_of, batching_of, point_of, answer_of, check_verdict, check_values, checking, checking_c}
use Rattle.scheme.specs.Collect.{Entry, for_rust, for_c, Call, does, Answered, values_in, returned, asked, given, Opens}
use Rattle.lists.specs.Maps.{get_or_in, get_or-map_in}
use Rattle.scheme.proofs.Accepted.{Accepted, accepted}
use Rattle.scheme.proofs.Bound.{Placed, placed, indices_length, challenges_length}
use Rattle.scheme.proofs.Lent.{small}

-- n elements
abbrev pub Poly : ℕ → List ℕ → Type 0
Poly n p = (length p ≡ n) × Elements p

pub record Facts (s : Sizes) (c : Call) : Type 0 where
  pub in_order : SizesInOrder s
  pub salted : length (asked c).salt ≡ salt_length
  pub rising : Rising (asked c).indices
  pub leaf_below : (i a : ℕ) → Opens c i a → i < leaves s
  pub placed : Placed s (asked c).salt (asked c) (given c)
  pub challenge_below : (k : ℕ) → k < s.η → challenge_of (asked c) k < q
  pub row_values_lem : (i a : ℕ) → Opens c i a → Poly (rows s) (row_values s (record_at (given c) a))
  pub batching_poly : (k : ℕ) → k < s.η → Poly (width s) (batching_of (given c) k)
  pub answer_poly : (p : ℕ) → p < (asked c).m → Poly (width s) (answer_of (given c) p)
  pub batching_right : (k : ℕ) → k < s.η → (i a : ℕ) → Opens c i a
      → eval_n (batching_of (given c) k) (leaf_point i) ≡ eval_n (mask_value s (record_at (given c) a) k ∷ row_values s (record_at (given c) a)) (challenge_of (asked c) k)
  pub evaluation_right : (p : ℕ) → p < (asked c).m → (i a : ℕ) → Opens c i a
      → eval_n (interp_n (points s) (answer_of (given c) p)) (leaf_point i) ≡ eval_n (row_values s (record_at (given c) a)) (point_of (asked c) p)
  pub returns : (p : ℕ) → p < (asked c).m → (i : ℕ) → i < s.w
      → get_or (returned c) (p * s.w + i) 0 ≡ eval_n (piece s.ν i (answer_of (given c) p)) (pow_n (point_of (asked c) p) s.μ)

-- ---- the values

module _ (u : Question) (r : Reply) where
  values_long : Sized u.sizes.w (map (λ p. polynomial_values u.sizes (point_of u p) (answer_of r p)) (up_from 0 u.m))
  unfolding polynomial_values
  values_long = all_each (λ (x : List ℕ). length x ≡ u.sizes.w) _ (up_from 0 u.m) (λ p. simp (length-map, length-pieces))

  values_small : Elements (check_values u r)
  unfolding check_values polynomial_values
  values_small =
      all_flatten (λ (x : ℕ). x < q) _
      (all_each (All (λ (x : ℕ). x < q)) _ (up_from 0 u.m) (λ p. all_each (λ (x : ℕ). x < q) _ (pieces u.sizes.ν u.sizes.w (answer_of r p)) (λ vs. eval_n_below vs _)))

  values_at_lem : (p : ℕ) → p < u.m → (i : ℕ) → i < u.sizes.w
      → get_or (check_values u r) (p * u.sizes.w + i) 0 ≡ eval_n (piece u.sizes.ν i (answer_of r p)) (pow_n (point_of u p) u.sizes.μ)
  unfolding check_values polynomial_values
  values_at_lem p l i m =
      get_or-flatten u.sizes.w _ p i 0 values_long (omega (arith, length-map (up_from 0 u.m) (λ p. polynomial_values u.sizes (point_of u p) (answer_of r p)), length-up_from 0 u.m)) m
      ∙ ap (λ (x : List ℕ). get_or x i 0) (at_run (λ p. polynomial_values u.sizes (point_of u p) (answer_of r p)) 0 u.m p [] l
      ∙ ap (λ (p : ℕ). polynomial_values u.sizes (point_of u p) (answer_of r p)) (zero-add p))
      ∙ get_or-map_in (λ vs. eval_n vs (pow_n (point_of u p) u.sizes.μ)) (pieces u.sizes.ν u.sizes.w (answer_of r p)) i [] 0 (subst (λ (n : ℕ). i < n) (sym (length-pieces _ _ _)) m)
      ∙ ap (λ (vs : List ℕ). eval_n vs (pow_n (point_of u p) u.sizes.μ)) (pieces_at u.sizes.ν u.sizes.w i (answer_of r p) m)

-- bytes of words, read as words again
words_back : (xs : List ℕ) → Elements xs → words (length (bytes_of xs) / 4) (bytes_of xs) ≡ xs
words_back xs h =
    ap (λ (n : ℕ). words n (bytes_of xs)) (ap (λ (n : ℕ). n / 4) (length-bytes_of xs) ∙ mul-div_cancel_left (length xs) (omega arith))
    ∙ ap (words (length xs)) (sym (append-nil (bytes_of xs)))
    ∙ words-bytes_of xs [] (small xs h)

-- what the two entries' outcomes say on verdict 0
unit : Entry → ℕ
unit for_rust = 1
unit for_c = 4

verdict_zero : (e : Entry) (question reply : Bytes) (before : List ℕ) (v : ℕ) (after : List ℕ) → (v, after) ≡ does e question reply before → v ≡ 0
    → check_verdict (unit e) question reply (length before) ≡ 0
unfolding checking checking_c unit
verdict_zero for_rust question reply before v after o z = sym (ap (λ (x : ℕ × List ℕ). x.0) o) ∙ z
verdict_zero for_c question reply before v after o z = sym (ap (λ (x : ℕ × List ℕ). x.0) o) ∙ z

values_left : (e : Entry) (question reply : Bytes) (before : List ℕ) (v : ℕ) (after : List ℕ) → (v, after) ≡ does e question reply before → v ≡ 0
    → values_in e after ≡ check_values (read_question question) (read_reply (read_question question) reply)
unfolding checking checking_c unit
values_left for_rust question reply before v after o z =
    ap (λ (x : ℕ × List ℕ). x.1) o
    ∙ ap (λ (n : ℕ). pick (eqb n 0) (check_values (read_question question) (read_reply (read_question question) reply)) before) (sym (ap (λ (x : ℕ × List ℕ). x.0) o) ∙ z)
values_left for_c question reply before v after o z =
    let vs : List ℕ = check_values (read_question question) (read_reply (read_question question) reply) in
    let e : after ≡ bytes_of vs =
    ap (λ (x : ℕ × List ℕ). x.1) o ∙ ap (λ (n : ℕ). pick (eqb n 0) (bytes_of vs) before) (sym (ap (λ (x : ℕ × List ℕ). x.0) o) ∙ z) in
    ap (λ (b : Bytes). words (length b / 4) b) e ∙ words_back vs (values_small (read_question question) (read_reply (read_question question) reply))

-- ---- lengths of what stands in a reply

module _ (u : Question) (reply : Bytes) where
  batching_length : length (read_reply u reply).batching ≡ u.sizes.η
  unfolding read_reply
  batching_length = simp (length-map, length-pieces)

  answers_length_lem : length (read_reply u reply).answers ≡ u.m
  unfolding read_reply
  answers_length_lem = simp (length-map, length-pieces)

  records_length : length (read_reply u reply).records ≡ u.sizes.ℓ
  unfolding read_reply
  records_length = length-pieces (record_length u.sizes) u.sizes.ℓ (drop (records_at u.sizes u.m) reply)

  batching_words_lem : (k : ℕ) → k < u.sizes.η → length (batching_of (read_reply u reply) k) ≡ width u.sizes
  unfolding read_reply
  batching_words_lem k l =
      ap length (get_or-map_in (words (width u.sizes)) (pieces (4 * width u.sizes) u.sizes.η reply) k [] [] (subst (λ (n : ℕ). k < n) (sym (length-pieces _ _ _)) l))
      ∙ length-words (width u.sizes) _

  answer_words_lem : (p : ℕ) → p < u.m → length (answer_of (read_reply u reply) p) ≡ width u.sizes
  unfolding read_reply
  answer_words_lem p l =
      ap length (get_or-map_in (words (width u.sizes)) (pieces (4 * width u.sizes) u.m (drop (answers_at u.sizes) reply)) p [] [] (subst (λ (n : ℕ). p < n) (sym (length-pieces _ _ _)) l))
      ∙ length-words (width u.sizes) _

  module _ (a : Accepted u reply (read_reply u reply)) where
    batching_polys : (k : ℕ) → k < u.sizes.η → Poly (width u.sizes) (batching_of (read_reply u reply) k)
    batching_polys k l = (batching_words_lem k l, all_at Elements [] (read_reply u reply).batching a.batching_below k (subst (λ (n : ℕ). k < n) (sym batching_length) l))

    answer_polys : (p : ℕ) → p < u.m → Poly (width u.sizes) (answer_of (read_reply u reply) p)
    answer_polys p l = (answer_words_lem p l, all_at Elements [] (read_reply u reply).answers a.answers_below p (subst (λ (n : ℕ). p < n) (sym answers_length_lem) l))

    row_polys : (b : ℕ) → b < u.sizes.ℓ → Poly (rows u.sizes) (row_values u.sizes (record_at (read_reply u reply) b))
    row_polys b l = (
      length-take-le (rows u.sizes) (record_words u.sizes (record_at (read_reply u reply) b)) (omega (arith, length-words (record_values u.sizes) (record_at (read_reply u reply) b))),
      all_take (λ (x : ℕ). x < q) (rows u.sizes) (record_words u.sizes (record_at (read_reply u reply) b))
          (all_at (λ (x : Bytes). Elements (record_words u.sizes x)) [] (read_reply u reply).records a.records_below b (subst (λ (n : ℕ). b < n) (sym records_length) l)),
    )

pub facts : (c : Call) → Answered c → c.verdict ≡ 0 → Facts (asked c).sizes c
facts c o z =
    let u : Question = asked c in
    let a : Accepted u c.reply (given c) =
    accepted (unit c.entry) c.question c.reply (length c.before) (verdict_zero c.entry c.question c.reply c.before c.verdict c.after o.outcome z) in
    record {
      in_order = a.asks.in_order;
      salted = a.asks.salted;
      rising = a.asks.indices_rising;
      leaf_below = λ i b o.
          below_mem (leaves u.sizes) u.indices a.asks.indices_below i
          (subst (λ (j : ℕ). Mem j u.indices) o.leaf (get_or_in u.indices b (subst (λ (n : ℕ). b < n) (sym (indices_length c.question)) o.place)));
      placed = placed u c.reply (indices_length c.question) a;
      challenge_below = λ k l. all_at (λ (x : ℕ). x < q) 0 u.challenges a.asks.challenges_below k (subst (λ (n : ℕ). k < n) (sym (challenges_length c.question)) l);
      row_values_lem = λ i b o. row_polys u c.reply a b o.place;
      batching_poly = batching_polys u c.reply a;
      answer_poly = answer_polys u c.reply a;
      batching_right = λ k l i b o. ap (eval_n (batching_of (given c) k)) (sym o.leaf) ∙ a.batching_right k l b o.place;
      evaluation_right = λ p l i b o. ap (eval_n (interp_n (points u.sizes) (answer_of (given c) p))) (sym o.leaf) ∙ a.evaluation_right p l b o.place;
      returns = λ p l i m.
          ap (λ (x : List ℕ). get_or x (p * u.sizes.w + i) 0) (values_left c.entry c.question c.reply c.before c.verdict c.after o.outcome z)
          ∙ values_at_lem u (given c) p l i m;
    }
