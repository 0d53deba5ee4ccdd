-- Collected replies: a whole list of calls of the check, and what is claimed of it.
use Rattle.std.specs.Prelude.{◌≡◌, ℕ, suc, ◌+◌, ◌*◌, ◌/◌, ◌≤◌, ◌<◌, length, get_or, take}
use mathlib.Core.List.{List, [], map, Memᴰ as Mem}
use Rattle.sponge.specs.Digest.{digest}
use Rattle.lists.specs.Bytes.{Bytes, words}
use Rattle.lists.specs.All.{Distinct}
use Rattle.algebra.specs.Numbers.{eval_n, values_at_n, Polys}
use Rattle.scheme.specs.Sizes.{rows, degree, points, leaf_point}
use Rattle.scheme.specs.Layers.{held_polynomial}
use Rattle.scheme.specs.Question.{Question, read_question, header_length, header_sizes}
use Rattle.scheme.specs.Reply.{Reply, read_reply, row_values}
use Rattle.scheme.specs.Check.{checking, checking_c, hashed_strings, leaf_at, record_at, challenge_of, batching_of, point_of, answer_of}

-- the two entries of the check
pub data Entry : Type 0 where
  for_rust : Entry
  for_c : Entry

-- a call: the bytes lent at its entry, the value buffer before and after, the verdict
pub record Call : Type 0 where
  pub entry : Entry
  pub question : Bytes
  pub reply : Bytes
  pub before : List ℕ
  pub verdict : ℕ
  pub after : List ℕ

-- what an entry does
abbrev pub does : Entry → Bytes → Bytes → List ℕ → ℕ × List ℕ
does for_rust question reply buffer = checking question reply buffer
does for_c question reply buffer = checking_c question reply buffer

-- what the entries' contracts say of a call
pub record Answered (c : Call) : Type 0 where
  pub outcome : (c.verdict, c.after) ≡ does c.entry c.question c.reply c.before

-- the values left at a call's return: words, or four bytes each
abbrev pub values_in : Entry → List ℕ → List ℕ
values_in for_rust buffer = buffer
values_in for_c buffer = words (length buffer / 4) buffer

abbrev pub returned : Call → List ℕ
returned c = values_in c.entry c.after

-- what a call asks, and what it is given
abbrev pub asked : Call → Question
asked c = read_question c.question

abbrev pub given : Call → Reply
given c = read_reply (asked c) c.reply

-- the collection under a header, a root and a salt: the accepted calls of the list whose questions hold all three
pub record Collected (calls : List Call) (header root salt : Bytes) (c : Call) : Type 0 where
  pub listed : Mem c calls
  pub accepted : c.verdict ≡ 0
  pub under_header : take header_length c.question ≡ header
  pub under_root : (asked c).root ≡ root
  pub under_salt : (asked c).salt ≡ salt

-- a call opens leaf i, at place a of its indices
pub record Opens (c : Call) (i a : ℕ) : Type 0 where
  pub place : a < (asked c).sizes.ℓ
  pub leaf : leaf_at (asked c) a ≡ i

-- a call holds the evaluation answer A for z, at place p of its points
pub record Holds (c : Call) (z : ℕ) (A : List ℕ) (p : ℕ) : Type 0 where
  pub place : p < (asked c).m
  pub point : point_of (asked c) p ≡ z
  pub answer : answer_of (given c) p ≡ A

module _ (calls : List Call) (header root salt : Bytes) where
  -- no two different strings hashed by the collection's calls share a digest
  abbrev pub NoCollision : Type 0
  NoCollision =
      (c₁ c₂ : Call) → Collected calls header root salt c₁ → Collected calls header root salt c₂
      → (x y : Bytes) → Mem x (hashed_strings (asked c₁) (given c₁)) → Mem y (hashed_strings (asked c₂) (given c₂)) → digest x ≡ digest y → x ≡ y

  -- d + 1 leaves or more, and in repetition k μ + β + 1 different challenges with one batching answer each,
  -- such that every one of these leaves is opened under every one of these challenges with its answer
  pub record Covered (L : List ℕ) (k : ℕ) (challenges : List ℕ) (answers : List (List ℕ)) : Type 0 where
    pub leaves-differ : Distinct L
    pub enough-leaves : suc (degree (header_sizes header)) ≤ length L
    pub repetition : k < (header_sizes header).η
    pub challenges_differ : Distinct challenges
    pub enough_challenges : length challenges ≡ suc (rows (header_sizes header))
    pub one_answer_each : length answers ≡ length challenges
    pub opened_under : (i : ℕ) → Mem i L → (g : ℕ) → g < length challenges
        → (c : Call) × (a : ℕ) × Collected calls header root salt c × Opens c i a
        × (challenge_of (asked c) k ≡ get_or challenges g 0) × (batching_of (given c) k ≡ get_or answers g [])

  -- a list of rows, of degree at most d, that takes the values opened at these leaves, in every one of the calls
  pub record TakesOpened (L : List ℕ) (ps : List (List ℕ)) : Type 0 where
    pub count : length ps ≡ rows (header_sizes header)
    pub polynomials : Polys (suc (degree (header_sizes header))) ps
    pub takes : (c : Call) → Collected calls header root salt c → (i a : ℕ) → Opens c i a → Mem i L
        → values_at_n ps (leaf_point i) ≡ row_values (header_sizes header) (record_at (given c) a)

  -- an answer for z is accepted at leaf i: a call of the collection that holds it for z opens the leaf
  pub record AcceptedAt (z : ℕ) (A : List ℕ) (i : ℕ) : Type 0 where
    pub call : Call
    pub collected : Collected calls header root salt call
    pub at_leaf : (a : ℕ) × Opens call i a
    pub at_point : (p : ℕ) × Holds call z A p

  -- an answer for z gives the true values: each column value and tail is the sum over j of z^j P_j at its point,
  -- and each call that holds it for z returns, for that point, the values at z of the polynomials that the rows hold
  pub record TrueValues (ps : List (List ℕ)) (z : ℕ) (A : List ℕ) : Type 0 where
    pub answer_true : A ≡ map (λ x. eval_n (values_at_n ps x) z) (points (header_sizes header))
    pub values_true : (c : Call) → Collected calls header root salt c → (p : ℕ) → Holds c z A p → (i : ℕ) → i < (header_sizes header).w
        → get_or (returned c) (p * (header_sizes header).w + i) 0 ≡ eval_n (held_polynomial (header_sizes header) ps i) z

  -- what is claimed: exactly one list of rows takes the opened values, and every evaluation answer that is accepted
  -- for one point at d + 1 of these leaves gives the true values
  pub record Extracted (L : List ℕ) : Type 0 where
    pub extracted : List (List ℕ)
    pub takes_opened : TakesOpened L extracted
    pub only_one : (ps : List (List ℕ)) → TakesOpened L ps → ps ≡ extracted
    pub answers_true : (z : ℕ) (A : List ℕ) (at : List ℕ) → Distinct at → suc (degree (header_sizes header)) ≤ length at
        → ((i : ℕ) → Mem i at → Mem i L × AcceptedAt z A i) → TrueValues extracted z A

  abbrev pub CollectedReplies : Type 0
  CollectedReplies =
      ((c : Call) → Mem c calls → Answered c) → NoCollision
      → (L : List ℕ) (k : ℕ) (challenges : List ℕ) (answers : List (List ℕ)) → Covered L k challenges answers → Extracted L
