-- One length, three users: sizing answers it, opening fills it, and the check's 7 asks for it.
use Rattle.std.specs.Prelude.{◌≡◌, ◌≢◌, List, ℕ, ◌*◌, ◌≤◌, length}
use Rattle.lists.specs.Bytes.{Bytes}
use Rattle.scheme.specs.Layers.{Lent}
use Rattle.scheme.specs.Question.{read_question}
use Rattle.scheme.specs.Reply.{reply_bound}
use Rattle.scheme.specs.Sizing.{sizing}
use Rattle.scheme.specs.Open.{opening}
use Rattle.scheme.specs.Collect.{Entry, for_rust, for_c, does}

-- how long the value buffer of the check's entries is: w m words, or four bytes for each
abbrev pub values_length : Entry → Bytes → ℕ
values_length for_rust question = (read_question question).sizes.w * (read_question question).m
values_length for_c question = 4 * ((read_question question).sizes.w * (read_question question).m)

-- what a length n that sizing answers is to the two others, whatever is lent to them
pub record Agreed (question : Bytes) (n : ℕ) : Type 0 where
  -- it never exceeds that of a reply with ℓ·h nodes
  pub bounded : n ≤ reply_bound (read_question question).sizes (read_question question).m
  -- the opener takes no other buffer ..
  pub other_buffer : (l : Lent) (table : List ℕ) (nodes buffer : Bytes) → length buffer ≢ n → opening question l table nodes buffer ≡ (2, 0, buffer)
  -- .. and where it refuses nothing, it returns n and has filled n bytes
  pub filled : (l : Lent) (table : List ℕ) (nodes buffer : Bytes) → (opening question l table nodes buffer).0 ≡ 0
      → ((opening question l table nodes buffer).1 ≡ n) × (length (opening question l table nodes buffer).2 ≡ n)
  -- the check says 7 of a reply of any other length (the value buffer comes first), and of none of this length
  pub other_reply : (e : Entry) (reply : Bytes) (values : List ℕ) → length values ≡ values_length e question → length reply ≢ n → does e question reply values ≡ (7, values)
  pub this_reply : (e : Entry) (reply : Bytes) (values : List ℕ) → length reply ≡ n → (does e question reply values).0 ≢ 7

-- a question that sizing refuses with v is refused with v by the two others
pub record Refuses (question : Bytes) (v : ℕ) : Type 0 where
  pub opener : (l : Lent) (table : List ℕ) (nodes buffer : Bytes) → opening question l table nodes buffer ≡ (v, 0, buffer)
  pub check : (e : Entry) (reply : Bytes) (values : List ℕ) → does e question reply values ≡ (v, values)

abbrev pub OneLength : Bytes → Type 0
OneLength question = ((n : ℕ) → sizing question ≡ (0, n) → Agreed question n) × ((v : ℕ) → v ≢ 0 → (sizing question).0 ≡ v → Refuses question v)
