-- A question as the code holds it: its sizes, its root and salt, and its challenges, points and indices in lists.
use Rattle.std.specs.Prelude.{◌≡◌, not, List, [], ◌∷◌, ℕ, ◌≤◌, length}
use Rattle.std.specs.Coded.{×_prop, Π_prop, Unit-prop, le_prop}
use Rattle.std.proofs.Props.{props}
use Rattle.lists.specs.All.{Below}
use Rattle.lists.specs.Rising.{Rising}
use Rattle.lists.specs.Bytes.{Bytes}
use Rattle.lists.specs.Tests.{Test, each, same}
use Rattle.tree.specs.Leaf.{salt_length}
use Rattle.scheme.specs.Sizes.{Sizes, SizesInOrder, leaves, most_points}
use Rattle.scheme.specs.Question.{Question}
use Rattle.scheme.specs.Reply.{Reply, read_reply, reply_length}
use Rattle.scheme.specs.Check.{reply_elements, reply_root, batching_at, evaluation_at}
use Rattle.reply_tests.specs.Words.{batching_words, answer_words}

abbrev pub posed : Sizes → Bytes → Bytes → List ℕ → List ℕ → List ℕ → Question
posed s root salt challenges points indices = record { sizes = s; m = length points; root = root; salt = salt; challenges = challenges; evaluation_points = points; indices = indices }

-- what the question's tests leave of them
pub record Posed (s : Sizes) (salt : Bytes) (challenges points indices : List ℕ) : Type 0 where
  pub in_order : SizesInOrder s
  pub salted : length salt ≡ salt_length
  pub repetitions : length challenges ≡ s.η
  pub few_points : length points ≤ most_points
  pub opened : length indices ≡ s.ℓ
  pub rising : Rising indices
  pub below : Below (leaves s) indices

-- each of these facts has one proof at most
rising-prop : (xs : List ℕ) → IsProp (Rising xs)
rising-prop [] = Unit-prop
rising-prop (x ∷ xs) = ×_prop (Π_prop (λ y. Π_prop (λ m. le_prop))) (rising-prop xs)

below-prop : (n : ℕ) (xs : List ℕ) → IsProp (Below n xs)
below-prop n [] = Unit-prop
below-prop n (x ∷ xs) = ×_prop le_prop (below-prop n xs)

pub Posed-prop : (s : Sizes) (salt : Bytes) (challenges points indices : List ℕ) → IsProp (Posed s salt challenges points indices)
Posed-prop s salt challenges points indices = hlevel (props, rising-prop, below-prop)

-- the lists hold the answers of a reply of the right length
pub record Read (u : Question) (reply : Bytes) (batching answers : List ℕ) : Type 0 where
  pub whole : length reply ≡ reply_length u
  pub batching_read : batching ≡ batching_words u reply
  pub answers_read : answers ≡ answer_words u reply

-- ---- the tests in order

-- the reply's tests after that of its length
unfoldable pub later_tests : Question → Bytes → List Test
later_tests u reply =
    let r : Reply = read_reply u reply in
    (3, not (reply_elements u r))
    ∷ (8, not (same (reply_root u r) u.root))
    ∷ (9, not (each u.sizes.η (λ k. each u.sizes.ℓ (batching_at u r k))))
    ∷ (10, not (each u.m (λ p. each u.sizes.ℓ (evaluation_at u r p))))
    ∷ []
