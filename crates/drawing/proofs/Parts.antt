-- The strings that are drawn from, the challenges one by one, the bits of a draw, and the parts of the question so drawn.
use mathlib.Core.Path.{◌≡◌, refl, sym, ap, ap₂, ◌∙◌}
use mathlib.Core.List.{List, [], ◌∷◌, ◌++◌, map, flatten, append_assoc, append-nil, map-append}
use Prim.Native.Nat.{ℕ, suc, ◌+◌, ◌-◌, ◌*◌, ◌%◌, ◌^◌, ◌≤◌, ◌<◌}
use native.Mathlib.Nat.{zero-add, not-suc-le-zero, le_of_eq}
use native.Mathlib.Omega.{arith}
use lib.Dec.{ltb}
use lib.ListN.{length, get_or, take, drop, set, length-map, length-drop, length-append, drop_of_length-le}
use lib.Seq.{drop-cons, length-take-le, get_or-take}
use Rattle.algebra.specs.Prime.{q}
use Rattle.sponge.specs.Digest.{digest}
use Rattle.lists.specs.Bytes.{Bytes, from_bytes, little_endian, bytes_of, length-bytes_of, length-numbers}
use Rattle.lists.specs.Numbers.{numbers, numbers_next, front_next}
use Rattle.lists.specs.Pieces.{pieces, length-pieces}
use Rattle.lists.specs.Spliced.{spliced, spliced_more}
use Rattle.scheme.specs.Sizes.{Sizes}
use Rattle.scheme.specs.Question.{challenges_at, points_at, indices_at, question_length, header_sizes}
use Rattle.fiat_shamir.specs.Offline.{header_root_salt}
use Rattle.fiat_shamir.specs.Draw.{drawn_challenges, qualifies}
use Rattle.fiat_shamir.proofs.Counter.{qualifies-number}
use Rattle.offline_question.specs.Offline.{Offline}
use Rattle.offline_question.proofs.Answer.{offline_facts}

-- ---- a prefix, and a string after it

one : (n : ℕ) → 1 + n ≡ suc n
one n = omega arith

pub prefixed : (p : ℕ) (x room : Bytes) → 0 < length room → spliced 1 (length x) x (set room 0 p) ≡ (p ∷ x) ++ drop (suc (length x)) room
prefixed p x [] h = absurd (not-suc-le-zero h)
prefixed p x (y ∷ room) h = ap (λ (n : ℕ). (p ∷ x) ++ drop n (p ∷ room)) (one (length x))

-- of all of a room
pub prefixed_whole : (p : ℕ) (x room : Bytes) → length room ≡ suc (length x) → (p ∷ x) ++ drop (suc (length x)) room ≡ p ∷ x
prefixed_whole p x room size = ap (λ (t : Bytes). (p ∷ x) ++ t) (drop_of_length-le room (le_of_eq size)) ∙ append-nil (p ∷ x)

-- ---- γ, one word after the other

abbrev reduced : List ℕ → List ℕ
reduced xs = map (λ x. x % q) xs

-- the first i of them
abbrev pub challenges_in : Bytes → ℕ → List ℕ
challenges_in d i = reduced (numbers 8 i 0 d)

pub challenges_next : (d : Bytes) (o l : List ℕ) (i v : ℕ) → i < length o → l ≡ challenges_in d i ++ drop i o → v ≡ from_bytes (take 8 (drop (0 + 8 * i) d)) % q
    → set l i v ≡ challenges_in d (i + 1) ++ drop (i + 1) o
challenges_next d o l i v h e f =
    let size : length (challenges_in d i) ≡ i = length-map (numbers 8 i 0 d) _ ∙ length-map (pieces 8 i d) from_bytes ∙ length-pieces 8 i d in
    ap₂ (λ (t : List ℕ) (y : ℕ). set t i y) e f
    ∙ front_next (challenges_in d i) o i _ size h
    ∙ ap (λ (t : List ℕ). t ++ drop (i + 1) o)
    (sym (map-append (λ x. x % q) (numbers 8 i 0 d) (from_bytes (take 8 (drop (0 + 8 * i) d)) ∷ [])) ∙ ap reduced (numbers_next 8 i 0 d))

pub challenges_all : (b : Bytes) (o : List ℕ) (i : ℕ) → i ≡ length o → length o ≡ (header_sizes (header_root_salt b)).η
    → challenges_in (digest (2 ∷ header_root_salt b)) i ++ drop i o ≡ drawn_challenges (header_root_salt b)
unfolding drawn_challenges
challenges_all b o i e f =
    ap₂ (λ (n : ℕ) (t : List ℕ). challenges_in (digest (2 ∷ header_root_salt b)) n ++ t) (e ∙ f) (drop_of_length-le o (le_of_eq (sym e)))
    ∙ append-nil (challenges_in (digest (2 ∷ header_root_salt b)) (header_sizes (header_root_salt b)).η)

-- ---- the first bits of a draw, as one number

pub qualified_is : (κ : ℕ) (x : Bytes) → 2 ≤ length x → get_or x 0 0 < 256 → get_or x 1 0 < 256 → κ ≤ 16
    → ltb (256 * get_or x 0 0 + get_or x 1 0) (2 ^ (16 - κ)) ≡ qualifies κ x
qualified_is κ x l a b k =
    let split : x ≡ get_or x 0 0 ∷ get_or x 1 0 ∷ drop 2 x = drop-cons x 0 0 (omega arith) ∙ ap (λ (t : Bytes). get_or x 0 0 ∷ t) (drop-cons x 1 0 (omega arith)) in
    sym (ap (qualifies κ) split ∙ qualifies-number κ (get_or x 0 0) (get_or x 1 0) (drop 2 x) a b k)

-- ---- the question so drawn: four parts, one after the other

four_parts : (a b c d : Bytes) (i j k : ℕ) (o o₁ o₂ o₃ o₄ : Bytes) → i ≡ length a → j ≡ i + length b → k ≡ j + length c → k + length d ≡ length o
    → o₁ ≡ spliced 0 (length a) a o → o₂ ≡ spliced i (length b) b o₁ → o₃ ≡ spliced j (length c) c o₂ → o₄ ≡ spliced k (length d) d o₃
    → o₄ ≡ a ++ (b ++ (c ++ d))
four_parts a b c d i j k o o₁ o₂ o₃ o₄ ei ej ek en h₁ h₂ h₃ h₄ =
    let j-is : j ≡ 0 + (length a + length b) = omega (arith, ei, ej) in
    let k-is : k ≡ 0 + (length a + length b + length c) = omega (arith, ei, ej, ek) in
    let whole : length o ≤ 0 + (length a + length b + length c + length d) = omega (arith, ei, ej, ek, en) in
    let ab : length (a ++ b) ≡ length a + length b = length-append a b in
    let abc : length ((a ++ b) ++ c) ≡ length a + length b + length c = length-append (a ++ b) c ∙ omega (arith, ab) in
    let two : o₂ ≡ spliced 0 (length a + length b) (a ++ b) o =
    h₂ ∙ ap₂ (λ (p : ℕ) (t : Bytes). spliced p (length b) b t) (ei ∙ sym (zero-add (length a))) h₁
    ∙ spliced_more 0 (length a) a o refl (omega arith) (length b) b in
    let three : o₃ ≡ spliced 0 (length a + length b + length c) ((a ++ b) ++ c) o =
    h₃ ∙ ap₂ (λ (p : ℕ) (t : Bytes). spliced p (length c) c t) j-is two
    ∙ spliced_more 0 (length a + length b) (a ++ b) o ab (omega arith) (length c) c in
    h₄ ∙ ap₂ (λ (p : ℕ) (t : Bytes). spliced p (length d) d t) k-is three
    ∙ spliced_more 0 (length a + length b + length c) ((a ++ b) ++ c) o abc (omega arith) (length d) d
    ∙ ap (λ (t : Bytes). (((a ++ b) ++ c) ++ d) ++ t) (drop_of_length-le o whole)
    ∙ append-nil (((a ++ b) ++ c) ++ d)
    ∙ append_assoc (a ++ b) c d
    ∙ append_assoc a b (c ++ d)

module _ (b : Bytes) (s : Sizes) (m : ℕ) (offline : Offline b s m) (is : List ℕ) (count : length is ≡ s.ℓ) (o : Bytes) (size : length o ≡ question_length s m) where
  pub long : length b ≡ challenges_at + 4 * m
  long = (offline_facts b s m offline).long

  front_length : length (header_root_salt b) ≡ challenges_at
  front_length = length-take-le challenges_at b (omega (arith, long))

  points-length : length (drop challenges_at b) ≡ 4 * m
  points-length = length-drop challenges_at b ∙ omega (arith, long)

  pub parts_put : (γ : List ℕ) (i j k : ℕ) (a c o₁ o₂ o₃ o₄ : Bytes) → length γ ≡ s.η → i ≡ challenges_at → j ≡ points_at s → k ≡ indices_at s m
      → a ≡ header_root_salt b → c ≡ drop challenges_at b → o₁ ≡ spliced 0 (length a) a o
      → o₂ ≡ spliced i (4 * length γ) (bytes_of γ) o₁ → o₃ ≡ spliced j (length c) c o₂
      → o₄ ≡ spliced k (2 * length is) (flatten (map (little_endian 2) is)) o₃
      → o₄ ≡ header_root_salt b ++ (bytes_of γ ++ (drop challenges_at b ++ flatten (map (little_endian 2) is)))
  parts_put γ i j k a c o₁ o₂ o₃ o₄ lγ ei ej ek ea ec h₁ h₂ h₃ h₄ =
      let I : Bytes = flatten (map (little_endian 2) is) in
      let G : length (bytes_of γ) ≡ 4 * length γ = length-bytes_of γ in
      let J : length I ≡ 2 * length is = length-numbers 2 is in
      let la : length a ≡ challenges_at = ap length ea ∙ front_length in
      let lc : length c ≡ 4 * m = ap length ec ∙ points-length in
      four_parts a (bytes_of γ) c I i j k o o₁ o₂ o₃ o₄
      (ei ∙ sym la) (omega (arith, ei, ej, G, lγ)) (omega (arith, ej, ek, lc)) (omega (arith, ek, J, count, size)) h₁
      (h₂ ∙ ap (λ (n : ℕ). spliced i n (bytes_of γ) o₁) (sym G))
      h₃
      (h₄ ∙ ap (λ (n : ℕ). spliced k n I o₃) (sym J))
      ∙ ap₂ (λ (x y : Bytes). x ++ (bytes_of γ ++ (y ++ I))) ea ec

  -- there is room for each of them
  pub parts_fit : (challenges_at ≤ length b) × (0 + challenges_at ≤ length o) × (challenges_at + 4 * s.η ≤ length o) × (points_at s + 4 * m ≤ length o) × (indices_at s m + 2 * length is ≤ length o)
  parts_fit = (omega (arith, long), omega (arith, size), omega (arith, size), omega (arith, size), omega (arith, size, count))

-- ---- what the challenges' draw asks

pub challenges_ask : (b : Bytes) (s : Sizes) (m : ℕ) → Offline b s m → (s.η ≤ 4) × (challenges_at ≤ length b) × (s.η ≡ (header_sizes (header_root_salt b)).η)
challenges_ask b s m o =
    let f = offline_facts b s m o in
    (f.in_order.η-high, omega (arith, f.long), sym (get_or-take challenges_at b 12 0 (omega arith) ∙ ap (λ (t : Sizes). t.η) o.sizes))
