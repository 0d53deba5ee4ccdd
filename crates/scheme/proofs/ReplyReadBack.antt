-- A reply that is put together is read back.
use mathlib.Core.Path.{◌≡◌, refl, sym, ap, ap₂, ◌∙◌}
use mathlib.Core.List.{List, [], ◌∷◌, ◌++◌, map, flatten, append_assoc, append-nil}
use Prim.Native.Nat.{ℕ, ◌+◌, ◌*◌, ◌<◌}
use native.Mathlib.Omega.{arith}
use lib.ListN.{length, get_or, take, drop, length-append}
use lib.Seq.{take_at, drop_at, drop-drop}
use Rattle.lists.specs.Bytes.{Bytes, words, bytes_of, Small, words-bytes_of, length-bytes_of, bytes_of-append}
use Rattle.tree.specs.Tree.{parts}
use Rattle.lists.specs.All.{Sized, All}
use Rattle.lists.specs.Pieces.{pieces-flatten, length-flatten, pieces, piece, pieces_at}
use Rattle.scheme.specs.Sizes.{width}
use Rattle.scheme.specs.Question.{Question}
use Rattle.scheme.specs.Reply.{read_reply, reply_length, answers_at, records_at, nodes_at, record_length, missing_nodes}

pub words_one : (n : ℕ) (x : List ℕ) (rest : Bytes) → length x ≡ n → Small x → words n (bytes_of x ++ rest) ≡ x
words_one n x rest e h = ap (λ (k : ℕ). words k (bytes_of x ++ rest)) (sym e) ∙ words-bytes_of x rest h

parse_words : (n : ℕ) (xs : List (List ℕ)) (rest : Bytes) → Sized n xs → All Small xs
    → map (words n) (pieces (4 * n) (length xs) (bytes_of (flatten xs) ++ rest)) ≡ xs
unfolding pieces flatten
parse_words n [] rest h k = refl
parse_words n (x ∷ xs) rest h k =
    let e : bytes_of (x ++ flatten xs) ++ rest ≡ bytes_of x ++ (bytes_of (flatten xs) ++ rest) =
    ap (λ (t : Bytes). t ++ rest) (bytes_of-append x (flatten xs)) ∙ append_assoc (bytes_of x) (bytes_of (flatten xs)) rest in
    let m : length (bytes_of x) ≡ 4 * n = length-bytes_of x ∙ ap (λ (j : ℕ). 4 * j) h.0 in
    ap₂ (λ (a : List ℕ) (t : List (List ℕ)). a ∷ t)
    (ap (λ (b : Bytes). words n (take (4 * n) b)) e
    ∙ ap (words n) (take_at (bytes_of x) (bytes_of (flatten xs) ++ rest) (4 * n) m ∙ sym (append-nil (bytes_of x)))
    ∙ words_one n x [] h.0 k.0)
    (ap (λ (b : Bytes). map (words n) (pieces (4 * n) (length xs) (drop (4 * n) b))) e
    ∙ ap (λ (b : Bytes). map (words n) (pieces (4 * n) (length xs) b)) (drop_at (bytes_of x) (bytes_of (flatten xs) ++ rest) (4 * n) m)
    ∙ parse_words n xs rest h.1 k.1)

pub piece-flatten : {A : Type 0} (k : ℕ) (xs : List (List A)) (i : ℕ) → Sized k xs → i < length xs → piece k i (flatten xs) ≡ get_or xs i []
piece-flatten k xs i h l =
    sym (pieces_at k (length xs) i (flatten xs) l)
    ∙ ap (λ (x : List _). get_or (pieces k (length xs) x) i []) (sym (append-nil (flatten xs)))
    ∙ ap (λ (x : List (List _)). get_or x i []) (pieces-flatten k xs [] h)

-- the four parts of a reply: as many as the question asks, each of its length, words of four bytes
pub record FourParts (u : Question) (bs as' : List (List ℕ)) (xs ns : List Bytes) : Type 0 where
  pub batching_count : length bs ≡ u.sizes.η
  pub answers_count : length as' ≡ u.m
  pub records_count : length xs ≡ u.sizes.ℓ
  pub nodes_count : length ns ≡ length (missing_nodes u)
  pub batching_sized : Sized (width u.sizes) bs
  pub answers_sized : Sized (width u.sizes) as'
  pub records_sized : Sized (record_length u.sizes) xs
  pub nodes_sized : Sized 32 ns
  pub batching_small : All Small bs
  pub answers_small : All Small as'

module _ (u : Question) (bs as' : List (List ℕ)) (xs ns : List Bytes) (p : FourParts u bs as' xs ns) where
  abbrev B : Bytes
  B = bytes_of (flatten bs)

  abbrev A : Bytes
  A = bytes_of (flatten as')

  abbrev X : Bytes
  X = flatten xs

  abbrev N : Bytes
  N = flatten ns

  abbrev r : Bytes
  r = B ++ (A ++ (X ++ N))

  B_length : length B ≡ answers_at u.sizes
  B_length = length-bytes_of (flatten bs) ∙ ap (λ (k : ℕ). 4 * k) (length-flatten (width u.sizes) bs p.batching_sized ∙ ap (λ (k : ℕ). width u.sizes * k) p.batching_count) ∙ omega arith

  A_length : length A ≡ 4 * width u.sizes * u.m
  A_length = length-bytes_of (flatten as') ∙ ap (λ (k : ℕ). 4 * k) (length-flatten (width u.sizes) as' p.answers_sized ∙ ap (λ (k : ℕ). width u.sizes * k) p.answers_count) ∙ omega arith

  X_length : length X ≡ record_length u.sizes * u.sizes.ℓ
  X_length = length-flatten (record_length u.sizes) xs p.records_sized ∙ ap (λ (k : ℕ). record_length u.sizes * k) p.records_count

  N_length : length N ≡ 32 * length (missing_nodes u)
  N_length = length-flatten 32 ns p.nodes_sized ∙ ap (λ (k : ℕ). 32 * k) p.nodes_count

  pub whole_length : length r ≡ reply_length u
  whole_length =
      length-append B (A ++ (X ++ N))
      ∙ ap (λ (k : ℕ). length B + k) (length-append A (X ++ N) ∙ ap (λ (k : ℕ). length A + k) (length-append X N))
      ∙ omega (arith, B_length, A_length, X_length, N_length)

  from_answers : drop (answers_at u.sizes) r ≡ A ++ (X ++ N)
  from_answers = drop_at B (A ++ (X ++ N)) (answers_at u.sizes) B_length

  from_records : drop (records_at u.sizes u.m) r ≡ X ++ N
  from_records =
      sym (drop-drop (4 * width u.sizes * u.m) (answers_at u.sizes) r)
      ∙ ap (drop (4 * width u.sizes * u.m)) from_answers
      ∙ drop_at A (X ++ N) (4 * width u.sizes * u.m) A_length

  from_nodes : drop (nodes_at u.sizes u.m) r ≡ N
  from_nodes =
      sym (drop-drop (record_length u.sizes * u.sizes.ℓ) (records_at u.sizes u.m) r)
      ∙ ap (drop (record_length u.sizes * u.sizes.ℓ)) from_records
      ∙ drop_at X N (record_length u.sizes * u.sizes.ℓ) X_length

  pub back_batching : (read_reply u r).batching ≡ bs
  unfolding read_reply
  back_batching =
      ap (λ (k : ℕ). map (words (width u.sizes)) (pieces (4 * width u.sizes) k r)) (sym p.batching_count) ∙ parse_words (width u.sizes) bs (A ++ (X ++ N)) p.batching_sized p.batching_small

  pub back_answers : (read_reply u r).answers ≡ as'
  unfolding read_reply
  back_answers =
      ap₂ (λ (k : ℕ) (b : Bytes). map (words (width u.sizes)) (pieces (4 * width u.sizes) k b)) (sym p.answers_count) from_answers
      ∙ parse_words (width u.sizes) as' (X ++ N) p.answers_sized p.answers_small

  pub back_records : (read_reply u r).records ≡ xs
  unfolding read_reply
  back_records =
      ap₂ (λ (k : ℕ) (b : Bytes). pieces (record_length u.sizes) k b) (sym p.records_count) from_records ∙ pieces-flatten (record_length u.sizes) xs N p.records_sized

  pub back_nodes : (read_reply u r).nodes ≡ ns
  unfolding read_reply
  back_nodes =
      ap₂ (λ (k : ℕ) (b : Bytes). parts k b) (sym p.nodes_count) (from_nodes ∙ sym (append-nil N)) ∙ pieces-flatten 32 ns [] p.nodes_sized
