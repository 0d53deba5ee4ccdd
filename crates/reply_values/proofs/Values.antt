-- The values of the polynomials: at one point, and at all.
use mathlib.Core.Path.{◌≡◌, refl, sym, ap, ap₂, ◌∙◌}
use mathlib.Core.List.{List, [], ◌∷◌, ◌++◌, map, map-append}
use Prim.Native.Nat.{ℕ, ◌+◌, ◌-◌, ◌*◌, ◌<◌}
use native.Mathlib.Numerals.{add-one}
use lib.ListN.{length, get_or, take, drop, set, length-map}
use lib.Seq.{drop-drop}
use Rattle.lists.specs.Bytes.{Bytes, words}
use Rattle.lists.specs.Pieces.{piece, pieces, pieces-snoc, length-pieces}
use Rattle.algebra.specs.Columns.{pow_n}
use Rattle.algebra.specs.Numbers.{eval_n}
use Rattle.reply_values.specs.Values.{point_values, values_at}
use Rattle.lists.specs.Rows.{rows_of, rows_ext, front_all}
use Rattle.scheme.specs.Sizes.{Sizes, width}
use Rattle.scheme.specs.Layers.{polynomial_values}
use Rattle.scheme.specs.Question.{Question}
use Rattle.scheme.specs.Reply.{read_reply, answers_at}
use Rattle.scheme.specs.Check.{point_of, answer_of, check_values}
use Rattle.scheme.proofs.ReplyPlaces.{answer_words_lem}
use Rattle.lists.specs.Numbers.{front_next, words-piece}
use Rattle.lists.specs.Parts.{part_is}

length-point_values : (ν base : ℕ) (answer : List ℕ) (n : ℕ) → length (point_values ν base answer n) ≡ n
unfolding point_values
length-point_values ν base answer n = length-map (pieces ν n answer) (λ vs. eval_n vs base) ∙ length-pieces ν n answer

point_next : (ν base : ℕ) (answer : List ℕ) (i : ℕ) → point_values ν base answer (i + 1) ≡ point_values ν base answer i ++ (eval_n (piece ν i answer) base ∷ [])
unfolding point_values
point_next ν base answer i =
    ap (λ (k : ℕ). map (λ vs. eval_n vs base) (pieces ν k answer)) (add-one i)
    ∙ ap (map (λ vs. eval_n vs base)) (pieces-snoc ν i answer)
    ∙ map-append (λ vs. eval_n vs base) (pieces ν i answer) (piece ν i answer ∷ [])

pub point_start : (ν base : ℕ) (answer d : List ℕ) → d ≡ point_values ν base answer 0 ++ drop 0 d
unfolding point_values pieces
point_start ν base answer d = refl

pub point_turn : (ν base : ℕ) (answer d out : List ℕ) (i v : ℕ) → i < length d → out ≡ point_values ν base answer i ++ drop i d
    → v ≡ eval_n (take (ν * i + ν - ν * i) (drop (ν * i) answer)) base → set out i v ≡ point_values ν base answer (i + 1) ++ drop (i + 1) d
point_turn ν base answer d out i v h e f =
    ap₂ (λ (t : List ℕ) (k : ℕ). set t i k) e (f ∙ ap (λ (t : List ℕ). eval_n t base) (part_is ν i answer))
    ∙ front_next (point_values ν base answer i) d i (eval_n (piece ν i answer) base) (length-point_values ν base answer i) h
    ∙ ap (λ (t : List ℕ). t ++ drop (i + 1) d) (sym (point_next ν base answer i))

-- the row of a point
pub length-values_at : (μ ν w width : ℕ) (points answers : List ℕ) (p : ℕ) → length (values_at μ ν w width points answers p) ≡ w
unfolding values_at
length-values_at μ ν w width points answers p = length-point_values ν (pow_n (get_or points p 0) μ) (piece width p answers) w

-- the answer of a point, read from the bytes of all answers into room for one
pub answer_read : (width count at p : ℕ) (reply d r : List ℕ) → p < count → length d ≡ width
    → r ≡ words (length d) (drop (at + 4 * width * p) reply) ++ drop (length d) d → r ≡ piece width p (words (width * count) (drop at reply))
answer_read width count at p reply d r l e f =
    f
    ∙ front_all (words (length d) (drop (at + 4 * width * p) reply)) d (length d) refl
    ∙ ap₂ words e (sym (drop-drop (4 * width * p) at reply))
    ∙ sym (words-piece width count p (drop at reply) l)

pub values_is : (μ ν w width : ℕ) (points answers : List ℕ) (p base n : ℕ) (answer r : List ℕ) → n ≡ w → base ≡ pow_n (get_or points p 0) μ
    → answer ≡ piece width p answers → r ≡ point_values ν base answer n → r ≡ values_at μ ν w width points answers p
unfolding values_at
values_is μ ν w width points answers p base n answer r e f h g =
    g ∙ ap₂ (λ (b k : ℕ). point_values ν b answer k) f e ∙ ap (λ (t : List ℕ). point_values ν (pow_n (get_or points p 0) μ) t w) h

-- ---- they are those of the definition

values_are : (u : Question) (reply : Bytes)
    → rows_of (values_at u.sizes.μ u.sizes.ν u.sizes.w (width u.sizes) u.evaluation_points (words (width u.sizes * u.m) (drop (answers_at u.sizes) reply))) u.m
    ≡ check_values u (read_reply u reply)
unfolding check_values rows_of values_at point_values polynomial_values
values_are u reply =
    rows_ext (values_at u.sizes.μ u.sizes.ν u.sizes.w (width u.sizes) u.evaluation_points (words (width u.sizes * u.m) (drop (answers_at u.sizes) reply)))
    (λ p. polynomial_values u.sizes (point_of u p) (answer_of (read_reply u reply) p)) u.m
    (λ p l. ap (λ (x : List ℕ). polynomial_values u.sizes (point_of u p) x) (sym (answer_words_lem u reply p l)))

-- for the sizes, points and places that the code holds
pub values_done : (u : Question) (reply : Bytes) (s : Sizes) (wide from : ℕ) (ps : List ℕ) → s ≡ u.sizes → wide ≡ width s → from ≡ answers_at s → ps ≡ u.evaluation_points → length ps ≡ u.m
    → rows_of (values_at s.μ s.ν s.w wide ps (words (wide * length ps) (drop from reply))) (length ps) ≡ check_values u (read_reply u reply)
values_done u reply s wide from ps z e f g h =
    ap₂ (λ (n k : ℕ). rows_of (values_at s.μ s.ν s.w n ps (words (n * length ps) (drop k reply))) (length ps)) e f
    ∙ ap₂ (λ (y : List ℕ) (n : ℕ). rows_of (values_at s.μ s.ν s.w (width s) y (words (width s * n) (drop (answers_at s) reply))) n) g h
    ∙ ap (λ (t : Sizes). rows_of (values_at t.μ t.ν t.w (width t) u.evaluation_points (words (width t * u.m) (drop (answers_at t) reply))) u.m) z
    ∙ values_are u reply
