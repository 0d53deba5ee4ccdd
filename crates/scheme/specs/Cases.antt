-- Small instances: a row holds what the definitions give and what the paper says. The starred ones, then those of lengths, versions, salts, work and blinding rows.
use mathlib.Core.List.{List, [], ◌∷◌, ◌++◌, map, flatten}
use Rattle.std.specs.Prelude.{ℕ, ◌+◌, ◌-◌, ◌*◌, ◌%◌, length, take, get_or, replicate}
use Rattle.lists.specs.Choice.{pick}
use Rattle.lists.specs.Range.{up_from}
use Rattle.tree.specs.Sets.{Node, missing}
use Rattle.tree.specs.Leaf.{leaf_string, salt_length}
use Rattle.tree.specs.Tree.{node_string}
use Rattle.tree.specs.Ancestors.{nodes_above}
use Rattle.tree.specs.Work.{permutations_for, work}
use Rattle.algebra.specs.Prime.{q}
use Rattle.algebra.specs.Inverse.{inv_n}
use Rattle.algebra.specs.Numbers.{eval_n, values_at_n}
use Rattle.scheme.specs.Sizes.{Sizes, arity, levels, node_prefix, columns, leaf_point}
use Rattle.scheme.specs.Layers.{Lent, column, row_polynomials, mask_polynomial, batching_answer, evaluation_answer, polynomial_values}
use Rattle.scheme.specs.Question.{Question, question_at, question_length, question_verdict}
use Rattle.scheme.specs.Reply.{reply_length}
use Rattle.scheme.specs.Commit.{commit_verdict}
use Rattle.scheme.specs.Work.{after_hashing, question_work}
use Rattle.scheme.specs.Interpolate.{interpolation_verdict}

-- case P: h = 1, all other sizes 1; coefficient 5, tail 9, mask 7 + 2X, γ 10; the paper gives no nonces and no salt: zeros
abbrev pub sizes_p : Sizes
sizes_p = record { h = 1; μ = 1; ν = 1; w = 1; ℓ = 1; η = 1; β = 0 }

abbrev pub salt_p : List ℕ
salt_p = replicate salt_length 0

abbrev pub lent_p : ℕ → Lent
lent_p x = record { coefficients = x ∷ []; tails = 9 ∷ []; blinds = []; masks = 7 ∷ 2 ∷ []; nonces = replicate 64 0; salt = salt_p }

abbrev pub rows_p : List (List ℕ)
rows_p = row_polynomials sizes_p (lent_p 5)

abbrev pub answer_p : List ℕ
answer_p = batching_answer sizes_p (lent_p 5) 0 10

-- μ = ν = 2, one polynomial 1 + 2X + 3X^2 + 4X^3
abbrev pub sizes4 : Sizes
sizes4 = record { h = 2; μ = 2; ν = 2; w = 1; ℓ = 1; η = 1; β = 0 }

abbrev pub columns4 : ℕ → List ℕ
columns4 z =
    take (columns sizes4) (evaluation_answer sizes4 (record { coefficients = 1 ∷ 2 ∷ 3 ∷ 4 ∷ []; tails = 0 ∷ 0 ∷ []; blinds = []; masks = 0 ∷ 0 ∷ 0 ∷ []; nonces = replicate 128 0; salt = salt_p }) z)

abbrev pub values4 : ℕ → List ℕ
values4 z = polynomial_values sizes4 z (columns4 z)

-- wν = 4 and N = 8
abbrev pub sizes8 : ℕ → Sizes
sizes8 ℓ = record { h = 3; μ = 1; ν = 4; w = 1; ℓ = ℓ; η = 1; β = 0 }

-- the verdict of committing for them and ℓ, everything 0 and of the right lengths
abbrev pub verdict8 : ℕ → ℕ
verdict8 ℓ =
    commit_verdict (sizes8 ℓ)
    (record { coefficients = replicate 4 0; tails = replicate ℓ 0; blinds = []; masks = replicate (4 + ℓ) 0; nonces = replicate 256 0; salt = salt_p }) (replicate 16 0) (replicate 480 0)

-- the verdict of committing in case P with the coefficient x
abbrev pub verdict_p : ℕ → ℕ
verdict_p x = commit_verdict sizes_p (lent_p x) (replicate 4 0) (replicate 96 0)

-- missing nodes: level and number of each
abbrev pub missing8 : List ℕ → List ℕ
missing8 s = flatten (map (λ (n : Node). n.0 ∷ n.1 ∷ []) (missing (arity (sizes8 4)) (levels (sizes8 4)) s))

abbrev pub starred : List (List ℕ × List ℕ)
starred =
    (((q - 1) * (q - 1) % q) ∷ inv_n 2 ∷ (((q - 1) + (q - 1)) % q) ∷ [], 1 ∷ 2147483646 ∷ (q - 2) ∷ [])
    ∷ (values_at_n rows_p (leaf_point 0) ++ values_at_n rows_p (leaf_point 1), 4294967288 ∷ 1 ∷ [])
    ∷ (answer_p, 4294967268 ∷ 42 ∷ [])
    ∷ (eval_n answer_p (leaf_point 1) ∷ (eval_n (mask_polynomial sizes_p (lent_p 5) 0) (leaf_point 1) + 10 * get_or (values_at_n rows_p (leaf_point 1)) 0 0) ∷ [], 19 ∷ (9 + 10) ∷ [])
    ∷ (columns4 10 ++ values4 10, 21 ∷ 43 ∷ 4321 ∷ [])
    ∷ (columns4 0 ++ values4 0, 1 ∷ 3 ∷ 1 ∷ [])
    ∷ (missing8 (0 ∷ 1 ∷ []), 1 ∷ 1 ∷ 2 ∷ 1 ∷ [])
    ∷ (missing8 (0 ∷ 4 ∷ []), 0 ∷ 1 ∷ 0 ∷ 5 ∷ 1 ∷ 1 ∷ 1 ∷ 3 ∷ [])
    ∷ (missing8 (0 ∷ 1 ∷ 2 ∷ 3 ∷ []), 2 ∷ 1 ∷ [])
    ∷ (verdict8 4 ∷ verdict8 5 ∷ [], 0 ∷ 1 ∷ [])
    ∷ (verdict_p 4294967290 ∷ verdict_p 4294967291 ∷ [], 0 ∷ 3 ∷ [])
    ∷ []

-- ---- lengths, versions, salts, blinding rows

-- what case P's question holds, but for its root
abbrev pub question_p : Question
question_p = record { sizes = sizes_p; m = 1; root = []; salt = salt_p; challenges = 10 ∷ []; evaluation_points = 6 ∷ []; indices = 1 ∷ [] }

-- the verdict on n bytes that begin with the mark and a version, all others 0: a 1 where the version is taken
abbrev pub verdict_v : ℕ → ℕ → ℕ
verdict_v n v = question_verdict (take n (0x53 ∷ 0x57 ∷ 0x51 ∷ v ∷ replicate 11 0))

-- what stands at the ends of root and salt in bytes that count from 0
abbrev pub named_in : Question → List ℕ
named_in u = get_or u.root 0 0 ∷ get_or u.root 31 0 ∷ get_or u.salt 0 0 ∷ get_or u.salt 31 0 ∷ []

-- the verdict of committing in case P with a salt of n bytes
abbrev pub verdict_s : ℕ → ℕ
verdict_s n =
    commit_verdict sizes_p (record { coefficients = 5 ∷ []; tails = 9 ∷ []; blinds = []; masks = 7 ∷ 2 ∷ []; nonces = replicate 64 0; salt = replicate n 0 }) (replicate 4 0) (replicate 96 0)

-- μ = ν = 2 and β = 1, one polynomial 1 + 2X + 3X^2 + 4X^3 + 5X^4, blinds
abbrev pub sizes5 : Sizes
sizes5 = record { h = 2; μ = 2; ν = 2; w = 1; ℓ = 1; η = 1; β = 1 }

abbrev pub lent5 : List ℕ → Lent
lent5 blinds = record { coefficients = 1 ∷ 2 ∷ 3 ∷ 4 ∷ 5 ∷ []; tails = 0 ∷ 0 ∷ 0 ∷ []; blinds = blinds; masks = 0 ∷ 0 ∷ 0 ∷ []; nonces = replicate 128 0; salt = salt_p }

abbrev pub columns5 : ℕ → List ℕ
columns5 z = take (columns sizes5) (evaluation_answer sizes5 (lent5 (7 ∷ [])) z)

abbrev pub verdict5 : List ℕ → ℕ
verdict5 blinds = commit_verdict sizes5 (lent5 blinds) (replicate 16 0) (replicate 224 0)

-- the verdict of committing with μ and β and nothing lent: a 2 where the sizes are taken
abbrev pub verdictβ : ℕ → ℕ → ℕ
verdictβ μ β = commit_verdict (record { h = 1; μ = μ; ν = 1; w = 1; ℓ = 1; η = 1; β = β }) (record { coefficients = []; tails = []; blinds = []; masks = []; nonces = []; salt = [] }) [] []

-- the verdict of interpolating, with room for n coefficients
abbrev pub verdict_i : List ℕ → List ℕ → ℕ → ℕ
verdict_i points values n = interpolation_verdict points values (replicate n 0)

-- the work of checking, with h = 3, μ rows and one repetition, for some leaves: their strings have 4 μ + 71 bytes
abbrev pub work3 : ℕ → List ℕ → ℕ
work3 μ leaves = question_work (record {
  sizes = record { h = 3; μ = μ; ν = 1; w = 1; ℓ = length leaves; η = 1; β = 0 };
  m = 1;
  root = [];
  salt = [];
  challenges = [];
  evaluation_points = [];
  indices = leaves;
})

-- the nodes above some of 8 leaves: level and number of each
abbrev pub above8 : List ℕ → List ℕ
above8 s = flatten (map (λ n. n.0 ∷ n.1 ∷ []) (nodes_above 2 3 s))

abbrev pub further : List (List ℕ × List ℕ)
further =
    (question_length sizes_p 1 ∷ reply_length question_p ∷ [], 89 ∷ 88 ∷ [])
    ∷ (verdict_v 14 3 ∷ verdict_v 15 1 ∷ verdict_v 15 2 ∷ verdict_v 15 3 ∷ verdict_v 15 4 ∷ [], 6 ∷ 5 ∷ 5 ∷ 1 ∷ 5 ∷ [])
    ∷ (named_in (question_at sizes_p 1 (up_from 0 89)), 15 ∷ 46 ∷ 47 ∷ 78 ∷ [])
    ∷ (verdict_s 31 ∷ verdict_s 32 ∷ verdict_s 33 ∷ [], 2 ∷ 0 ∷ 2 ∷ [])
    ∷ (leaf_string (7 ∷ 8 ∷ []) 258 (9 ∷ []) ++ node_string 2 (node_prefix sizes_p (7 ∷ 8 ∷ [])) (λ c. c ∷ []) 3, 0 ∷ 7 ∷ 8 ∷ 2 ∷ 1 ∷ 9 ∷ 1 ∷ 7 ∷ 8 ∷ 6 ∷ 7 ∷ [])
    ∷ (map permutations_for (0 ∷ 135 ∷ 136 ∷ 271 ∷ 272 ∷ 339 ∷ []) ++ (work (replicate 135 0 ∷ [] ∷ replicate 136 0 ∷ []) ∷ []), 1 ∷ 1 ∷ 2 ∷ 2 ∷ 3 ∷ 3 ∷ 4 ∷ [])
    ∷ (map (λ v. pick (after_hashing v) 1 0) (up_from 0 14), 1 ∷ 0 ∷ 0 ∷ 0 ∷ 0 ∷ 0 ∷ 0 ∷ 0 ∷ 1 ∷ 1 ∷ 1 ∷ 0 ∷ 0 ∷ 0 ∷ [])
    ∷ (above8 (0 ∷ 1 ∷ []), 1 ∷ 0 ∷ 2 ∷ 0 ∷ 3 ∷ 0 ∷ [])
    ∷ (above8 (1 ∷ 3 ∷ 7 ∷ []), 1 ∷ 0 ∷ 1 ∷ 1 ∷ 1 ∷ 3 ∷ 2 ∷ 0 ∷ 2 ∷ 1 ∷ 3 ∷ 0 ∷ [])
    ∷ (question_work question_p ∷ work3 16 (0 ∷ 1 ∷ []) ∷ work3 17 (0 ∷ 1 ∷ []) ∷ work3 17 (0 ∷ 7 ∷ []) ∷ work3 50 (5 ∷ []) ∷ work3 51 (5 ∷ []) ∷ [], 2 ∷ 5 ∷ 7 ∷ 9 ∷ 5 ∷ 6 ∷ [])
    ∷ (column sizes5 (lent5 (7 ∷ [])) 0 ++ column sizes5 (lent5 (7 ∷ [])) 1, 1 ∷ 2 ∷ 7 ∷ (q - 4) ∷ 4 ∷ 5 ∷ [])
    ∷ (columns5 10 ++ polynomial_values sizes5 10 (columns5 10), 721 ∷ 536 ∷ 54321 ∷ [])
    ∷ (columns5 0 ++ polynomial_values sizes5 0 (columns5 0), 1 ∷ (q - 4) ∷ 1 ∷ [])
    ∷ (verdict5 (7 ∷ []) ∷ verdict5 [] ∷ verdict5 (7 ∷ 7 ∷ []) ∷ verdict5 (q ∷ []) ∷ [], 0 ∷ 2 ∷ 2 ∷ 3 ∷ [])
    ∷ (verdictβ 16 16 ∷ verdictβ 17 17 ∷ verdictβ 15 16 ∷ verdictβ 48 16 ∷ verdictβ 49 16 ∷ [], 2 ∷ 1 ∷ 1 ∷ 2 ∷ 1 ∷ [])
    ∷ (verdict_i [] [] 0 ∷ verdict_i (replicate 320 0) (replicate 320 0) 320 ∷ verdict_i (replicate 321 0) [] 0 ∷ [], 1 ∷ 13 ∷ 1 ∷ [])
    ∷ (verdict_i (q ∷ []) [] 1 ∷ verdict_i (1 ∷ []) (q ∷ 1 ∷ []) 1 ∷ verdict_i (1 ∷ []) (q ∷ []) 0 ∷ [], 2 ∷ 2 ∷ 2 ∷ [])
    ∷ (verdict_i (q ∷ q ∷ []) (0 ∷ 0 ∷ []) 2 ∷ verdict_i (1 ∷ 1 ∷ []) (0 ∷ q ∷ []) 2 ∷ [], 3 ∷ 3 ∷ [])
    ∷ (verdict_i (1 ∷ 2 ∷ 1 ∷ []) (0 ∷ 1 ∷ 2 ∷ []) 3 ∷ verdict_i (1 ∷ 2 ∷ 2 ∷ []) (0 ∷ 0 ∷ 0 ∷ []) 3 ∷ verdict_i (0 ∷ (q - 1) ∷ []) ((q - 1) ∷ 0 ∷ []) 2 ∷ [], 13 ∷ 13 ∷ 0 ∷ [])
    ∷ []
