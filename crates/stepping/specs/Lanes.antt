-- Tables of differences: lines of four lanes, the highest order first, one function to a lane.
use Rattle.std.specs.Prelude.{◌≡◌, ◌≢◌, List, [], ◌∷◌, ℕ, zero, suc, ◌+◌, ◌*◌, ◌≤◌, ◌<◌, get_or}
use Rattle.algebra.specs.Field.{K, of, 𝟎}
use Rattle.algebra.specs.Differences.{difference}

abbrev pub entry : List ℕ → ℕ → ℕ
entry t m = get_or t m 0

-- the lanes of a line
abbrev pub lane_count : ℕ
lane_count = 4

-- the steps of a run, after which entries are folded
abbrev pub run : ℕ
run = 24

-- ---- sizes of the numbers

-- 2^35
abbrev pub limit : ℕ
limit = 34359738368

-- below 2^35, as entries are between runs of 24 steps
unfoldable pub Small : List ℕ → Type 0
Small t = (m : ℕ) → entry t m < limit

-- .. and within a run: a step doubles it at most
unfoldable pub grown : ℕ → ℕ
grown zero = limit
grown (suc n) = grown n + grown n

-- five entries and one more, any two of which add up to a word
abbrev pub Addable : List ℕ → ℕ → Type 0
Addable v x = ((k : ℕ) → entry v k < 9223372036854775808) × (x < 9223372036854775808)

-- line n of what a run hands down
unfoldable pub Grown : List ℕ → Type 0
Grown w = (n j : ℕ) → j < 4 → entry w (4 * n + j) < grown n

-- ---- five entries of a lane

-- one step of them: each takes the one above it, the last takes x
abbrev pub turned : List ℕ → ℕ → List ℕ
turned v x = (entry v 0 + entry v 1) ∷ (entry v 1 + entry v 2) ∷ (entry v 2 + entry v 3) ∷ (entry v 3 + entry v 4) ∷ (entry v 4 + x) ∷ []

-- the five entries from `at` on are the differences at i, of the orders k + 4, .., k
unfoldable pub Five : (ℕ → K) → ℕ → List ℕ → ℕ → ℕ → Type 0
Five g k t at i = (p c : ℕ) → p + c ≡ 4 → of (entry t (at + 4 * p)) ≡ difference (k + c) g i

-- lane j of w has the differences of order k at i, i + 1, ..
unfoldable pub Handed : (ℕ → K) → ℕ → List ℕ → ℕ → ℕ → Type 0
Handed g k w j i = (n : ℕ) → n < run → of (entry w (4 * n + j)) ≡ difference k g (i + n)

-- 24 steps of a lane
unfoldable pub LaneStep : List ℕ → ℕ → List ℕ → ℕ → List ℕ → List ℕ → Type 0
LaneStep t at w j t' w' = (g : ℕ → K) (k i : ℕ) → Five g k t at i → Handed g (k + 5) w j i → Five g k t' at (i + run) × Handed g k w' j i

-- nothing else is changed
unfoldable pub KeptLines : List ℕ → ℕ → List ℕ → Type 0
KeptLines t at t' = (m : ℕ) → ((p : ℕ) → p < 5 → m ≢ at + 4 * p) → entry t' m ≡ entry t m

unfoldable pub KeptLanes : List ℕ → ℕ → List ℕ → Type 0
KeptLanes w j w' = (n i : ℕ) → i < 4 → i ≢ j → entry w' (4 * n + i) ≡ entry w (4 * n + i)

-- ---- all lanes

-- the lines from lo below hi, of so many lines in all, are the differences at i
unfoldable pub Lines : (ℕ → ℕ → K) → ℕ → ℕ → ℕ → ℕ → List ℕ → ℕ → Type 0
Lines g lanes lines lo hi t i = (j r k : ℕ) → j < lanes → lo ≤ r → r < hi → r + suc k ≡ lines → of (entry t (4 * r + j)) ≡ difference k (g j) i

unfoldable pub Fed : (ℕ → ℕ → K) → ℕ → ℕ → List ℕ → ℕ → Type 0
Fed g lanes k w i = (j : ℕ) → j < lanes → Handed (g j) k w j i

-- 24 steps of the five lines from 5b on
unfoldable pub BlockStep : ℕ → ℕ → List ℕ → List ℕ → List ℕ → List ℕ → Type 0
BlockStep b lanes t w t' w' =
    (g : ℕ → ℕ → K) (lines k i : ℕ) → 5 * b + 5 + k ≡ lines → Lines g lanes lines (5 * b) (5 * b + 5) t i → Fed g lanes (k + 5) w i
    → Lines g lanes lines (5 * b) (5 * b + 5) t' (i + run) × Fed g lanes k w' i

unfoldable pub KeptBelow : ℕ → List ℕ → List ℕ → Type 0
KeptBelow a t t' = (m : ℕ) → m < a → entry t' m ≡ entry t m

unfoldable pub KeptFrom : ℕ → List ℕ → List ℕ → Type 0
KeptFrom a t t' = (m : ℕ) → a ≤ m → entry t' m ≡ entry t m

-- differences of this order are 0
unfoldable pub Ended : (ℕ → ℕ → K) → ℕ → ℕ → Type 0
Ended g lanes k = (j i : ℕ) → j < lanes → difference k (g j) i ≡ 𝟎

-- 24 steps of the whole table; w has the 24 values
unfoldable pub TableStep : ℕ → ℕ → List ℕ → List ℕ → List ℕ → Type 0
TableStep lines lanes t t' w =
    (g : ℕ → ℕ → K) (i : ℕ) → Lines g lanes lines 0 lines t i → Ended g lanes lines → Lines g lanes lines 0 lines t' (i + run) × Fed g lanes 0 w i

unfoldable pub Zeros : List ℕ → Type 0
Zeros w = (m : ℕ) → entry w m ≡ 0
