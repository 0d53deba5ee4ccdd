-- What a walk along a table of differences writes: columns lo, .., lo + lanes - 1 of rows of so many entries, from the last row to the first.
use Rattle.std.specs.Prelude.{◌≡◌, List, ℕ, suc, ◌+◌, ◌*◌, ◌%◌, ◌≤◌, ◌<◌}
use Rattle.algebra.specs.Prime.{q}
use Rattle.algebra.specs.Field.{K}
use Rattle.stepping.specs.Lanes.{entry, KeptBelow, KeptFrom, Lines, Ended}

unfoldable pub KeptColumns : ℕ → ℕ → ℕ → List ℕ → List ℕ → Type 0
KeptColumns stride lo lanes out out' =
    (x c : ℕ) → c < stride → (c < lo → entry out' (x * stride + c) ≡ entry out (x * stride + c)) × (lo + lanes ≤ c → entry out' (x * stride + c) ≡ entry out (x * stride + c))

-- the values of the first lanes at step n of a run, in places from `start` on
unfoldable pub PutLanes : List ℕ → ℕ → ℕ → ℕ → List ℕ → List ℕ → Type 0
PutLanes w n lanes start out out' = ((j : ℕ) → j < lanes → entry out' (start + j) ≡ entry w (4 * n + j) % q) × KeptBelow start out out' × KeptFrom (start + lanes) out out'

-- the values at the steps from i on below i + n
unfoldable pub Put : List ℕ → ℕ → ℕ → ℕ → ℕ → ℕ → ℕ → ℕ → List ℕ → Type 0
Put w i n first end stride lo lanes out =
    (x m j : ℕ) → m < n → x + suc (i + m) ≡ end → first ≤ i + m → j < lanes → entry out (x * stride + (lo + j)) ≡ entry w (4 * m + j) % q

-- what steps before i wrote is kept
unfoldable pub KeptRows : ℕ → ℕ → ℕ → ℕ → ℕ → List ℕ → List ℕ → Type 0
KeptRows i end stride lo lanes out out' = (x j : ℕ) → end ≤ x + i → j < lanes → entry out' (x * stride + (lo + j)) ≡ entry out (x * stride + (lo + j))

-- the values at the steps from `first` on, below i
unfoldable pub Walked : (ℕ → ℕ → K) → ℕ → ℕ → ℕ → ℕ → ℕ → ℕ → List ℕ → Type 0
Walked g i first end stride lo lanes out =
    (x m j : ℕ) → m < i → x + suc m ≡ end → first ≤ m → j < lanes → entry out (x * stride + (lo + j)) ≡ (g j m).val

unfoldable pub Walk : ℕ → List ℕ → ℕ → ℕ → ℕ → ℕ → ℕ → List ℕ → Type 0
Walk lines t first end stride lo lanes out =
    (g : ℕ → ℕ → K) → Lines g lanes lines 0 lines t 0 → Ended g lanes lines → Walked g end first end stride lo lanes out
