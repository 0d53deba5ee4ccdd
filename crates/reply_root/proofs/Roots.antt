-- The root from what the code hands on: the digests of the opened leaves, and the missing nodes.
use mathlib.Core.Path.{◌≡◌, ap, ap₂, ◌∙◌}
use mathlib.Core.List.{List, ◌∷◌, ◌++◌}
use Prim.Native.Nat.{ℕ, ◌+◌, ◌-◌, ◌*◌}
use native.Mathlib.Nat.{le_of_eq, add-mul, one-mul}
use native.Mathlib.Omega.{arith}
use lib.ListN.{length, get_or, take, drop, length-drop}
use lib.Seq.{take_all}
use Rattle.sponge.specs.Digest.{digest, digest-length}
use Rattle.tree.specs.Leaf.{leaf_string, record_start}
use Rattle.tree.specs.Tree.{parts, all_parts, root_from}
use Rattle.tree.specs.Work.{permutations_for}
use Rattle.lists.specs.Bytes.{Bytes}
use Rattle.lists.specs.Rows.{rows_of, rows-pieces}
use Rattle.opened.specs.Records.{record_of}
use Rattle.reply_root.specs.Root.{leaf_digest_at, root_at}

pub length-leaf_digest_at : (salt : Bytes) (at size : ℕ) (indices : List ℕ) (reply : Bytes) (a : ℕ) → length (leaf_digest_at salt at size indices reply a) ≡ 32
unfolding leaf_digest_at
length-leaf_digest_at salt at size indices reply a = digest-length _

-- record x is that of opened leaf a
pub digest-row : (salt : Bytes) (at size : ℕ) (indices : List ℕ) (reply : Bytes) (a i : ℕ) (x r : Bytes) → i ≡ get_or indices a 0 → x ≡ record_of at size reply a
    → r ≡ digest (leaf_string salt i x) → r ≡ leaf_digest_at salt at size indices reply a
unfolding leaf_digest_at
digest-row salt at size indices reply a i x r n f e = e ∙ ap₂ (λ (j : ℕ) (y : Bytes). digest (leaf_string salt j y)) n f

pub root_read : (salt : Bytes) (h at size : ℕ) (indices : List ℕ) (reply digests rest r : Bytes)
    → digests ≡ rows_of (leaf_digest_at salt at size indices reply) (length indices) ++ rest
    → r ≡ root_from digest 2 (1 ∷ salt) h indices (parts (length indices) digests)
    (all_parts (take (length reply - (at + size * length indices)) (drop (at + size * length indices) reply)))
    → r ≡ root_at salt h at size indices reply
unfolding root_at
root_read salt h at size indices reply digests rest r e f =
    let n : ℕ = at + size * length indices in
    f
    ∙ ap₂ (λ (ds : List Bytes) (x : Bytes). root_from digest 2 (1 ∷ salt) h indices ds (all_parts x))
    (ap (parts (length indices)) e ∙ rows-pieces 32 (leaf_digest_at salt at size indices reply) (length-leaf_digest_at salt at size indices reply) (length indices) rest)
    (take_all (length reply - n) (drop n reply) (le_of_eq (length-drop n reply)))

-- one leaf's permutations more

pub leaf_more : (size a ran r : ℕ) → ran ≡ a * permutations_for (record_start + size) → r ≡ permutations_for (record_start + size) → ran + r ≡ (a + 1) * permutations_for (record_start + size)
leaf_more size a ran r e f = omega (arith, e, f, add-mul a 1 (permutations_for (record_start + size)), one-mul (permutations_for (record_start + size)))
