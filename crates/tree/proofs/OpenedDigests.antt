-- Digests written as bytes are read again; what is read from a tree for a set of its leaves are digests.
use mathlib.Core.List.{List, [], map, flatten, append-nil}
use mathlib.Core.Path.{◌≡◌, refl, sym, ap, ◌∙◌, subst}
use Prim.Native.Nat.{ℕ, zero, suc, ◌+◌, ◌*◌, ◌/◌, ◌^◌, ◌≤◌, ◌<◌}
use native.Mathlib.Nat.{pow-suc, mul-div_cancel_left}
use native.Mathlib.Omega.{arith}
use lib.ListN.{length, drop, length-drop}
use Rattle.lists.specs.All.{Below, Sized, all_append, all_map, all_imp, all_at, all_drop}
use Rattle.lists.specs.Bytes.{Bytes}
use Rattle.lists.specs.Pieces.{pieces-flatten, length-flatten}
use Rattle.tree.specs.Sets.{parents, siblings, missing, tree_size}
use Rattle.tree.specs.Tree.{at, opened, parts, all_parts}
use Rattle.tree.proofs.Complete.{opened-suc}
use Rattle.tree.proofs.Members.{parents_below, siblings_below}

-- digests put in a row are read again
pub parts-flatten : (ds : List Bytes) → Sized 32 ds → all_parts (flatten ds) ≡ ds
unfolding all_parts
parts-flatten ds h =
    ap (λ (k : ℕ). parts k (flatten ds)) (ap (λ (k : ℕ). k / 32) (length-flatten 32 ds h) ∙ mul-div_cancel_left (length ds) (omega arith))
    ∙ ap (parts (length ds)) (sym (append-nil (flatten ds))) ∙ pieces-flatten 32 ds [] h

level_fits : (b h : ℕ) → b ^ suc h + tree_size b h ≡ tree_size b (suc h)
unfolding tree_size
level_fits b h = refl

opened-zero : (b : ℕ) (t : List Bytes) (s : List ℕ) → opened b 0 t s ≡ []
unfolding opened missing
opened-zero b t s = refl

-- what is read from a tree for a set of its leaves are digests
pub opened-sized : (b h : ℕ) (t : List Bytes) (s : List ℕ) → zero < b → Sized 32 t → tree_size b h ≤ length t → Below (b ^ h) s → Sized 32 (opened b h t s)
opened-sized b zero t s pos z l w = subst (λ (r : List Bytes). Sized 32 r) (sym (opened-zero b t s)) tt
opened-sized b (suc h) t s pos z l w =
    let w' : Below (b ^ h * b) s = subst (λ (n : ℕ). Below n s) (pow-suc b h) w in
    subst (λ (r : List Bytes). Sized 32 r) (sym (opened-suc b h t s))
    (all_append (λ (d : Bytes). length d ≡ 32) (map (at t) (siblings b s)) (opened b h (drop (b ^ suc h) t) (parents b s))
    (all_map (at t) (λ (d : Bytes). length d ≡ 32) (siblings b s)
    (all_imp (λ (c : ℕ) (k : c < b ^ h * b). all_at (λ (d : Bytes). length d ≡ 32) [] t z c (omega (arith, k, l, level_fits b h, pow-suc b h))) (siblings b s) (siblings_below b (b ^ h) s pos w')))
    (opened-sized b h (drop (b ^ suc h) t) (parents b s) pos (all_drop (λ (d : Bytes). length d ≡ 32) (b ^ suc h) t z)
    (omega (arith, l, level_fits b h, length-drop (b ^ suc h) t)) (parents_below b (b ^ h) s pos w')))
