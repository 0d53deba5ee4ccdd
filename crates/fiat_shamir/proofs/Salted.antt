-- Every string that is hashed tells its commitment's salt; so strings under different salts differ. And what is drawn is drawn from such strings.
use mathlib.Core.Path.{◌≡◌, refl, sym, ap, ◌∙◌}
use mathlib.Core.Bool.{Bool, true}
use mathlib.Core.List.Memᴰ.{head as here, tail as there}
use mathlib.Core.List.{List, [], ◌∷◌, ◌++◌, map, Memᴰ as Mem}
use Prim.Native.Nat.{ℕ, suc, ◌+◌, ◌*◌, ◌%◌, ◌≤◌, ◌<◌}
use native.Mathlib.Omega.{arith}
use lib.Dec.{ltb}
use lib.ListN.{length, get_or, take, drop, length-drop}
use lib.Seq.{take-append-le, take-take, length-take-le}
use borrow.Author.Tests.{eqb-true, lt-ltb}
use Rattle.lists.specs.Choice.{pick}
use Rattle.lists.specs.All.{All, all_append, all_each, all_imp, all_mem}
use Rattle.sponge.specs.Digest.{digest}
use Rattle.sponge.specs.Draw.{draw}
use Rattle.lists.specs.Maps.{map_in}
use Rattle.lists.specs.Range.{up_from, up_from_in}
use Rattle.lists.specs.Bytes.{Bytes, doubles}
use Rattle.lists.specs.Pieces.{drop-take}
use Rattle.lists.specs.Tests.{every_true}
use Rattle.algebra.specs.Prime.{q}
use Rattle.tree.specs.Leaf.{salt_length}
use Rattle.scheme.specs.Layers.{Lent}
use Rattle.scheme.specs.Sizes.{Sizes}
use Rattle.scheme.specs.Question.{read_question, header_sizes, salt_at, challenges_at}
use Rattle.scheme.specs.Reply.{read_reply}
use Rattle.scheme.specs.Commit.{lent_ok, committed_strings}
use Rattle.scheme.specs.Check.{hashed_strings}
use Rattle.scheme.proofs.Accepted.{well_formed}
use Rattle.scheme.proofs.Salted.{Salted, salt_is, committed_salted, hashed_salted}
use Rattle.fiat_shamir.specs.Offline.{header_root_salt, offline_salt, offline_verdict}
use Rattle.fiat_shamir.specs.Draw.{challenge_string, drawn_challenges, draw_string, leaf_draw, ranks_at}
use Rattle.fiat_shamir.specs.Prove.{proved_answers, counter_bytes, counter_draw}
use Rattle.fiat_shamir.specs.CheckProof.{proof_counter, proof_reply, answers_length, proof_draw, proof_asks}
use Rattle.fiat_shamir.specs.Salts.{Hashing, commits, checks, proves, checks_proof, salt_of, draw_strings, strings_of, Begun, salt_in, SaltsApart}
use Rattle.fiat_shamir.proofs.Drawn.{asked_offline_lem}

abbrev Tells : Bytes → Bytes → Type 0
Tells salt x = salt_in x ≡ salt

-- ---- leaves and nodes

salted_tells : (salt : Bytes) → length salt ≡ salt_length → (x : Bytes) → Salted salt x → Tells salt x
unfolding salt_in
salted_tells salt e x h =
    ap (λ (b : Bool). take salt_length (drop (pick b 1 (suc salt_at)) x)) (ap (λ (y : Bytes). ltb (get_or y 0 0) 2) h.2.1 ∙ lt-ltb h.0 2 h.1)
    ∙ salt_is salt x e h

all_salted : (salt : Bytes) (xs : List Bytes) → length salt ≡ salt_length → All (Salted salt) xs → All (Tells salt) xs
all_salted salt xs e h = all_imp (salted_tells salt e) xs h

-- ---- draws

-- bytes that begin with a question's header, root and salt
begins_tells : (question x : Bytes) → take challenges_at x ≡ header_root_salt question → take salt_length (drop salt_at x) ≡ offline_salt question
begins_tells question x e = sym (drop-take salt_at salt_length x) ∙ ap (drop salt_at) e ∙ drop-take salt_at salt_length question

module _ (question : Bytes) (long : challenges_at ≤ length question) where
  challenge_tells : Tells (offline_salt question) (challenge_string (header_root_salt question))
  unfolding salt_in
  challenge_tells = begins_tells question (header_root_salt question) (take-take challenges_at challenges_at question (omega arith))

  draw_tells : (answers counter : Bytes) → Tells (offline_salt question) (draw_string question answers counter)
  unfolding salt_in draw_string
  draw_tells answers counter = begins_tells question (question ++ (answers ++ counter)) (take-append-le challenges_at question (answers ++ counter) long)

  draws_tell : (answers : Bytes) (counters : List Bytes) → All (Tells (offline_salt question)) (draw_strings question answers counters)
  draws_tell answers counters = (challenge_tells, all_each (Tells (offline_salt question)) (draw_string question answers) counters (draw_tells answers))

-- ---- all

lent_salt : (s : Sizes) (l : Lent) → lent_ok s l ≡ true → length l.salt ≡ salt_length
unfolding lent_ok
lent_salt s l e = eqb-true _ _ (every_true _ e).1.1.1.1.1.0

offline_long : (question : Bytes) (κ : ℕ) → offline_verdict question κ ≡ 0 → challenges_at ≤ length question
offline_long question κ e = omega (arith, (asked_offline_lem question κ e).long)

offline_salt_lem : (question : Bytes) → challenges_at ≤ length question → length (offline_salt question) ≡ salt_length
offline_salt_lem question long = length-take-le salt_length (drop salt_at question) (omega (arith, length-drop salt_at question))

all_told : (a : Hashing) → Begun a → All (Tells (salt_of a)) (strings_of a)
all_told (commits s l) e = all_salted l.salt (committed_strings s l) (lent_salt s l e) (committed_salted s l)
all_told (checks question reply) e =
    let u = read_question question in
    all_salted u.salt (hashed_strings u (read_reply u reply)) (well_formed question e).salted (hashed_salted u (read_reply u reply))
all_told (proves question κ limit l) e = draws_tell question (offline_long question κ e) (proved_answers question l) (map counter_bytes (up_from 0 limit))
all_told (checks_proof question κ proof) e =
    let u = proof_asks question proof in
    let long : challenges_at ≤ length question = offline_long question κ e in
    let answers : Bytes = take (answers_length question) (proof_reply proof) in
    let hashed : List Bytes = hashed_strings u (read_reply u (proof_reply proof)) in
    all_append (Tells (offline_salt question)) (draw_strings question answers (proof_counter proof ∷ [])) hashed (draws_tell question long answers (proof_counter proof ∷ []))
    (all_salted (offline_salt question) hashed (offline_salt_lem question long) (hashed_salted u (read_reply u (proof_reply proof))))

told : (a : Hashing) → Begun a → (x : Bytes) → Mem x (strings_of a) → salt_in x ≡ salt_of a
told a e x m = all_mem (Tells (salt_of a)) (strings_of a) (all_told a e) x m

pub salts_apart : SaltsApart
salts_apart = record { told = told; apart = λ a b e f n x m k. n (sym (told a e x m) ∙ told b f x k) }

-- ---- what is drawn is drawn from these strings

pub challenges_hashed : (question answers : Bytes) (counters : List Bytes)
    → (x : Bytes) × Mem x (draw_strings question answers counters) × (drawn_challenges (header_root_salt question) ≡ map (λ w. w % q) (doubles (header_sizes (header_root_salt question)).η (digest x)))
unfolding drawn_challenges
challenges_hashed question answers counters = (challenge_string (header_root_salt question), here refl, refl)

pub proved_hashed : (question : Bytes) (κ limit : ℕ) (l : Lent) (c : ℕ) → c < limit
    → (x : Bytes) × Mem x (strings_of (proves question κ limit l)) × (counter_draw question l c ≡ draw x (ranks_at + 8 * (header_sizes question).ℓ))
unfolding leaf_draw
proved_hashed question κ limit l c m = (
  draw_string question (proved_answers question l) (counter_bytes c),
  there (map_in (draw_string question (proved_answers question l)) (map_in counter_bytes (up_from_in 0 limit c (omega arith) (omega (arith, m))))),
  refl,
)

pub checked_hashed : (question : Bytes) (κ : ℕ) (proof : Bytes)
    → (x : Bytes) × Mem x (strings_of (checks_proof question κ proof)) × (proof_draw question proof ≡ draw x (ranks_at + 8 * (header_sizes question).ℓ))
unfolding proof_draw leaf_draw
checked_hashed question κ proof = (draw_string question (take (answers_length question) (proof_reply proof)) (proof_counter proof), there (here refl), refl)
