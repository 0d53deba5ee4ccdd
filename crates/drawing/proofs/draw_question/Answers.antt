-- `drawing::draw_question` meets its contract.
use Rattle.offline_question.proofs.Answer.{offline_taken}
use mathlib.Core.Path.{◌∙◌, ◌≡◌, ap, sym}
use mathlib.Core.List.{List, ◌++◌, flatten, map}
use lib.Seq.{length-take-le}
use lib.ListN.{drop, length, take, replicate}
use Rattle.scheme.specs.Sizes.{Sizes}
use Rattle.scheme.specs.Question.{challenges_at}
use Rattle.lists.specs.Bytes.{Bytes, bytes_of, little_endian}
use Rattle.offline_question.specs.Offline.{Offline}
use Rattle.fiat_shamir.specs.Offline.{header_root_salt}
use Rattle.fiat_shamir.specs.Draw.{drawn_bytes}
use Rattle.drawing.proofs.Parts.{challenges_ask}
use Rattle.commitment.specs.Shape.{sizes_in}
use Prim.Native.Nat.{ℕ}
use native.Mathlib.Omega.{arith}
use Rattle.drawing.proofs.draw_question.Goals as goal

-- the room's part for the challenges
part : (b : Bytes) (s : Sizes) (m : ℕ) → Offline b s m → length {A = ℕ} (take s.η (replicate 4 0)) ≡ s.η
part b s m o = length-take-le s.η (replicate 4 0) (omega (arith, (challenges_ask b s m o).0))

pub slice_bounds-room-end : goal.slice_bounds-room-end
slice_bounds-room-end c =
    let s = c.args in
    omega (arith, (challenges_ask s.query.now.bytes.now (sizes_in s.query.now.shape) s.query.now.m (offline_taken s.query.now.bytes.now s.query.now.kappa s.query.now.shape s.query.now.m s.query.now.asks).1).0)

pub slice_bounds-challenges-end : goal.slice_bounds-challenges-end
slice_bounds-challenges-end c =
    let s = c.args in
    sym (part s.query.now.bytes.now (sizes_in s.query.now.shape) s.query.now.m (offline_taken s.query.now.bytes.now s.query.now.kappa s.query.now.shape s.query.now.m s.query.now.asks).1)

pub draw_challenges-requires : goal.draw_challenges-requires
draw_challenges-requires c =
    let s = c.args in
    let a = challenges_ask s.query.now.bytes.now (sizes_in s.query.now.shape) s.query.now.m (offline_taken s.query.now.bytes.now s.query.now.kappa s.query.now.shape s.query.now.m s.query.now.asks).1 in
    let l = part s.query.now.bytes.now (sizes_in s.query.now.shape) s.query.now.m (offline_taken s.query.now.bytes.now s.query.now.kappa s.query.now.shape s.query.now.m s.query.now.asks).1 in
    (a.1, omega (arith, l, a.0), l ∙ a.2)

pub put_parts-requires : goal.put_parts-requires
put_parts-requires c =
    let s = c.args in
    (c.draw_challenges.auto.out ∙ part s.query.now.bytes.now (sizes_in s.query.now.shape) s.query.now.m (offline_taken s.query.now.bytes.now s.query.now.kappa s.query.now.shape s.query.now.m s.query.now.asks).1, c.requires.0, c.requires.1)

pub returns : goal.returns
unfolding drawn_bytes
returns c =
    let s = c.args in
    let b = s.query.now.bytes.now in
    c.put_parts.ensures
    ∙ ap (λ (xs : List ℕ). header_root_salt b ++ (bytes_of xs ++ (drop challenges_at b ++ flatten (map (little_endian 2) s.indices.now)))) c.draw_challenges.ensures
