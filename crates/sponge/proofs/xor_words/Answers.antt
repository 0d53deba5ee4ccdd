use mathlib.Core.Path.{◌≡◌, refl, sym, ap, ◌∙◌}
use mathlib.Core.List.{List}
use Prim.Native.Nat.{ℕ, ◌+◌, ◌-◌, ◌*◌, ◌/◌}
use native.Mathlib.Nat.{zero-add}
use native.Mathlib.Numerals.{add-one}
use native.Mathlib.Omega.{arith}
use lib.Bits.{bit_xor}
use lib.ListN.{length, get_or, set, take, drop}
use lib.Seq.{take-take}
use Rattle.lists.specs.Number.{number}
use Rattle.keccak.specs.Strings.{word}
use Rattle.sponge.specs.Step.{xor_word, xor_words}
use Rattle.sponge.proofs.Steps.{block_taken}
use Rattle.sponge.proofs.xor_words.Goals as goal

-- a step more
turn : (a s b d : List ℕ) (lane : ℕ) → b ≡ xor_words lane a s 0 → d ≡ xor_word b lane s (8 * lane) → d ≡ xor_words (lane + 1) a s 0
unfolding xor_words
turn a s b d lane e step =
    step
    ∙ ap (λ (t : List ℕ). xor_word t lane s (8 * lane)) e
    ∙ ap (xor_word (xor_words lane a s 0) lane s) (sym (zero-add (8 * lane)))
    ∙ ap (λ (n : ℕ). xor_words n a s 0) (sym (add-one lane))

-- a full word as a part of its own
apart : (a s : List ℕ) (lane : ℕ) → xor_word a lane (take (8 * lane + 8 - 8 * lane) (drop (8 * lane) s)) 0 ≡ xor_word a lane s (8 * lane)
unfolding xor_word word
apart a s lane =
    let size : 8 * lane + 8 - 8 * lane ≡ 8 = omega arith in
    ap (λ (w : List ℕ). set a lane (bit_xor (get_or a lane 0) (number 256 w)))
    (ap (λ (k : ℕ). take 8 (take k (drop (8 * lane) s))) size ∙ take-take 8 8 (drop (8 * lane) s) (omega arith))

pub loop-lane-init : goal.loop-lane-init
unfolding xor_words
loop-lane-init c = refl

pub loop-lane-preserved : goal.loop-lane-preserved
loop-lane-preserved c =
    let l = c.loop-lane in
    let e = c.args in
    turn e.a.now e.s.now l.a c.xor_word.new.a l.lane l.invariant (c.xor_word.ensures ∙ apart l.a e.s.now l.lane)

pub returns : goal.returns
returns c =
    let l = c.loop-lane in
    let a = c.args.a.now in
    let s = c.args.s.now in
    let all : l.lane ≡ length s / 8 = omega arith in
    let full : ℕ = length s / 8 in
    turn a s l.a c.xor_word-2.new.a full (l.invariant ∙ ap (λ (n : ℕ). xor_words n a s 0) all) c.xor_word-2.ensures
    ∙ block_taken (full + 1) a s c.requires.0 c.requires.1 (omega arith)
