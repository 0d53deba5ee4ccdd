-- `words::word` meets its contract.
use mathlib.Core.Path.{◌≡◌, sym, ap, ◌∙◌}
use Prim.Native.Nat.{ℕ, ◌+◌, ◌-◌, ◌≤◌}
use native.Mathlib.Omega.{arith}
use lib.ListN.{length, take, drop, length-drop}
use lib.Seq.{take_all}
use Rattle.lists.specs.Bytes.{from_bytes}
use Rattle.lists.specs.Parts.{mid_tail}
use Rattle.keccak.specs.Strings.{word}
use Rattle.words.proofs.word.Goals as goal

pub returns-then-s-at-lt8 : goal.returns-then-s-at-lt8
unfolding word
returns-then-s-at-lt8 c =
    let s = c.args.s.now in
    let at = c.args.at in
    let few : length (drop at s) ≤ 8 = omega (arith, length-drop at s) in
    c.number.ensures ∙ ap from_bytes (mid_tail at s ∙ sym (take_all 8 (drop at s) few))

pub returns : goal.returns
unfolding word
returns c =
    let s = c.args.s.now in
    let at = c.args.at in
    let all : at + 8 - at ≡ 8 = omega arith in
    c.number-2.ensures ∙ ap (λ (k : ℕ). from_bytes (take k (drop at s))) all
