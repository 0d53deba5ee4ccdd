use native.Mathlib.Nat.{mod-lt, zero-add}
use mathlib.Core.Path.{◌∙◌, ap, ap₂, sym}
use mathlib.Core.List.{List, ◌++◌}
use lib.ListN.{drop, length-set, take}
use Rattle.lists.specs.Pieces.{pieces}
use Rattle.lists.specs.Bytes.{from_bytes}
use Rattle.drawing.proofs.Parts.{challenges_all, challenges_next, challenges_in}
use Prim.Native.Nat.{◌%◌, ◌*◌, ◌<◌, ℕ}
use Rattle.keccak.specs.Strings.{word}
use borrow.Author.Rules.{rules}
use native.Mathlib.Omega.{arith}
use Rattle.drawing.proofs.draw_challenges.Goals as goal

pub loop-k-init : goal.loop-k-init
unfolding pieces
loop-k-init c = (search rules, search rules)

pub overflow_cast-x : goal.overflow_cast-x
overflow_cast-x c =
    let word' = c.word in
    let low : word'.result % c.from.result < c.from.result = mod-lt word'.result (omega (arith, c.from.ensures)) in
    omega (arith, c.from.ensures, low)

pub loop-k-preserved : goal.loop-k-preserved
unfolding word
loop-k-preserved c =
    let challengeDigest' = c.challenge_digest-d in
    let loop' = c.loop-k in
    let word' = c.word in
    let s = c.args in (
      length-set loop'.out loop'.k _ ∙ loop'.invariant.0,
      challenges_next challengeDigest'.result s.out.now loop'.out loop'.k (word'.result % c.from.result) (omega arith) loop'.invariant.1
          (ap₂ (λ (n m : ℕ). n % m) (word'.ensures ∙ ap (λ (n : ℕ). from_bytes (take 8 (drop n challengeDigest'.result))) (sym (zero-add (8 * loop'.k)))) c.from.ensures),
    )

pub returns : goal.returns
returns c =
    let loop' = c.loop-k in
    let s = c.args in
    loop'.invariant.1
    ∙ ap (λ (d : List ℕ). challenges_in d loop'.k ++ drop loop'.k s.out.now) c.challenge_digest-d.ensures
    ∙ challenges_all s.question.now s.out.now loop'.k (omega arith) c.requires.2
