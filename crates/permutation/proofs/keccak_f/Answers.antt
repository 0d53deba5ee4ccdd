use mathlib.Core.Path.{◌≡◌, refl, sym, ap, ◌∙◌, subst}
use mathlib.Core.List.{List}
use Prim.Native.Nat.{ℕ, ◌+◌, ◌*◌}
use native.Mathlib.Numerals.{add-one}
use native.Mathlib.Omega.{arith}
use Rattle.keccak.specs.Keccak as K
use Rattle.keccak.specs.Held.{held, round_with}
use Rattle.keccak.specs.Parities.{with_parities, HasParities}
use Rattle.keccak.specs.State.{length-round}
use Rattle.keccak.proofs.Chi.{held_twice}
use Rattle.keccak.proofs.Carried.{held_with_parities, has_parities}
use Rattle.permutation.proofs.keccak_f.Invariants.{After}
use Rattle.permutation.proofs.keccak_f.Goals as goal

one-round : (s : List ℕ) (i : ℕ) → round_with s (K.constant i) ≡ K.round s i
unfolding K.round K.iota
one-round s i = refl

one_more : (i : ℕ) (a : List ℕ) → K.round (K.rounds i a) i ≡ K.rounds (i + 1) a
unfolding K.rounds
one_more i a = rw add-one

after : (a s w : List ℕ) (n : ℕ) → s ≡ with_parities w → held w ≡ K.rounds n a → After a n s
after a s w n e h = (subst (λ (x : List ℕ). HasParities x) (sym e) (has_parities w), ap held e ∙ held_with_parities w ∙ h)

-- a turn of the inner loop
turn : (a s t : List ℕ) (k n : ℕ) → held s ≡ K.rounds n a → k ≡ K.constant n → t ≡ with_parities (held (round_with (held s) k)) → After a (n + 1) t
turn a s t k n e h step =
    after a t (held (round_with (held s) k)) (n + 1) step
    (held_twice (round_with (held s) k) (length-round (held s) k)
    ∙ ap (round_with (held s)) h
    ∙ one-round (held s) n
    ∙ ap (λ (x : List ℕ). K.round x n) e
    ∙ one_more n a)

pub loop-i-init : goal.loop-i-init
unfolding K.rounds
loop-i-init c =
    let six = c.complement_six in
    let a = c.args.a.now in
    (omega arith, after a c.with_parities-s.result six.result 0 c.with_parities-s.ensures (ap held six.ensures ∙ held_twice a c.requires))

pub loop-j-init : goal.loop-j-init
loop-j-init c =
    let l = c.loop-i in
    let a = c.args.a.now in
    let same : 2 * l.i ≡ 2 * l.i + 0 = omega arith in
    (omega arith, omega arith, subst (λ (n : ℕ). After a n l.s) same l.invariant.1)

pub overflow_mul-i : goal.overflow_mul-i
overflow_mul-i c = omega arith

pub overflow_add-i : goal.overflow_add-i
overflow_add-i c = omega arith

pub round_constant-requires : goal.round_constant-requires
round_constant-requires c = omega arith

pub round-t-requires : goal.round-t-requires
round-t-requires c = c.loop-j.invariant.2.0

pub overflow_step-j : goal.overflow_step-j
overflow_step-j c = omega arith

pub loop-j-smaller : goal.loop-j-smaller
loop-j-smaller c = omega arith

pub loop-j-preserved : goal.loop-j-preserved
loop-j-preserved c =
    let l = c.loop-j in
    let i = c.loop-i.i in
    let a = c.args.a.now in
    let k = c.round_constant in
    let next : 2 * i + l.j + 1 ≡ 2 * i + (l.j + 1) = omega arith in (
      omega arith,
      omega arith,
      subst (λ (n : ℕ). After a n c.round-t.result) next
          (turn a l.s c.round-t.result k.result (2 * i + l.j) l.invariant.2.1 k.ensures c.round-t.ensures),
    )

pub overflow_step-i : goal.overflow_step-i
overflow_step-i c = omega arith

pub loop-i-smaller : goal.loop-i-smaller
loop-i-smaller c = omega arith

pub loop-i-preserved : goal.loop-i-preserved
loop-i-preserved c =
    let l = c.loop-j in
    let i = c.loop-i.i in
    let a = c.args.a.now in
    let next : 2 * i + l.j ≡ 2 * (i + 1) = omega arith in
    (omega arith, subst (λ (n : ℕ). After a n l.s) next l.invariant.2)

pub returns : goal.returns
unfolding K.keccak_f
returns c =
    let l = c.loop-i in
    let a = c.args.a.now in
    let all : 2 * l.i ≡ 24 = omega arith in
    c.complement_six-t.ensures ∙ ap held c.lanes.ensures ∙ l.invariant.1.1 ∙ ap (λ (n : ℕ). K.rounds n a) all
