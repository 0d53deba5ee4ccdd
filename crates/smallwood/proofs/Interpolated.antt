-- A call of `smallwood_interpolate`, described by nothing but its contract: what it leaves with 0 is the one polynomial, and with a refusal what it was lent.
use mathlib.Core.Path.{◌≡◌, sym, ap, ◌∙◌, subst}
use mathlib.Core.Logic.{◌≢◌}
use mathlib.Core.List.{List}
use Prim.Native.Nat.{ℕ}
use contract.Lifetimes.{Lfts}
use denote.Triple.Clauses.{AtExit}
use borrow.Fn.Kinds.{Dens, res_t, ended_of}
use Rattle.scheme.specs.Interpolate.{interpolating, OnePolynomial}
use Rattle.scheme.proofs.Interpolation.{interpolated}
use Rattle.scheme.proofs.Reading.{interpolate_refused}
use Rattle.smallwood.proofs.smallwood_interpolate.Kinds as kinds
use Rattle.smallwood.proofs.smallwood_interpolate.Reads as reads

module _ (κs : Lfts 3) (a : Dens κs kinds.ps) (r : (res_t kinds.r κs).Denot) (e : AtExit (ended_of 3 kinds.ps kinds.r) κs) (learnt : reads.Learnt κs a r e) where
  abbrev points : List ℕ
  points = a.0.now

  abbrev values : List ℕ
  values = a.1.0.now

  -- the slice before and after
  abbrev before : List ℕ
  before = a.1.1.0.now

  abbrev coefficients : List ℕ
  coefficients = e.1.1.0.now

  pub interpolated_c : r ≡ 0 → OnePolynomial points values coefficients
  interpolated_c z =
      subst (λ (p : List ℕ). OnePolynomial points values p) (sym (ap (λ (t : ℕ × List ℕ). t.1) learnt))
      (interpolated points values before (sym (ap (λ (t : ℕ × List ℕ). t.0) learnt) ∙ z))

  pub interpolate_refused_c : r ≢ 0 → coefficients ≡ before
  interpolate_refused_c n =
      ap (λ (t : ℕ × List ℕ). t.1) learnt
      ∙ interpolate_refused points values before (λ (z : (interpolating points values before).0 ≡ 0). n (ap (λ (t : ℕ × List ℕ). t.0) learnt ∙ z))
