-- What an answer says of a proof's question.
use borrow.Author.Tests.{le-ltb}
use mathlib.Core.Path.{◌≡◌, sym, ap, ◌∙◌, subst}
use mathlib.Core.Bool.{true}
use Prim.Native.Nat.{ℕ, ◌≤◌}
use native.Mathlib.Omega.{arith}
use lib.ListN.{length}
use Rattle.lists.specs.Bytes.{Bytes}
use Rattle.lists.specs.Tests.{passed, pass, within_low, within_high}
use Rattle.scheme.specs.Sizes.{Sizes, SizesInOrder, sizes_ok, points_ok, most_points}
use Rattle.scheme.proofs.Accepted.{sizes_in_order}
use Rattle.fiat_shamir.specs.Offline.{offline_length, offline_tests, offline_verdict, most_bits}
use Rattle.fiat_shamir.proofs.Drawn.{AskedOffline, asked_offline_lem, offline_numbers}
use Rattle.commitment.specs.Shape.{sizes_in}
use Rattle.commitment.specs.declared.Shape.{Shape}
use Rattle.offline_question.specs.Asked.{AsksOffline}
use Rattle.offline_question.specs.Offline.{Offline}

-- without κ the question is well formed, too
no_bits : (b : Bytes) (κ : ℕ) → offline_verdict b κ ≡ 0 → offline_verdict b 0 ≡ 0
unfolding offline_tests
no_bits b κ e =
    let t = passed (offline_tests b κ) (offline_numbers b κ) e in
    pass (offline_tests b 0) (t.0, (t.1.0, (t.1.1.0, (le-ltb most_bits 0 (omega arith), (t.1.1.1.1.0, (t.1.1.1.1.1.0, tt))))))

-- a question that is taken
pub offline_taken : (b : Bytes) (κ : ℕ) (s : Shape) (m : ℕ) → AsksOffline b κ s m → (κ ≤ most_bits) × Offline b (sizes_in s) m
offline_taken b κ s m a =
    ((asked_offline_lem b κ a.verdict).κ-high, record { well_formed = no_bits b κ a.verdict; sizes = sym (ap sizes_in a.shape); points = sym a.points })

-- what is known of one
pub record Facts (b : Bytes) (s : Sizes) (m : ℕ) : Type 0 where
  pub asked : AskedOffline b 0
  pub in_order : SizesInOrder s
  pub some_points : 1 ≤ m
  pub few_points : m ≤ most_points
  pub long : length b ≡ offline_length m

pub offline_facts : (b : Bytes) (s : Sizes) (m : ℕ) → Offline b s m → Facts b s m
offline_facts b s m o =
    let a : AskedOffline b 0 = asked_offline_lem b 0 o.well_formed in
    let right : points_ok m ≡ true = subst (λ (n : ℕ). points_ok n ≡ true) o.points a.m_right in
    record {
      asked = a;
      in_order = sizes_in_order s (subst (λ (t : Sizes). sizes_ok t ≡ true) o.sizes a.sizes_right);
      some_points = within_low 1 8 m right;
      few_points = within_high 1 8 m right;
      long = a.long ∙ ap offline_length o.points;
    }

pub query_facts : (b : Bytes) (κ : ℕ) (s : Shape) (m : ℕ) → AsksOffline b κ s m → Facts b (sizes_in s) m
query_facts b κ s m a = offline_facts b (sizes_in s) m (offline_taken b κ s m a).1
