-- Reading aids: what is left where a call is refused, and which verdicts there are.
use mathlib.Core.Path.{◌≡◌, refl, ap}
use mathlib.Core.Bool.{Bool, false, ◌&&◌}
use mathlib.Core.Logic.{◌≢◌}
use mathlib.Core.List.{List}
use Prim.Native.Nat.{ℕ, ◌<◌, ◌≤◌}
use native.Mathlib.Nat.{suc-ne-zero}
use native.Mathlib.Omega.{arith}
use lib.Dec.{eqb}
use borrow.Author.Tests.{ne_eqb, not-false}
use Rattle.lists.specs.Choice.{pick}
use Rattle.lists.specs.All.{All, all_append, all_right}
use Rattle.lists.specs.Bytes.{Bytes}
use Rattle.lists.specs.Tests.{Test, passed, verdict_within, verdict_other}
use Rattle.scheme.specs.Layers.{Lent}
use Rattle.scheme.specs.Commit.{last_digest}
use Rattle.scheme.specs.Check.{reply_tests}
use Rattle.scheme.proofs.Opening.{true_names}
use Rattle.fiat_shamir.specs.Offline.{offline_root, offline_salt, offline_tests, offline_verdict}
use Rattle.fiat_shamir.specs.Prove.{prove_tests, prove_verdict, proving, proving_c}
use Rattle.fiat_shamir.proofs.Drawn.{offline_numbers}
use Rattle.fiat_shamir.specs.CheckProof.{proof_tests, check_proof_verdict, checking_proof, checking_proof_c}

-- ---- a refusal leaves every lent slice, and a lent length, as it was; a length that is returned is 0

kept : {A : Type 0} (v : ℕ) (filled before : A) → v ≢ 0 → pick (eqb v 0) filled before ≡ before
kept v filled before n = ap (λ (t : Bool). pick t filled before) (ne_eqb v 0 n)

pub prove_refused : (question : Bytes) (κ limit : ℕ) (l : Lent) (table : List ℕ) (nodes buffer : Bytes) → (proving question κ limit l table nodes buffer).0 ≢ 0
    → ((proving question κ limit l table nodes buffer).1 ≡ 0) × ((proving question κ limit l table nodes buffer).2 ≡ buffer)
unfolding proving
prove_refused question κ limit l table nodes buffer n = (kept _ _ 0 n, kept _ _ buffer n)

pub prove_refused_c : (question : Bytes) (κ limit : ℕ) (l : Lent) (table : List ℕ) (nodes buffer : Bytes) (before : ℕ) → (proving_c question κ limit l table nodes buffer before).0 ≢ 0
    → ((proving_c question κ limit l table nodes buffer before).1 ≡ before) × ((proving_c question κ limit l table nodes buffer before).2 ≡ buffer)
unfolding proving_c
prove_refused_c question κ limit l table nodes buffer before n = (kept _ _ before n, (prove_refused question κ limit l table nodes buffer n).1)

pub check_proof_refused : (question : Bytes) (κ : ℕ) (proof : Bytes) (values : List ℕ) → (checking_proof question κ proof values).0 ≢ 0 → (checking_proof question κ proof values).1 ≡ values
unfolding checking_proof
check_proof_refused question κ proof values n = kept _ _ values n

pub check_proof_refused_c : (question : Bytes) (κ : ℕ) (proof values : Bytes) → (checking_proof_c question κ proof values).0 ≢ 0 → (checking_proof_c question κ proof values).1 ≡ values
unfolding checking_proof_c
check_proof_refused_c question κ proof values n = kept _ _ values n

-- ---- the prover answers only where the tree's root and the salt that it is lent are the question's

pub proved_names : (question : Bytes) (κ limit : ℕ) (l : Lent) (table : List ℕ) (nodes buffer : Bytes) → prove_verdict question κ limit l table nodes buffer ≡ 0
    → (last_digest nodes ≡ offline_root question) × (l.salt ≡ offline_salt question)
unfolding prove_verdict prove_tests
proved_names question κ limit l table nodes buffer e =
    let t = all_right (λ (t : Test). t.1 ≡ false) (offline_tests question κ) _
    (passed _ (all_append (λ (t : Test). 0 < t.0) (offline_tests question κ) _ (offline_numbers question κ) (omega arith)) e) in
    true_names (offline_root question) (offline_salt question) l nodes (not-false _ t.1.1.0)

-- ---- the greatest verdict

offline_within : (n : ℕ) → 6 ≤ n → (b : Bytes) (κ : ℕ) → All (λ (t : Test). t.0 ≤ n) (offline_tests b κ)
unfolding offline_tests
offline_within n l b κ = omega arith

pub offline_verdict_within : (b : Bytes) (κ : ℕ) → offline_verdict b κ ≤ 6
offline_verdict_within b κ = verdict_within 6 (offline_tests b κ) (offline_within 6 (omega arith) b κ)

pub prove_verdict_within : (question : Bytes) (κ limit : ℕ) (l : Lent) (table : List ℕ) (nodes buffer : Bytes) → prove_verdict question κ limit l table nodes buffer ≤ 11
unfolding prove_verdict prove_tests
prove_verdict_within question κ limit l table nodes buffer =
    verdict_within 11 (prove_tests question κ limit l table nodes buffer)
    (all_append (λ (t : Test). t.0 ≤ 11) (offline_tests question κ) _ (offline_within 11 (omega arith) question κ) (omega arith))

pub check_proof_verdict_within : (unit : ℕ) (question : Bytes) (κ : ℕ) (proof : Bytes) (n : ℕ) → check_proof_verdict unit question κ proof n ≤ 12
unfolding check_proof_verdict proof_tests reply_tests
check_proof_verdict_within unit question κ proof n =
    verdict_within 12 _ (all_append (λ (t : Test). t.0 ≤ 12) (offline_tests question κ) _ (offline_within 12 (omega arith) question κ) (omega arith))

-- ---- none is 4: leaves are not asked for

abbrev NotFour : Test → Type 0
NotFour t = eqb t.0 4 && t.1 ≡ false

offline_four : (b : Bytes) (κ : ℕ) → All NotFour (offline_tests b κ)
unfolding offline_tests
offline_four b κ = (refl, (refl, (refl, (refl, (refl, (refl, tt))))))

pub offline_verdict_not_4 : (b : Bytes) (κ : ℕ) → offline_verdict b κ ≢ 4
offline_verdict_not_4 b κ = verdict_other 4 (offline_tests b κ) (suc-ne-zero 3) (offline_four b κ)

pub prove_verdict_not_4 : (question : Bytes) (κ limit : ℕ) (l : Lent) (table : List ℕ) (nodes buffer : Bytes) → prove_verdict question κ limit l table nodes buffer ≢ 4
unfolding prove_verdict prove_tests
prove_verdict_not_4 question κ limit l table nodes buffer =
    verdict_other 4 (prove_tests question κ limit l table nodes buffer) (suc-ne-zero 3)
    (all_append NotFour (offline_tests question κ) _ (offline_four question κ) (refl, (refl, (refl, (refl, tt)))))

pub check_proof_verdict_not_4 : (unit : ℕ) (question : Bytes) (κ : ℕ) (proof : Bytes) (n : ℕ) → check_proof_verdict unit question κ proof n ≢ 4
unfolding check_proof_verdict proof_tests reply_tests
check_proof_verdict_not_4 unit question κ proof n =
    verdict_other 4 _ (suc-ne-zero 3)
    (all_append NotFour (offline_tests question κ) _ (offline_four question κ) (refl, (refl, (refl, (refl, (refl, (refl, (refl, (refl, tt)))))))))
