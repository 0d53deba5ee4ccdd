-- The two demands together: where the collection's calls carry the opener's replies, the rows that demand 3 finds are the committed ones.
use mathlib.Core.Path.{◌≡◌, sym, ap, ◌∙◌, subst}
use mathlib.Core.List.{List, Memᴰ as Mem}
use Prim.Native.Nat.{ℕ}
use Rattle.lists.specs.Bytes.{Bytes}
use Rattle.algebra.specs.Numbers.{values_at_n, Polys}
use Rattle.scheme.specs.Sizes.{Sizes}
use Rattle.scheme.specs.Layers.{Lent, row_polynomials}
use Rattle.scheme.specs.Question.{header_sizes}
use Rattle.scheme.specs.Reply.{read_reply, row_values}
use Rattle.scheme.specs.Commit.{table_of, tree_of, last_digest}
use Rattle.scheme.specs.Open.{reply_of}
use Rattle.scheme.specs.Check.{record_at}
use Rattle.scheme.specs.Collect.{Call, Answered, asked, given, Collected, Opens, NoCollision, Covered, TakesOpened}
use Rattle.scheme.specs.Honest.{WellLent, Names}
use Rattle.scheme.proofs.Accepted.{degree-suc}
use Rattle.scheme.proofs.Lent.{LentFacts, lent_facts}
use Rattle.scheme.proofs.HonestAnswers.{P_count, P_polys}
use Rattle.scheme.proofs.Complete.{reply_is, rows_are}
use Rattle.scheme.proofs.Replies.{collected_replies}

-- a call whose question names the commitment and whose reply is the opener's
pub record Honest (s : Sizes) (l : Lent) (c : Call) : Type 0 where
  pub names : Names s l c.question
  pub reply_made : c.reply ≡ reply_of (asked c) l (table_of s l) (tree_of s l)

-- what such a call opens
opened_rows : (s : Sizes) (l : Lent) (c : Call) → WellLent s l → Honest s l c → (i a : ℕ) → Opens c i a → row_values s (record_at (given c) a) ≡ values_at_n (row_polynomials s l) i
opened_rows s l c right h =
    subst (λ (t : Sizes). WellLent t l → (asked c).root ≡ last_digest (tree_of t l) → c.reply ≡ reply_of (asked c) l (table_of t l) (tree_of t l)
    → (i a : ℕ) → Opens c i a → row_values t (record_at (given c) a) ≡ values_at_n (row_polynomials t l) i) h.names.sizes
    (λ rt nm mk i a o.
    ap (λ (x : Bytes). row_values (asked c).sizes (record_at (read_reply (asked c) x) a)) (mk ∙ sym (reply_is c.question l h.names.well_formed rt nm h.names.salt))
    ∙ rows_are c.question l h.names.well_formed rt nm h.names.salt a o.place
    ∙ ap (values_at_n (row_polynomials (asked c).sizes l)) o.leaf)
    right h.names.root h.reply_made

honest_rows : (calls : List Call) (header root salt : Bytes) (l : Lent) → WellLent (header_sizes header) l → ((c : Call) → Collected calls header root salt c → Honest (header_sizes header) l c)
    → (L : List ℕ) → TakesOpened calls header root salt L (row_polynomials (header_sizes header) l)
honest_rows calls header root salt l right h L =
    let s : Sizes = header_sizes header in
    let r : LentFacts s l = lent_facts s l right in
    record {
      count = P_count s l r;
      polynomials = subst (λ (n : ℕ). Polys n (row_polynomials s l)) (sym (degree-suc s r.sizes)) (P_polys s l r);
      takes = λ c k i a o m. sym (opened_rows s l c right (h c k) i a o);
    }

pub extracted_committed : (calls : List Call) (header root salt : Bytes) (l : Lent) → WellLent (header_sizes header) l → ((c : Call) → Collected calls header root salt c → Honest (header_sizes header) l c)
    → (ans : (c : Call) → Mem c calls → Answered c) (nc : NoCollision calls header root salt) (L : List ℕ) (k : ℕ) (γs : List ℕ) (Rs : List (List ℕ)) (cov : Covered calls header root salt L k γs Rs)
    → row_polynomials (header_sizes header) l ≡ (collected_replies calls header root salt ans nc L k γs Rs cov).extracted
extracted_committed calls header root salt l right h ans nc L k γs Rs cov =
    (collected_replies calls header root salt ans nc L k γs Rs cov).only_one (row_polynomials (header_sizes header) l) (honest_rows calls header root salt l right h L)
