-- What the crates above may cite: a text has one outcome, and derivations are put together and taken apart.
use Rattle.std.proofs.Common.{◌≡◌, ℕ, List, Bool, true, ap, subst}
use Rattle.std.specs.Prelude.{◌↔◌}
use Rattle.wb_text_predictive.specs.declared.table.Placed.{Placed}
use Rattle.wb_text_predictive.specs.declared.table.Next.{Next}
use Rattle.wb_text_predictive.specs.declared.reading.Outcome.{Outcome}
use Rattle.wb_text_predictive.specs.declared.reading.Outcome.TheVariants.{Whole, Stopped}
use Rattle.wb_text_predictive.specs.Entries.{Entry, is_decided}
use Rattle.wb_text_predictive.specs.Kinds.{is_member}
use Rattle.wb_text_predictive.specs.Grammar.{Grammar, IsText}
use Rattle.wb_text_predictive.specs.Reading.{IsOutcome}
use Rattle.wb_text_predictive.proofs.Decides.{one_value, start_followed}
use Rattle.wb_text_predictive.proofs.Readings.{one_text, not_both, one_fault}
pub use Rattle.wb_text_predictive.proofs.Derivations.{derives_append, derives_split, Split}

module _ {K N A X V : Type 0} (same : K → K → Bool) (exact : (a b : K) → (same a b ≡ true) ↔ (a ≡ b))
    (end : K) (entries : N → Entry K) (g : Grammar K N A X V) (decided : (n : N) → is_decided same end entries g.rights n ≡ true)
    (ends : is_member same end (entries g.start).follow ≡ true) where
  -- the values of a text are the only ones
  pub one_text_value : (first : V) (tokens : List (Placed X)) (a b : V) → IsText g first tokens a → IsText g first tokens b → a ≡ b
  one_text_value first tokens a b d e = one_value same exact end entries g decided b (start_followed A same end entries g.start ends) d e

  -- a text has one outcome, where one thing is next after each place
  pub one_outcome : (IsNext : ℕ → Next X → Type 0) → ((from : ℕ) (a b : Next X) → IsNext from a → IsNext from b → a ≡ b)
      → (first : V) (o : Outcome V) → IsOutcome g IsNext first o → (p : Outcome V) → IsOutcome g IsNext first p → o ≡ p
  one_outcome IsNext one first (Whole a) r (Whole b) s =
      ap (λ v. Whole v) (one_text_value first r.tokens a b r.text
      (subst (λ w. IsText g first w b) (one_text g IsNext first one b a s r) s.text))
  one_outcome IsNext one first (Whole a) r (Stopped at) s = absurd (not_both g IsNext first one a at r s)
  one_outcome IsNext one first (Stopped at) r (Whole b) s = absurd (not_both g IsNext first one b at s r)
  one_outcome IsNext one first (Stopped at) r (Stopped place) s = ap (λ i. Stopped i) (one_fault g IsNext first one at place r s)
