-- The first edit that isn't done: what comes of it, and that there is one at most.
use Rattle.std.proofs.Common.{◌≡◌, ◌∙◌, ℕ, suc, List, Some, take, slice_get, inl, inr, sym, ap, subst, arith}
use Rattle.std.proofs.lemmas.Bool.{cases_order}
use Rattle.wb_lemmas.proofs.Places.{at_once}
use Rattle.wb_session.specs.Sessions.{IsShort}
use Rattle.wb_session_edits.specs.declared.edit.Edit.{Edit}
use Rattle.wb_session.specs.Edits.{edited}
use Rattle.wb_compose_texts.specs.Edited.{after, IsDone, IsFirstRefused, IsOutOfRange, IsTooLong}

module _ (text : List ℕ) (edits : List Edit) where
  -- an edit that is refused is not done
  pub out_fails : (m : ℕ) (r : IsFirstRefused text edits IsOutOfRange m) → ¬ IsDone text edits r.place
  out_fails m r done = r.why (done r.edit r.is).fits

  pub long_fails : (m : ℕ) (r : IsFirstRefused text edits IsTooLong m) → ¬ IsDone text edits r.place
  long_fails m r done =
      let makes = done r.edit r.is in
      let short : IsShort (edited (after text (take r.place edits)) r.edit.from r.edit.to r.edit.bytes) =
      subst IsShort makes.is makes.short in
      let long = r.why.1 in
      omega (arith, short, long)

  -- so two first ones are one
  pub one_place : (V W : List ℕ → Edit → Type 0) (m n : ℕ) (r : IsFirstRefused text edits V m) (s : IsFirstRefused text edits W n) →
      ¬ IsDone text edits r.place → ¬ IsDone text edits s.place → r.place ≡ s.place
  one_place V W m n r s fails also = elim (cases_order r.place s.place) [
    | inl same ↦ same
    | inr (inl earlier) ↦ absurd (fails (s.before r.place earlier))
    | inr (inr later) ↦ absurd (also (r.before s.place later))
  ]

  pub one_number : (V W : List ℕ → Edit → Type 0) (m n : ℕ) (r : IsFirstRefused text edits V m) (s : IsFirstRefused text edits W n) →
      ¬ IsDone text edits r.place → ¬ IsDone text edits s.place → m ≡ n
  one_number V W m n r s fails also = r.counted ∙ (ap suc (one_place V W m n r s fails also) ∙ sym s.counted)

  -- an edit that is out of range fits no text that it meets
  pub not_both : (m n : ℕ) → IsFirstRefused text edits IsOutOfRange m → IsFirstRefused text edits IsTooLong n → ⊥
  not_both m n r s =
      let place = one_place IsOutOfRange IsTooLong m n r s (out_fails m r) (long_fails n s) in
      let there : slice_get edits s.place ≡ Some r.edit = subst (λ z. slice_get edits z ≡ Some r.edit) place r.is in
      let edit : r.edit ≡ s.edit = at_once edits s.place r.edit s.edit there s.is in
      let why : IsOutOfRange (after text (take s.place edits)) s.edit =
      subst (λ z. IsOutOfRange (after text (take z edits)) s.edit) place
      (subst (λ e. IsOutOfRange (after text (take r.place edits)) e) edit r.why) in
      why s.why.0
