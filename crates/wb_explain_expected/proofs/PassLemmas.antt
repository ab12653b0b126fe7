-- Bytes that are taken, or refused elsewhere, aren't refused at this place.
use Rattle.std.proofs.Common.{◌≡◌, ◌+◌, ℕ, List, Bool, true, false, Result, Ok, Err, IfOk, MatchBool, length, subst}
use Rattle.wb_reader.specs.Refusals.{HasCause, IsAcceptedText}
use Rattle.wb_reader.specs.declared.refusal.SpecRefusal.{SpecRefusal}
use Rattle.wb_reader.specs.declared.refusal.SpecRefusal.TheVariants.{TooLong, WrongFormat, Syntax, BadRegex, MatchesEmpty, NoMemory}
use Rattle.wb_reader.proofs.Excluding.{none_refused, one_refusal}
use Rattle.wb_syntax.specs.SpecText.{SpecView}
use Rattle.wb_explain_expected.specs.Expected.{CannotCome, with_token}
use Rattle.wb_explain_expected.specs.Inner.Places.{IsElsewhere}

-- bytes that are taken
pub taken_passes : (text : List ℕ) (spec : SpecView) (at : ℕ) → IsAcceptedText text spec → ¬ HasCause text (Syntax at)
taken_passes text spec at taken = λ cause. none_refused text spec (Syntax at) taken cause

-- bytes that are refused elsewhere
pub elsewhere_passes : (text : List ℕ) (refusal : SpecRefusal) (at : ℕ) → HasCause text refusal → IsElsewhere at refusal
    → ¬ HasCause text (Syntax at)
elsewhere_passes text (Syntax place) at cause other = λ here.
    let same : Syntax place ≡ Syntax at = one_refusal text (Syntax place) (Syntax at) cause here (λ on. on) (λ on. on) in
    other (cc)
elsewhere_passes text (NoMemory error) at cause other = absurd other
elsewhere_passes text TooLong at cause other = λ here.
    let same : TooLong ≡ Syntax at = one_refusal text TooLong (Syntax at) cause here (λ on. on) (λ on. on) in
    absurd (cc)
elsewhere_passes text WrongFormat at cause other = λ here.
    let same : WrongFormat ≡ Syntax at = one_refusal text WrongFormat (Syntax at) cause here (λ on. on) (λ on. on) in
    absurd (cc)
elsewhere_passes text (BadRegex place) at cause other = λ here.
    let same : BadRegex place ≡ Syntax at = one_refusal text (BadRegex place) (Syntax at) cause here (λ on. on) (λ on. on) in
    absurd (cc)
elsewhere_passes text (MatchesEmpty name) at cause other = λ here.
    let same : MatchesEmpty name ≡ Syntax at = one_refusal text (MatchesEmpty name) (Syntax at) cause here (λ on. on) (λ on. on) in
    absurd (cc)

-- so bytes that are refused are told apart by their refusal
pub passed : {E : Type 0} (text : List ℕ) (refusal : SpecRefusal) (at : ℕ) (r : Result Bool E) → HasCause text refusal
    → IfOk r (λ is. MatchBool is (IsElsewhere at refusal) (refusal ≡ Syntax at))
    → IfOk r (λ is. MatchBool is (¬ HasCause text (Syntax at)) (HasCause text (Syntax at)))
passed text refusal at (Ok true) cause other = elsewhere_passes text refusal at cause other
passed text refusal at (Ok false) cause here = subst (HasCause text) here cause
passed text refusal at (Err error) cause on = tt

-- and of bytes with a token after them that is whether the token can come
pub comes : {E : Type 0} (text before token : List ℕ) (at : ℕ) (r : Result Bool E) → text ≡ with_token before token → at ≡ length before + 1
    → IfOk r (λ is. MatchBool is (¬ HasCause text (Syntax at)) (HasCause text (Syntax at)))
    → IfOk r (λ can. MatchBool can (¬ CannotCome before token) (CannotCome before token))
comes text before token at r same place given =
    subst (λ (t : List ℕ). IfOk r (λ is. MatchBool is (¬ HasCause t (Syntax (length before + 1))) (HasCause t (Syntax (length before + 1))))) same
    (subst (λ (n : ℕ). IfOk r (λ is. MatchBool is (¬ HasCause text (Syntax n)) (HasCause text (Syntax n)))) place given)
