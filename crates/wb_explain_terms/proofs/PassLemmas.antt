-- Bytes that are a term, or refused elsewhere, aren't refused at this place.
use Rattle.std.proofs.Common.{◌≡◌, ◌+◌, ℕ, List, Bool, true, false, Result, Ok, Err, IfOk, IfSome, MatchBool, length, subst}
use Rattle.wb_values.specs.Signature.{Signature}
use Rattle.wb_values.specs.Tree.{Tree}
use Rattle.wb_terms.specs.TermText.{IsFirstFault}
use Rattle.wb_terms.specs.TermAnswer.{Answer, stands, bad, unknown, wrong, IsAnswer, answer_of}
use Rattle.wb_terms.specs.declared.refusal.TermRefusal.{TermRefusal}
use Rattle.wb_terms.specs.declared.refusal.TermRefusal.TheVariants.{Bad, Unknown, WrongChild, NoMemory}
use Rattle.wb_explain_terms.specs.Expected.{CannotCome, with_token}
use Rattle.wb_explain_terms.specs.Inner.Places.{IsElsewhere}

-- bytes that are a term
pub stands_passes : (signatures : List Signature) (text : List ℕ) (at : ℕ) (tree : Tree)
    → ((answer : Answer) → IsAnswer signatures text answer → answer ≡ stands tree) → ¬ IsFirstFault text at
stands_passes signatures text at tree only = λ fault. let e : bad at ≡ stands tree = only (bad at) fault in absurd (cc)

-- bytes that are refused elsewhere
elsewhere_passes : (signatures : List Signature) (text : List ℕ) (refusal : TermRefusal) (at : ℕ)
    → ((answer : Answer) → IsAnswer signatures text answer → IfSome (answer_of refusal) (λ given. answer ≡ given))
    → IsElsewhere at refusal → ¬ IsFirstFault text at
elsewhere_passes signatures text (Bad place) at only other = λ fault.
    let e : bad at ≡ bad place = only (bad at) fault in
    other (cc)
elsewhere_passes signatures text (Unknown place) at only other = λ fault.
    let e : bad at ≡ unknown place = only (bad at) fault in
    absurd (cc)
elsewhere_passes signatures text (WrongChild place) at only other = λ fault.
    let e : bad at ≡ wrong place = only (bad at) fault in
    absurd (cc)
elsewhere_passes signatures text (NoMemory error) at only other = absurd other

-- so bytes that are refused are told apart by their refusal
pub passed : {E : Type 0} (signatures : List Signature) (text : List ℕ) (refusal : TermRefusal) (at : ℕ) (r : Result Bool E)
    → IfSome (answer_of refusal) (IsAnswer signatures text)
    → ((answer : Answer) → IsAnswer signatures text answer → IfSome (answer_of refusal) (λ given. answer ≡ given))
    → IfOk r (λ is. MatchBool is (IsElsewhere at refusal) (refusal ≡ Bad at))
    → IfOk r (λ is. MatchBool is (¬ IsFirstFault text at) (IsFirstFault text at))
passed signatures text refusal at (Ok true) cause only other = elsewhere_passes signatures text refusal at only other
passed signatures text refusal at (Ok false) cause only here =
    subst (λ (z : TermRefusal). IfSome (answer_of z) (IsAnswer signatures text)) here cause
passed signatures text refusal at (Err error) cause only on = tt

-- and of bytes with a token after them that is whether the token can come
pub comes : {E : Type 0} (text before token : List ℕ) (at : ℕ) (r : Result Bool E) → text ≡ with_token before token → at ≡ length before + 1
    → IfOk r (λ is. MatchBool is (¬ IsFirstFault text at) (IsFirstFault text at))
    → IfOk r (λ can. MatchBool can (¬ CannotCome before token) (CannotCome before token))
comes text before token at r same place given =
    subst (λ (t : List ℕ). IfOk r (λ is. MatchBool is (¬ IsFirstFault t (length before + 1)) (IsFirstFault t (length before + 1)))) same
    (subst (λ (n : ℕ). IfOk r (λ is. MatchBool is (¬ IsFirstFault text n) (IsFirstFault text n))) place given)
