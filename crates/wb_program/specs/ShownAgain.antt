-- That a canonical text is read as the specification of which it is one, or is too long.
use Rattle.std.specs.Prelude.{◌≡◌, ℕ, List}
use Rattle.wb_syntax.specs.SpecText.{SpecView, HasText}
use Rattle.wb_syntax.specs.Offsets.{AreSameButPlaces}
use Rattle.wb_syntax.specs.Canonical.{IsCanonical}
use Rattle.wb_reader.specs.declared.refusal.SpecRefusal.{SpecRefusal}
use Rattle.wb_reader.specs.declared.refusal.SpecRefusal.TheVariants.{TooLong}
use Rattle.wb_reader.specs.Refusals.{HasCause, IsAcceptedText, IsShort}
use Rattle.wb_reader.specs.OneAnswer.{IsNoMemory}

-- where it isn't too long, the text is taken as the same specification but for places, and is the one canonical text of that; else it is
-- refused for its length alone
pub record IsTakenAgain (spec : SpecView) (text : List ℕ) : Type 0 where
  pub short : IsShort text → (other : SpecView) × IsAcceptedText text other × AreSameButPlaces other spec × IsCanonical other text ×
      ((bytes : List ℕ) → IsCanonical other bytes → bytes ≡ text)
  pub long : ¬ IsShort text → HasCause text TooLong ×
      ((refusal : SpecRefusal) → HasCause text refusal → ¬ IsNoMemory refusal → refusal ≡ TooLong)

-- the canonical text of a specification that some text of bytes is, is taken again or too long
abbrev pub IsStable : Type 0
IsStable = (spec : SpecView) (text : List ℕ) → HasText spec → IsCanonical spec text → IsTakenAgain spec text
