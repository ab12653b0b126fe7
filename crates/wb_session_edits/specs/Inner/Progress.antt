-- How far a list of edits has been read.
use Rattle.std.specs.Prelude.{◌≡◌, ℕ, List, ◌∷◌, [], ◌++◌}
use Rattle.wb_text_parts.specs.Faults.{IsFaultAt}
use Rattle.wb_text_parts.specs.Parts.{number_then, Both, Exactly, IsSmall, IsStop}
use Rattle.wb_session_edits.specs.Edits.{IsLineOf, IsList, IsListOf}
use Rattle.wb_session_edits.specs.Inner.Strings.{Strings}
use Rattle.wb_session_edits.specs.declared.edit.Edit.{Edit}
use Rattle.wb_session_edits.specs.declared.line.Halt.{Halt}
use Rattle.wb_session_edits.specs.declared.line.Halt.TheVariants.{At, NoMemory}

-- two places, each with a space after it
abbrev pub places_text : ℕ × ℕ → List ℕ
places_text places = number_then 32 places.0 ++ number_then 32 places.1

-- both are below 2^64
abbrev pub ArePlacesSmall : ℕ × ℕ → Type 0
ArePlacesSmall places = IsSmall places.0 × IsSmall places.1

-- a string with the end of the line
abbrev pub Endings : List ℕ → Type 0
Endings = Both Strings (Exactly (10 ∷ []))

-- the lines of edits
abbrev pub Lines : List ℕ → Type 0
Lines l = (edit : Edit) × IsLineOf l edit

-- the text begins with the line of this edit
abbrev pub BeginsLine : List ℕ → Edit → List ℕ → Type 0
BeginsLine text edit after = (line : List ℕ) × IsLineOf line edit × (text ≡ line ++ after)

-- a reading that halts at a place is where no text of the set goes on
abbrev pub HaltsIn : (List ℕ → Type 0) → List ℕ → Halt → Type 0
HaltsIn Set text (At rest) = IsStop Set text rest.now
HaltsIn Set text (NoMemory error) = Unit {0}

-- all but the rest of the text has been read, which is a list of these edits
abbrev pub HasRead : List ℕ → List ℕ → List Edit → Type 0
HasRead text rest edits = (front : List ℕ) × IsListOf front edits × (text ≡ front ++ rest)

-- a reading that halts at a place is at the first fault
abbrev pub IsHalt : List ℕ → Halt → Type 0
IsHalt text (At rest) = IsFaultAt IsList text rest.now
IsHalt text (NoMemory error) = Unit {0}
