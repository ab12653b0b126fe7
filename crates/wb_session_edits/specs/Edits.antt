-- A list of edits: lines, each ended by LF, with one space between words.
use Rattle.std.specs.Prelude.{◌≡◌, ℕ, List, [], ◌∷◌, ◌++◌}
use Rattle.wb_text_parts.specs.Faults.{IsFirstFault}
use Rattle.wb_text_parts.specs.Parts.{number_then, IsSmall}
use Rattle.wb_text_tokens.specs.Spelling.{IsString}
use Rattle.wb_session_edits.specs.declared.edit.Edit.{Edit}
use Rattle.wb_session_edits.specs.declared.refusal.EditsRefusal.{EditsRefusal}
use Rattle.wb_session_edits.specs.declared.refusal.EditsRefusal.TheVariants.{Syntax, NoMemory}

-- the line of an edit: `FROM TO STRING`, both numbers below 2^64 and without leading zeros
pub record IsLineOf (line : List ℕ) (edit : Edit) : Type 0 where
  pub from : IsSmall edit.from
  pub to : IsSmall edit.to
  pub spelling : List ℕ
  pub string : IsString spelling edit.bytes
  pub is : line ≡ number_then 32 edit.from ++ (number_then 32 edit.to ++ (spelling ++ 10 ∷ []))

-- the lines of these edits, one after another
pub data IsListOf : List ℕ → List Edit → Type 0 where
  none : {text : List ℕ} {edits : List Edit} → text ≡ [] → edits ≡ [] → IsListOf text edits
  next : {line rest text : List ℕ} {edit : Edit} {edits all : List Edit} → IsLineOf line edit → IsListOf rest edits → text ≡ line ++ rest
      → all ≡ edit ∷ edits → IsListOf text all

-- the text is a list of some edits
abbrev pub IsList : List ℕ → Type 0
IsList text = (edits : List Edit) × IsListOf text edits

-- where the text is refused for a fault, that is its first
abbrev pub IsRefused : List ℕ → EditsRefusal → Type 0
IsRefused text (Syntax at) = IsFirstFault IsList text at
IsRefused text (NoMemory error) = Unit {0}
