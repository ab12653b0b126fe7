-- Lines that are gathered, unless they are too long together.
use Rattle.std.specs.Prelude.{◌≡◌, ◌<◌, ◌≤◌, ◌++◌, ◌∷◌, [], ℕ, List, MatchBool, length}
use Rattle.wb_scan_theory.specs.Languages.{LanguageView}
use Rattle.wb_values.specs.Signature.{Signature}
use Rattle.wb_compose_texts.specs.EditAnswers.{joined, IsLineOf}
use Rattle.wb_compose_texts.specs.declared.edits_answer.EditsAnswer.{EditsAnswer}
use Rattle.wb_compose_texts.specs.declared.edits_answer.EditsAnswer.TheVariants.{Lines as Shown, OutOfRange, TextTooLong, TooLong}
use Rattle.wb_compose_texts.specs.declared.lines.Lines.{Lines}

-- the lines are these, or these are too long
abbrev pub AreGathered : Lines → List (List ℕ) → Type 0
AreGathered made lines =
    MatchBool made.are_long (16777216 < length (joined lines))
    ((made.bytes.items ≡ joined lines) × (length (joined lines) ≤ 16777216))

-- these lines are printed so, or are too long
abbrev pub IsShown : List (List ℕ) → EditsAnswer → Type 0
IsShown lines (Shown bytes) = (bytes ≡ joined lines) × (length (joined lines) ≤ 16777216)
IsShown lines TooLong = 16777216 < length (joined lines)
IsShown lines (OutOfRange number) = ⊥
IsShown lines (TextTooLong number) = ⊥

-- after these lines, that of the text is gathered too
pub record HasOneMore (names : List (List ℕ)) (signatures : List Signature) (l : LanguageView) (text : List ℕ)
    (before : List (List ℕ)) (made : Lines) : Type 0 where
  pub line : List ℕ
  pub is : IsLineOf names signatures l text line
  pub gathered : AreGathered made (before ++ line ∷ [])
