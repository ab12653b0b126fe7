-- How far a list of edits has been done, and where it halts.
use Rattle.std.specs.Prelude.{◌≡◌, ◌<◌, ℕ, suc, List, Some, length, slice_get, take}
use Rattle.wb_scan_theory.specs.Languages.{LanguageView}
use Rattle.wb_session_edits.specs.declared.edit.Edit.{Edit}
use Rattle.wb_values.specs.Signature.{Signature}
use Rattle.wb_compose_texts.specs.EditAnswers.{IsLineOf}
use Rattle.wb_compose_texts.specs.Edited.{after, IsDone, IsFirstRefused, IsOutOfRange, IsTooLong}
use Rattle.wb_compose_texts.specs.Inner.Gathered.{AreGathered}
use Rattle.wb_compose_texts.specs.declared.edits_answer.EditsAnswer.{EditsAnswer}
use Rattle.wb_compose_texts.specs.declared.edits_answer.EditsAnswer.TheVariants as a
use Rattle.wb_compose_texts.specs.declared.halt.Halt.{Halt}
use Rattle.wb_compose_texts.specs.declared.halt.Halt.TheVariants as h
use Rattle.wb_compose_texts.specs.declared.lines.Lines.{Lines}

-- the edits before the place are done, and make this text, which the edit at the place meets
pub record IsBefore (text : List ℕ) (edits : List Edit) (place : ℕ) (edit : Edit) (now : List ℕ) : Type 0 where
  pub is : slice_get edits place ≡ Some edit
  pub done : (j : ℕ) → j < place → IsDone text edits j
  pub made : now ≡ after text (take place edits)

-- so many edits are done, and the lines of all texts on the way are gathered
pub record HasCome (names : List (List ℕ)) (signatures : List Signature) (l : LanguageView) (text : List ℕ) (edits : List Edit)
    (count : ℕ) (now : List ℕ) (made : Lines) : Type 0 where
  pub done : (j : ℕ) → j < count → IsDone text edits j
  pub is : now ≡ after text (take count edits)
  pub lines : List (List ℕ)
  pub many : length lines ≡ suc count
  pub each : (i : ℕ) (line : List ℕ) → slice_get lines i ≡ Some line → IsLineOf names signatures l (after text (take i edits)) line
  pub gathered : AreGathered made lines

-- the edits halt at the first that isn't done
abbrev pub HaltsAt : List ℕ → List Edit → Halt → Type 0
HaltsAt text edits (h.OutOfRange number) = IsFirstRefused text edits IsOutOfRange number
HaltsAt text edits (h.TooLong number) = IsFirstRefused text edits IsTooLong number
HaltsAt text edits (h.NoMemory error) = Unit {0}

-- the answer says where they halt
abbrev pub IsHalted : Halt → EditsAnswer → Type 0
IsHalted (h.OutOfRange number) answer = answer ≡ a.OutOfRange number
IsHalted (h.TooLong number) answer = answer ≡ a.TextTooLong number
IsHalted (h.NoMemory error) answer = ⊥
