-- The lines of a text and of what becomes of it by each of its edits, in the language of a host with extensions.
use Rattle.std.specs.Prelude.{◌≡◌, ◌<◌, ◌≤◌, ◌⊎◌, ℕ, suc, List, Some, length, slice_get, take}
use Rattle.std.specs.List.{flat_map}
use Rattle.wb_compose_texts.specs.Answers.{HasPrintedTree, StopsShown}
use Rattle.wb_compose_texts.specs.Names.{terminals_of}
use Rattle.wb_compose_texts.specs.Signatures.{signatures_of}
use Rattle.wb_compose_texts.specs.Unions.{IsLanguageOf, Union}
use Rattle.wb_operations.specs.Operations.{OperationSignature}
use Rattle.wb_report.specs.Lines.{report_of}
use Rattle.wb_report.specs.declared.done.Done.TheVariants as done
use Rattle.wb_report.specs.declared.outcome.Outcome.TheVariants as o
use Rattle.wb_report.specs.declared.shown.ShownStop.{ShownStop}
use Rattle.wb_scan_theory.specs.Languages.{LanguageView}
use Rattle.wb_session_edits.specs.declared.edit.Edit.{Edit}
use Rattle.wb_syntax_resolved.specs.declared.resolved.ResolvedParts.{ResolvedParts}
use Rattle.wb_values.specs.Signature.{Signature}
use Rattle.wb_compose_texts.specs.Edited.{after, AreDone, IsFirstRefused, IsOutOfRange, IsTooLong}
use Rattle.wb_compose_texts.specs.declared.edits_answer.EditsAnswer.{EditsAnswer}
use Rattle.wb_compose_texts.specs.declared.edits_answer.EditsAnswer.TheVariants as a

-- all lines, one after another
abbrev pub joined : List (List ℕ) → List ℕ
joined lines = flat_map (λ (line : List ℕ). line) lines

-- in a language whose terminals have these names, and whose productions these signatures
module _ (names : List (List ℕ)) (signatures : List Signature) (l : LanguageView) where
  -- the line says what the text is: its printed tree, or where it stops
  abbrev pub IsLineOf : List ℕ → List ℕ → Type 0
  IsLineOf text line =
      ((printed : List ℕ) × HasPrintedTree names signatures l text printed × (line ≡ report_of (o.Done (done.Tree printed))))
      ⊎ ((place : ℕ) × (shown : ShownStop) × StopsShown names signatures l text place shown × (line ≡ report_of (o.Stopped place shown)))

  -- the lines are those of the text and of the texts after each of the edits: for each prefix of the list, that of the text after it
  pub record AreLinesOf (text : List ℕ) (edits : List Edit) (lines : List (List ℕ)) : Type 0 where
    pub many : length lines ≡ suc (length edits)
    pub each : (i : ℕ) (line : List ℕ) → slice_get lines i ≡ Some line → IsLineOf (after text (take i edits)) line

  -- all edits are done, and these bytes are the lines, which aren't too long to print
  pub record HasShortLines (text : List ℕ) (edits : List Edit) (bytes : List ℕ) : Type 0 where
    pub done : AreDone text edits
    pub lines : List (List ℕ)
    pub are : AreLinesOf text edits lines
    pub is : bytes ≡ joined lines
    pub short : length bytes ≤ 16777216

  -- all edits are done, and the lines are too long to print
  pub record HasLongLines (text : List ℕ) (edits : List Edit) : Type 0 where
    pub done : AreDone text edits
    pub lines : List (List ℕ)
    pub are : AreLinesOf text edits lines
    pub long : 16777216 < length (joined lines)

  -- the answer is that of the text with the edits
  abbrev pub IsEditsAnswerIn : List ℕ → List Edit → EditsAnswer → Type 0
  IsEditsAnswerIn text edits (a.Lines bytes) = HasShortLines text edits bytes
  IsEditsAnswerIn text edits a.TooLong = HasLongLines text edits
  IsEditsAnswerIn text edits (a.OutOfRange number) = IsFirstRefused text edits IsOutOfRange number
  IsEditsAnswerIn text edits (a.TextTooLong number) = IsFirstRefused text edits IsTooLong number

-- the host has with the extensions a language, in which the answer is that of the text with the edits
pub record IsUnitedEditsAnswer (host : ResolvedParts) (operations : List OperationSignature) (extensions : List ResolvedParts)
    (text : List ℕ) (edits : List Edit) (answer : EditsAnswer) : Type 0 where
  pub whole : Union host operations extensions
  pub language : LanguageView
  pub is_language : IsLanguageOf host operations extensions whole language
  pub is : IsEditsAnswerIn (terminals_of host extensions) (signatures_of host extensions) language text edits answer

-- a text with edits has one answer at most
abbrev pub HasOneEditsAnswer : ResolvedParts → List OperationSignature → (extensions : List ResolvedParts) → Type 0
HasOneEditsAnswer host operations extensions =
    (text : List ℕ) (edits : List Edit) (one other : EditsAnswer) → IsUnitedEditsAnswer host operations extensions text edits one →
    IsUnitedEditsAnswer host operations extensions text edits other → one ≡ other
