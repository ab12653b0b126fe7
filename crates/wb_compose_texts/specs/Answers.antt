-- What a text is in the language of a host with extensions: a printed tree, or its stop.
use Rattle.std.specs.Prelude.{◌≡◌, ◌<◌, ◌≤◌, ℕ, List, length}
use Rattle.wb_grammar_theory.specs.Trees.{Forest}
use Rattle.wb_scan_theory.specs.declared.stop_kind.StopKind.{StopKind}
use Rattle.wb_scan_theory.specs.Languages.{LanguageView}
use Rattle.wb_scan_theory.specs.Shown.{Shows}
use Rattle.wb_scan_theory.specs.Texts.{ParsesTo, StopsAt}
use Rattle.wb_operations.specs.Operations.{OperationSignature}
use Rattle.wb_report.specs.declared.shown.ShownStop.{ShownStop}
use Rattle.wb_syntax_resolved.specs.declared.resolved.ResolvedParts.{ResolvedParts}
use Rattle.wb_terms.specs.Printed.{printed_tree}
use Rattle.wb_compose_texts.specs.declared.text_answer.TextAnswer.{TextAnswer}
use Rattle.wb_compose_texts.specs.declared.text_answer.TextAnswer.TheVariants as a
use Rattle.wb_values.specs.Signature.{Signature}
use Rattle.wb_values.specs.Tree.{Tree}
use Rattle.wb_compose_texts.specs.Names.{stop_shown, terminals_of}
use Rattle.wb_compose_texts.specs.Signatures.{signatures_of}
use Rattle.wb_compose_texts.specs.Unions.{IsLanguageOf, Union}

-- in a language whose terminals have these names, and whose productions these signatures
module _ (names : List (List ℕ)) (signatures : List Signature) (l : LanguageView) (text : List ℕ) where
  -- the text has a tree, which is printed so
  pub record HasPrintedTree (printed : List ℕ) : Type 0 where
    pub root : Forest
    pub parses : ParsesTo l text root
    pub value : Tree
    pub shows : Shows value root
    pub is : printed ≡ printed_tree signatures value

  -- the text has a tree whose printed text is longer than 16,777,216 bytes
  pub record HasTooLongTree : Type 0 where
    pub printed : List ℕ
    pub has : HasPrintedTree printed
    pub long : 16777216 < length printed

  -- the text stops there, and that is shown so
  pub record StopsShown (place : ℕ) (shown : ShownStop) : Type 0 where
    pub kind : StopKind
    pub stops : StopsAt l text place kind
    pub is : shown ≡ stop_shown names kind

  -- the answer is that of the text
  abbrev pub IsAnswerIn : TextAnswer → Type 0
  IsAnswerIn (a.Tree printed) = HasPrintedTree printed × (length printed ≤ 16777216)
  IsAnswerIn (a.Stopped place shown) = StopsShown place shown
  IsAnswerIn a.TooLong = HasTooLongTree

-- the host has with the extensions a language, in which the answer is that of the text
pub record IsUnitedTextAnswer (host : ResolvedParts) (operations : List OperationSignature) (extensions : List ResolvedParts)
    (text : List ℕ) (answer : TextAnswer) : Type 0 where
  pub whole : Union host operations extensions
  pub language : LanguageView
  pub is_language : IsLanguageOf host operations extensions whole language
  pub is : IsAnswerIn (terminals_of host extensions) (signatures_of host extensions) language text answer

-- with these extensions and with the others a text has one answer at most
abbrev pub HasSameAnswer : ResolvedParts → List OperationSignature → (extensions others : List ResolvedParts) → Type 0
HasSameAnswer host operations extensions others =
    (text : List ℕ) (one other : TextAnswer) → IsUnitedTextAnswer host operations extensions text one →
    IsUnitedTextAnswer host operations others text other → one ≡ other
