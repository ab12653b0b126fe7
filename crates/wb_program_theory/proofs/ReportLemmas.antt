-- A report of a text's answer is one with the extensions in every other order.
use Rattle.std.proofs.Common.{◌≡◌, ℕ, List, Some, length, refl, subst, inl, inr}
use Rattle.std.proofs.lemmas.Bool.{cases_lt}
use Rattle.wb_grammar_theory.specs.Trees.{Forest, nothing, leaf, node}
use Rattle.wb_scan_theory.specs.Languages.{LanguageView}
use Rattle.wb_scan_theory.specs.Shown.{Shows, values_of}
use Rattle.wb_operations.specs.Operations.{OperationSignature}
use Rattle.wb_compose_theory_order.specs.Answers.{renamed_forest, renamed_kind}
use Rattle.wb_compose_theory_order.specs.Laws.{HasSameAnswers}
use Rattle.wb_compose_theory_order.specs.Orders.{IsReordering}
use Rattle.wb_syntax_resolved.specs.declared.resolved.ResolvedParts.{ResolvedParts}
use Rattle.wb_terms.specs.Printed.{printed_tree}
use Rattle.wb_compose_texts.specs.declared.text_answer.TextAnswer.{TextAnswer}
use Rattle.wb_compose_texts.specs.declared.text_answer.TextAnswer.TheVariants as a
use Rattle.wb_compose_theory.specs.Renamings.{Renaming}
use Rattle.wb_compose_texts.specs.Answers.{HasPrintedTree, IsAnswerIn, IsUnitedTextAnswer}
use Rattle.wb_compose_texts.specs.Names.{stop_shown, terminals_of}
use Rattle.wb_compose_texts.specs.Signatures.{signatures_of}
use Rattle.wb_compose_texts.specs.Unions.{IsLanguageOf, Union}
use Rattle.wb_compose_texts.proofs.AnswerLemmas.{same_answer}
use Rattle.wb_values.specs.Signature.{Signature}
use Rattle.wb_values.specs.Tree.{Tree, empty, more, tree}
use Rattle.wb_values.specs.Tree as values
use Rattle.wb_world.specs.Shelf.{Files}
use Rattle.wb_program_theory.specs.Laws.{HaveOneOrder, IsAnswerStatus}
use Rattle.wb_program_theory.proofs.SeveralLemmas.{RefusesNone, several_there}
use Rattle.wb_program.specs.Checks.{Check, Report}
use Rattle.wb_program.specs.Texts.{IsText, IsTooLongText}
use Rattle.wb_program.specs.status.Status.{Status}
use Rattle.wb_program.specs.status.Status.TheVariants.{TextTooLong}
use Rattle.wb_program.specs.Commands.Tree.{ShownText, TextReport}
use Rattle.wb_program_theory.proofs.UnionLemmas.{is_language_there, language_there, names, same_texts, union_there}

-- a tree in other numbers is a value too
value_there : (r : Renaming) (root : Forest) (value : Tree) → Shows value root → (other : Tree) × Shows other (renamed_forest r root)
value_there r nothing value shows = cc
value_there r (leaf t text rest) value shows = cc
value_there r (node p a children nothing) value shows =
    (values.node (r.production p) (values_of (renamed_forest r children)), refl)
value_there r (node p a children (leaf t text rest)) value shows = cc
value_there r (node p a children (node q b below rest)) value shows = cc

module _ (r : Renaming) (l m : LanguageView) (same : HasSameAnswers r l m) (names others : List (List ℕ))
    (signatures also : List Signature) (text : List ℕ) where
  -- a text with a tree there has an answer here
  printed_here : (printed : List ℕ) → HasPrintedTree names signatures l text printed → (y : TextAnswer) × IsAnswerIn others also m text y
  printed_here printed shown =
      let (value, shows) = value_there r shown.root shown.value shown.shows in
      let has : HasPrintedTree others also m text (printed_tree also value) = record {
        root = renamed_forest r shown.root;
        parses = (same.trees text shown.root).0 shown.parses;
        value = value;
        shows = shows;
        is = refl;
      } in
      elim (cases_lt 16777216 (length (printed_tree also value))) [
        | inl long ↦ (a.TooLong, record { printed = printed_tree also value; has = has; long = long })
        | inr short ↦ (a.Tree (printed_tree also value), (has, short))
      ]

  answer_here : (x : TextAnswer) → IsAnswerIn names signatures l text x → (y : TextAnswer) × IsAnswerIn others also m text y
  answer_here (a.Tree printed) is = printed_here printed is.0
  answer_here (a.Stopped place shown) is = (
    a.Stopped place (stop_shown others (renamed_kind r is.kind)),
    record { kind = renamed_kind r is.kind; stops = (same.stops text place is.kind).0 is.stops; is = refl },
  )
  answer_here a.TooLong is = printed_here is.printed is.has

module _ (host : ResolvedParts) (operations : List OperationSignature) (extensions others : List ResolvedParts) (to from : ℕ → ℕ)
    (re : IsReordering to from extensions others) where
  -- a text's answer in the other order
  answer_there : (u : Union host operations extensions) (l : LanguageView) → IsLanguageOf host operations extensions u l → (text : List ℕ)
      (x : TextAnswer) → IsAnswerIn (terminals_of host extensions) (signatures_of host extensions) l text x
      → (y : TextAnswer) × IsUnitedTextAnswer host operations others text y
  answer_there u l is text x answers =
      let (y, y_is) = answer_here (names host operations extensions others to from re u) l
      (language_there host operations extensions others to from re u l is)
      (same_texts host operations extensions others to from re u l is) (terminals_of host extensions) (terminals_of host others)
      (signatures_of host extensions) (signatures_of host others) text x answers in (
        y,
        record {
          whole = union_there host operations extensions others to from re u;
          language = language_there host operations extensions others to from re u l is;
          is_language = is_language_there host operations extensions others to from re u l is;
          is = y_is;
        },
      )

  -- the report of a text in the other order
  pub united_there : (text : List ℕ) (status : Status) (bytes : List ℕ) → TextReport operations host extensions text status bytes
      → TextReport operations host others text status bytes
  united_there text status bytes x =
      let (y, y_is) = answer_there x.is.whole x.is.language x.is.is_language text x.answer x.is.is in
      let same : x.answer ≡ y = same_answer host operations extensions others to from re text x.answer y x.is y_is in
      record { answer = y; is = y_is; shown = subst (λ (z : TextAnswer). ShownText z status bytes) same x.shown }

-- no refusal of a host or an extension has a status of an answer
abbrev answer_refuses_none : RefusesNone IsAnswerStatus
answer_refuses_none = record {
  specification = λ no. no;
  certification = λ no. no;
  other_host = λ no. no;
  duplicate = λ no. no;
  many = λ no. no;
}

-- what is reported of a file with the host and extensions
abbrev FileReport : List OperationSignature → Files → List ℕ → ResolvedParts → List ResolvedParts → Report
FileReport operations files text r values =
    Check TextTooLong (IsTooLongText (Some files) text) (IsText (Some files) text)
    (λ (contents : List ℕ). TextReport operations r values contents)

file_there : (operations : List OperationSignature) (files : Files) (text : List ℕ) (status : Status) (bytes : List ℕ) (r : ResolvedParts)
    (values others : List ResolvedParts) (to from : ℕ → ℕ) → IsReordering to from values others
    → FileReport operations files text r values status bytes → FileReport operations files text r others status bytes
file_there operations files text status bytes r values others to from re (inl long) = inl long
file_there operations files text status bytes r values others to from re (inr (contents, is, report)) =
    inr (contents, is, united_there r operations values others to from re contents status bytes report)

-- where a text has an answer that is reported, extensions in another order have the same report
pub one_order : HaveOneOrder
one_order operations known text host files others to from status bytes re answers =
    several_there IsAnswerStatus answer_refuses_none operations known status bytes answers (FileReport operations known text) host files
    others to from re
    (λ r values in_order reordering differ. file_there operations known text status bytes r values in_order to from reordering)
