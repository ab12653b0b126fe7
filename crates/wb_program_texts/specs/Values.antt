-- The attribute that is asked at the root of a text, and what is reported of its value there.
use Rattle.std.specs.Prelude.{◌≡◌, ℕ, List}
use Rattle.wb_operations.specs.Operations.{Operations, OperationSignature}
use Rattle.wb_report.specs.Lines.{report_of}
use Rattle.wb_report.specs.declared.done.Done.{Done}
use Rattle.wb_report.specs.declared.outcome.Outcome.TheVariants as o
use Rattle.wb_syntax_resolved.specs.declared.resolved.ResolvedParts.{ResolvedParts}
use Rattle.wb_compose_texts.specs.tree_value.TreeValue.{TreeValue}
use Rattle.wb_compose_texts.specs.tree_value.TreeValue.TheVariants as t
use Rattle.wb_compose_texts.specs.Roots.{HasNoRootAttribute, IsRootAttribute}
use Rattle.wb_compose_texts.specs.Values.{IsTextValue}
use Rattle.wb_compose_texts.specs.declared.value.TextValue.{TextValue}
use Rattle.wb_compose_texts.specs.declared.value.TextValue.TheVariants as v
use Rattle.wb_program_files.specs.Checks.{Report, Check, Ends}
use Rattle.wb_program_files.specs.declared.status.Status.{Status}
use Rattle.wb_program_files.specs.declared.status.Status.TheVariants as s

-- the status and the line of what comes of an attribute, where a printed value is shown so: the evaluation fails or needs more steps, or
-- the value is too long to print, or is printed
abbrev pub ShownTreeValue : (List ℕ → Done) → (steps : ℕ) → TreeValue → Report
ShownTreeValue shows steps (t.Fault operation code) = Ends s.OperationFault (λ bytes. bytes ≡ report_of (o.Fault operation code))
ShownTreeValue shows steps t.MoreSteps = Ends s.MoreSteps (λ bytes. bytes ≡ report_of (o.MoreSteps steps))
ShownTreeValue shows steps t.TooLong = Ends s.TooLongToPrint (λ bytes. bytes ≡ report_of o.TooLongToPrint)
ShownTreeValue shows steps (t.Value printed) = Ends s.Done (λ bytes. bytes ≡ report_of (o.Done (shows printed)))

-- those of what comes of a text: it stops, or the attribute at its root comes to something
abbrev pub ShownTextValue : (List ℕ → Done) → (steps : ℕ) → TextValue → Report
ShownTextValue shows steps (v.Stopped place stop) = Ends s.TextStopped (λ bytes. bytes ≡ report_of (o.Stopped place stop))
ShownTextValue shows steps (v.Tree value) = ShownTreeValue shows steps value

-- in the language of a host with extensions this comes of the text and the attribute of this name at its root, within so many steps, and it
-- has this status and line
pub record TextValueReport (operations : Operations) (host : ResolvedParts) (extensions : List ResolvedParts) (name : List ℕ) (steps : ℕ)
    (shows : List ℕ → Done) (text : List ℕ) (status : Status) (bytes : List ℕ) : Type 0 where
  pub value : TextValue
  pub is : IsTextValue host operations extensions text name steps value
  pub shown : ShownTextValue shows steps value status bytes

module _ (operations : List OperationSignature) (host : ResolvedParts) (extensions : List ResolvedParts) (name : List ℕ) where
  -- no attribute of this name may be asked at the root of a text, and the line says so
  pub record IsUnknown (bytes : List ℕ) : Type 0 where
    pub none : HasNoRootAttribute host operations extensions name
    pub line : bytes ≡ report_of (o.UnknownAttribute name)

  -- none may be asked, or one may, and then the rest
  abbrev pub AttributeCheck : Report → Report
  AttributeCheck rest =
      Check s.UnknownAttribute IsUnknown (IsRootAttribute host operations extensions name) (λ (attribute : ℕ). rest)
