-- What is answered of an attribute at the root of a text.
use Rattle.std.specs.Prelude.{◌≡◌, ℕ, List, Option, Some, None}
use Rattle.wb_compose_files.specs.Roots.{HasNoRootAttribute}
use Rattle.wb_compose_files.specs.Unions.{all_resolved}
use Rattle.wb_compose_files.specs.TextValues.{IsTextValue}
use Rattle.wb_compose_files.specs.text_value.TextValue.{TextValue}
use Rattle.wb_compose_files.specs.text_value.TextValue.TheVariants as v
use Rattle.wb_compose_files.specs.tree_value.TreeValue.{TreeValue}
use Rattle.wb_compose_files.specs.tree_value.TreeValue.TheVariants as t
use Rattle.wb_operations.specs.Operations.{Operations}
use Rattle.wb_operations.specs.Standard.{standard, standard_signatures}
use Rattle.wb_report.specs.Lines.{report_of}
use Rattle.wb_report.specs.declared.done.Done.TheVariants as done
use Rattle.wb_report.specs.declared.outcome.Outcome.TheVariants as o
use Rattle.wb_session_library.specs.Views.{TextView}
use Rattle.wb_session_library.specs.declared.refusal.CallRefusal.{CallRefusal}
use Rattle.wb_session_library.specs.declared.refusal.CallRefusal.TheVariants as c

-- the standard operations
abbrev pub standard_meaning : Operations
standard_meaning = record { signatures = standard_signatures; meaning = standard }

module _ (name : List ℕ) (steps : ℕ) (note : List ℕ) where
  -- the note is the report of what comes of the attribute at the root of a tree, and this is why it is no value
  abbrev pub IsShownTree : TreeValue → Option CallRefusal → Type 0
  IsShownTree (t.Fault operation code) status = (status ≡ Some c.OperationFault) × (note ≡ report_of (o.Fault operation code))
  IsShownTree t.MoreSteps status = (status ≡ Some c.MoreSteps) × (note ≡ report_of (o.MoreSteps steps))
  IsShownTree t.TooLong status = (status ≡ Some c.TooLongToPrint) × (note ≡ report_of o.TooLongToPrint)
  IsShownTree (t.Value printed) status = (status ≡ None) × (note ≡ report_of (o.Done (done.Value name printed)))

  -- the note is the report of what comes of a text, and this is why it is no value
  abbrev pub IsShown : TextValue → Option CallRefusal → Type 0
  IsShown (v.Stopped place stop) status = (status ≡ Some c.TextStopped) × (note ≡ report_of (o.Stopped place stop))
  IsShown (v.Tree value) status = IsShownTree value status

-- the note is the report of what comes of the text and the attribute within so many steps, and this is why it is no value
pub record HasValue (view : TextView) (name : List ℕ) (steps : ℕ) (note : List ℕ) (status : Option CallRefusal) : Type 0 where
  pub value : TextValue
  pub is : IsTextValue view.language.certified.host.resolved standard_meaning (all_resolved view.language.certified.extensions) view.text
      name steps value
  pub shown : IsShown name steps note value status

-- why no value is answered
pub data IsValueRefusal (view : TextView) (name : List ℕ) (steps : ℕ) (note : List ℕ) (refusal : CallRefusal) : Type 0 where
  no_memory : refusal ≡ c.NoMemory → IsValueRefusal view name steps note refusal
  unknown : refusal ≡ c.UnknownAttribute →
      HasNoRootAttribute view.language.certified.host.resolved standard_signatures (all_resolved view.language.certified.extensions) name →
      note ≡ report_of (o.UnknownAttribute name) → IsValueRefusal view name steps note refusal
  ended : HasValue view name steps note (Some refusal) → IsValueRefusal view name steps note refusal
