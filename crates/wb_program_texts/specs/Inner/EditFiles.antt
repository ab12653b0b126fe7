-- What is reported of a file of edits that was read.
use Rattle.std.specs.Prelude.{◌≡◌, ◌⊎◌, ℕ, List}
use Rattle.wb_report.specs.declared.edits_reason.EditsReason.TheVariants as u
use Rattle.wb_session_edits.specs.Edits.{IsList, IsListOf}
use Rattle.wb_session_edits.specs.declared.edit.Edit.{Edit}
use Rattle.wb_text_parts.specs.Faults.{IsFirstFault}
use Rattle.wb_program_files.specs.Checks.{Report, Ends}
use Rattle.wb_program_texts.specs.Commands.Edit.{refused_line}
use Rattle.wb_program_files.specs.declared.files.Contents.{Contents}
use Rattle.wb_program_files.specs.declared.files.Contents.TheVariants.{Whole, TooLong}
use Rattle.wb_program_files.specs.declared.status.Status.TheVariants.{EditRefused}

-- of bytes: they are refused at their first fault, or they are a list of edits with this report
abbrev pub ShownList : List ℕ → (List Edit → Report) → List ℕ → Report
ShownList file rest contents status bytes =
    ((at : ℕ) × IsFirstFault IsList contents at × Ends EditRefused (λ bytes. bytes ≡ refused_line file (u.Syntax at)) status bytes)
    ⊎ ((edits : List Edit) × IsListOf contents edits × rest edits status bytes)

-- of what was read: it is too long, or such bytes
abbrev pub ReadList : List ℕ → (List Edit → Report) → Contents → Report
ReadList file rest (Whole bytes) = ShownList file rest bytes.items
ReadList file rest TooLong = Ends EditRefused (λ bytes. bytes ≡ refused_line file u.TooLong)
