-- What is made of the file of a host, and of a text or term of it, is their report.
use Rattle.std.proofs.Common.{◌≡◌, inl, inr, ℕ, List, [], Option, Some}
use Rattle.wb_certify_files.specs.HostContents.{IsHostText, IsHostRefusal}
use Rattle.wb_certify_files.specs.WellDefined.{IsWellDefinedText, IsWellDefinedTextRefusal}
use Rattle.wb_operations.specs.Operations.{OperationSignature, Operations}
use Rattle.wb_report.specs.Lines.{report_of}
use Rattle.wb_report.specs.declared.done.Done.TheVariants as done
use Rattle.wb_report.specs.declared.outcome.Outcome.TheVariants as o
use Rattle.wb_syntax_resolved.specs.declared.resolved.ResolvedParts.{ResolvedParts}
use Rattle.wb_world.specs.Shelf.{Files}
use Rattle.wb_program_files.specs.Checks.{Ends, Check}
use Rattle.wb_program_files.specs.Texts.{IsText, IsTooLongText}
use Rattle.wb_program_files.specs.HostChecks.{IsHostFile, RefusesHost}
use Rattle.wb_program_files.specs.Inner.Hosts.{IsWellDefinedFile}
use Rattle.wb_program_files.specs.declared.status.Status.{Status}
use Rattle.wb_program_files.specs.declared.status.Status.TheVariants.{Done, TextTooLong}
use Rattle.wb_program_files.specs.Commands.Check.{CheckReport}
use Rattle.wb_program_files.specs.Commands.Value.{TermReport, ValueReport}
use Rattle.wb_program_files.proofs.FileLemmas.{refused_checks}

-- `check` of a certified host
pub check_done : (operations : List OperationSignature) (known : Option Files) (file : List ℕ) (r : ResolvedParts) (status : Status)
    (bytes : List ℕ) → IsHostFile operations known file r → status ≡ Done → bytes ≡ report_of (o.Done (done.Certified r.host []))
    → CheckReport operations known file status bytes
check_done operations known file r status bytes is ends line = inr (inr (r, is.contents, (ends, line)))

-- `check` of another file
pub check_refused : (operations : List OperationSignature) (known : Option Files) (file : List ℕ) (status : Status) (bytes : List ℕ)
    → RefusesHost (IsHostRefusal operations) known file status bytes → CheckReport operations known file status bytes
check_refused operations known file status bytes refused =
    refused_checks (IsHostText operations) (IsHostRefusal operations) known file
    (λ r. Ends Done (λ line. line ≡ report_of (o.Done (done.Certified r.host [])))) status bytes refused

-- `value` in a host whose attributes are well defined
pub value_well_defined : (operations : Operations) (known : Option Files) (host file attribute : List ℕ) (r : ResolvedParts)
    (status : Status) (bytes : List ℕ) → IsWellDefinedFile operations.signatures known host r
    → Check TextTooLong (IsTooLongText known file) (IsText known file)
    (λ (text : List ℕ). TermReport operations r.attributes file attribute text) status bytes
    → ValueReport operations known host file attribute status bytes
value_well_defined operations known host file attribute r status bytes is report = inr (inr (r, is.contents, report))

-- `value` of another file
pub value_refused : (operations : Operations) (known : Option Files) (host file attribute : List ℕ) (status : Status) (bytes : List ℕ)
    → RefusesHost (IsWellDefinedTextRefusal operations.signatures) known host status bytes
    → ValueReport operations known host file attribute status bytes
value_refused operations known host file attribute status bytes refused =
    refused_checks (IsWellDefinedText operations.signatures) (IsWellDefinedTextRefusal operations.signatures) known host
    (λ r. Check TextTooLong (IsTooLongText known file) (IsText known file)
    (λ (text : List ℕ). TermReport operations r.attributes file attribute text)) status bytes refused
