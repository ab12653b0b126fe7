-- What is answered of a text's source is the report of its host and extensions, and a run that stops at its file has its cause.
use Rattle.std.proofs.Common.{◌≡◌, inl, inr, ℕ, List, Option}
use Rattle.wb_operations.specs.Operations.{Operations, OperationSignature}
use Rattle.wb_report.specs.Lines.{report_of}
use Rattle.wb_report.specs.declared.outcome.Outcome.TheVariants as o
use Rattle.wb_syntax_resolved.specs.declared.resolved.ResolvedParts.{ResolvedParts}
use Rattle.wb_compose_texts.specs.Unions.{all_resolved}
use Rattle.wb_compose_texts.specs.Roots.{HasNoRootAttribute, IsRootAttribute}
use Rattle.wb_world.specs.Shelf.{Files}
use Rattle.wb_program_files.specs.Checks.{Ends}
use Rattle.wb_program_files.specs.declared.status.Status.{Status}
use Rattle.wb_program_files.specs.declared.status.Status.TheVariants.{UnknownAttribute}
use Rattle.wb_program_texts.specs.Inner.Sources.{SourceChecks, SourceEnd, SourceRest, SourceText}
use Rattle.wb_program_texts.specs.declared.asked.Asked.{Asked}
use Rattle.wb_program_texts.specs.declared.source.Source.{Source}
use Rattle.wb_program_texts.specs.declared.source.Source.TheVariants.{File, Number}

-- what the text's file meets, it meets more weakly
pub end_weaker : (operations : List OperationSignature) (name : List ℕ) (source : Source) (P Q : List ℕ → Type 0) (r : ResolvedParts)
    (values : List ResolvedParts) → ((file : List ℕ) → P file → Q file) → SourceEnd operations name source P r values
    → SourceEnd operations name source Q r values
end_weaker operations name (File file steps) P Q r values weaker (found, is) = (found, weaker file.now is)
end_weaker operations name (Number number size) P Q r values weaker none = absurd none

-- where an attribute may be asked, the rest is the report
pub found_checks : (operations : Operations) (known : Option Files) (source : Source) (asked : Asked) (attribute : ℕ) (s : Status)
    (bytes : List ℕ)
    → IsRootAttribute asked.host.now.resolved operations.signatures (all_resolved asked.extensions.now) asked.name.now attribute
    → SourceRest operations known source asked s bytes
    → SourceChecks operations known asked.name.now source asked.host.now.resolved (all_resolved asked.extensions.now) s bytes
found_checks operations known (File file steps) asked attribute s bytes is report = inr (attribute, is, report)
found_checks operations known (Number number size) asked attribute s bytes is report = inr (attribute, is, report)

-- where none may be, the report says so
pub unknown_checks : (operations : Operations) (known : Option Files) (source : Source) (name : List ℕ) (r : ResolvedParts)
    (values : List ResolvedParts) (s : Status) (bytes : List ℕ) → HasNoRootAttribute r operations.signatures values name
    → Ends UnknownAttribute (λ line. line ≡ report_of (o.UnknownAttribute name)) s bytes
    → SourceChecks operations known name source r values s bytes
unknown_checks operations known (File file steps) name r values s bytes none (ends, line) =
    inl (ends, record { none = none; line = line })
unknown_checks operations known (Number number size) name r values s bytes none (ends, line) =
    inl (ends, record { none = none; line = line })

-- a run that stops at the text's file stops there where an attribute may be asked
pub found_end : (operations : List OperationSignature) (name : List ℕ) (source : Source) (r : ResolvedParts) (values : List ResolvedParts)
    (attribute : ℕ) (P Q : List ℕ → Type 0) → IsRootAttribute r operations values name attribute → ((file : List ℕ) → P file → Q file)
    → SourceText P source → SourceEnd operations name source Q r values
found_end operations name (File file steps) r values attribute P Q is weaker stops = ((attribute, is), weaker file.now stops)
found_end operations name (Number number size) r values attribute P Q is weaker none = absurd none
