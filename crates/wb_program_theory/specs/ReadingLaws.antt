-- Where `reading` reports the host reading of a text, `tree` and `run` report of it with the extensions what they report without.
use Rattle.std.specs.Prelude.{◌≡◌, [], ℕ, List, Some}
use Rattle.wb_certify_files.specs.HostContents.{IsHostText}
use Rattle.wb_operations.specs.Operations.{OperationSignature, Operations}
use Rattle.wb_compose_texts.specs.SameRoots.{IsHostAttribute}
use Rattle.wb_report.specs.Lines.{report_of}
use Rattle.wb_report.specs.declared.done.Done.TheVariants as done
use Rattle.wb_report.specs.declared.outcome.Outcome.TheVariants as o
use Rattle.wb_syntax_resolved.specs.declared.resolved.ResolvedParts.{ResolvedParts}
use Rattle.wb_world.specs.Shelf.{Files}
use Rattle.wb_program.specs.Files.{KnownFile}
use Rattle.wb_program.specs.status.Status.{Status}
use Rattle.wb_program.specs.status.Status.TheVariants.{Done}
use Rattle.wb_program.specs.Commands.Run.{RunReport}
use Rattle.wb_program.specs.Commands.Reading.{ReadingReport}
use Rattle.wb_program.specs.Commands.Tree.{TreeReport}

-- the report of these files is `host reading`
abbrev pub ReportsHostReading : List OperationSignature → Files → (text host : List ℕ) → (extensions : List (List ℕ)) → Type 0
ReportsHostReading operations files text host extensions =
    ReadingReport operations (Some files) text host extensions Done (report_of (o.Done done.HostReading))

-- an attribute of the host in this file is printed so
pub record IsAttributeOf (operations : List OperationSignature) (files : Files) (host name : List ℕ) : Type 0 where
  pub value : ResolvedParts
  pub is_host : KnownFile (Some files) host (λ contents. IsHostText operations contents value)
  pub attribute : IsHostAttribute value name

-- there `tree` reports with the extensions what it reports without
abbrev pub HaveHostTree : Type 0
HaveHostTree = (operations : List OperationSignature) (files : Files) (text host : List ℕ) (extensions : List (List ℕ)) (status : Status)
    (bytes : List ℕ) → ReportsHostReading operations files text host extensions
    → TreeReport operations (Some files) text host [] status bytes → TreeReport operations (Some files) text host extensions status bytes

-- and so does `run`, of each attribute of the host and for every number of steps
abbrev pub HaveHostRun : Type 0
HaveHostRun = (operations : Operations) (files : Files) (text name : List ℕ) (steps : ℕ) (host : List ℕ) (extensions : List (List ℕ))
    (status : Status) (bytes : List ℕ) → ReportsHostReading operations.signatures files text host extensions
    → IsAttributeOf operations.signatures files host name → RunReport operations (Some files) text name steps host [] status bytes
    → RunReport operations (Some files) text name steps host extensions status bytes
