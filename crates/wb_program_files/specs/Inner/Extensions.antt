-- What is made of the file of an extension, and of several in their order.
use Rattle.std.specs.Prelude.{ℕ, Option, List, Result, Ok, Err, [], ◌∷◌, drop, map}
use Rattle.wb_certify_files.specs.HostContents.{IsHostText}
use Rattle.wb_operations.specs.Operations.{OperationSignature}
use Rattle.wb_syntax_resolved.specs.declared.resolved.ResolvedParts.{ResolvedParts}
use Rattle.wb_world.specs.Shelf.{Files}
use Rattle.wb_program_files.specs.Stops.{certified_extension, StopsAt}
use Rattle.wb_program_files.specs.Checks.{Report}
use Rattle.wb_program_files.specs.Files.{KnownFile}
use Rattle.wb_program_files.specs.Stopped.{Outside, Stopped}
use Rattle.wb_program_files.specs.declared.answer.Answer.{Answer}
use Rattle.wb_program_files.specs.declared.files.ReadFailure.{ReadFailure}
use Rattle.wb_program_files.specs.declared.status.Status.{Status}
use Rattle.wb_program_files.specs.Commands.Certify.{ExtensionsReport, IsExtensionNamed}

-- the report of a run that ends at an extension, whatever comes after it
abbrev pub EndsAtExtension : List OperationSignature → Option Files → ResolvedParts → List ℕ → Report
EndsAtExtension operations known host file status bytes =
    (files names : List (List ℕ)) → ExtensionsReport operations known host (file ∷ files) names status bytes

-- what the file of an extension is: certified with this name, or one at which the run ends with this answer
abbrev pub IsFound : List OperationSignature → Option Files → ResolvedParts → List ℕ → Result (List ℕ) Answer → Type 0
IsFound operations known host file (Ok name) = IsExtensionNamed operations known host file name
IsFound operations known host file (Err answer) = EndsAtExtension operations known host file answer.status answer.report.items

module _ (operations : List OperationSignature) (known : Option Files) (host : ResolvedParts) (files : List (List ℕ)) where
  -- a report of the extensions from a place on, after certified ones of these names, is one of all of them
  abbrev pub LeadsTo : ℕ → List (List ℕ) → Type 0
  LeadsTo at names = (status : Status) (bytes : List ℕ) → ExtensionsReport operations known host (drop at files) names status bytes
      → ExtensionsReport operations known host files [] status bytes

  -- a run that stops at an extension from a place on stops at one of all of them, whatever file has the host
  abbrev pub StopsFrom : Outside → ℕ → Type 0
  StopsFrom before at = (file : List ℕ) → KnownFile known file (λ contents. IsHostText operations contents host) → (now : Outside)
      (failure : ReadFailure)
      → Stopped before now (λ P. StopsAt operations known P (map (certified_extension file) (drop at files))) failure
      → Stopped before now (λ P. StopsAt operations known P (map (certified_extension file) files)) failure
