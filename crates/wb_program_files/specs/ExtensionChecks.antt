-- How extensions are refused that are named with a host.
use Rattle.std.specs.Prelude.{◌≡◌, ◌<◌, ℕ, Option, List, length}
use Rattle.wb_certify_files.specs.ExtensionContents.{NamesOtherHost}
use Rattle.wb_certify_files.specs.declared.extension_refusal.FileRefusal.{FileRefusal}
use Rattle.wb_certify_files.specs.declared.extension_refusal.FileRefusal.TheVariants as f
use Rattle.wb_operations.specs.Operations.{OperationSignature}
use Rattle.wb_report.specs.Lines.{report_of}
use Rattle.wb_report.specs.declared.outcome.Outcome.TheVariants as o
use Rattle.wb_syntax_resolved.specs.declared.resolved.ResolvedParts.{ResolvedParts}
use Rattle.wb_world.specs.Shelf.{Files}
use Rattle.wb_program_files.specs.Checks.{Report, Ends}
use Rattle.wb_program_files.specs.Files.{KnownFile}
use Rattle.wb_program_files.specs.declared.status.Status.TheVariants.{SpecRefused, NotCertified, WrongHost}

module _ (operations : List OperationSignature) (known : Option Files) (host : ResolvedParts) where
  -- the file is an extension of another host, and the line says of which
  pub record IsForOtherHost (file bytes : List ℕ) : Type 0 where
    pub name : List ℕ
    pub cause : KnownFile known file (λ contents. NamesOtherHost host contents name)
    pub line : bytes ≡ report_of (o.WrongHost file name)

-- more extensions are named than are taken, and the line says so
pub record AreTooMany (extensions : List (List ℕ)) (bytes : List ℕ) : Type 0 where
  pub many : 64 < length extensions
  pub line : bytes ≡ report_of o.TooManyExtensions

-- a refused extension: the status of its sort, and the line that says why; out of memory has no line
abbrev pub RefusedExtension : List ℕ → FileRefusal → Report
RefusedExtension file (f.Specification shown) = Ends SpecRefused (λ bytes. bytes ≡ report_of (o.Refused file shown))
RefusedExtension file (f.WrongHost name) = Ends WrongHost (λ bytes. bytes ≡ report_of (o.WrongHost file name))
RefusedExtension file (f.Certification shown) = Ends NotCertified (λ bytes. bytes ≡ report_of (o.Refused file shown))
RefusedExtension file (f.NoMemory error) = λ status bytes. ⊥
