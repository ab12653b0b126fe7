-- A host of a file whose attributes are well defined, and what is answered where a file isn't a host.
use Rattle.std.specs.Prelude.{◌≡◌, ℕ, Option, List}
use Rattle.wb_certify_files.specs.WellDefined.{IsWellDefinedText}
use Rattle.wb_certify_files.specs.WellDefinedHosts.{HasWellDefinedAttributes}
use Rattle.wb_certify_files.specs.declared.host_refusal.HostRefusal.{HostRefusal}
use Rattle.wb_certify_files.specs.declared.host_refusal.HostRefusal.TheVariants as h
use Rattle.wb_operations.specs.Operations.{OperationSignature}
use Rattle.wb_report.specs.Lines.{report_of}
use Rattle.wb_report.specs.declared.outcome.Outcome.TheVariants as o
use Rattle.wb_syntax_resolved.specs.declared.resolved.ResolvedParts.{ResolvedParts}
use Rattle.wb_world.specs.Shelf.{Files}
use Rattle.wb_program_files.specs.Checks.{Report, Ends}
use Rattle.wb_program_files.specs.Files.{KnownFile}
use Rattle.wb_program_files.specs.declared.status.Status.TheVariants.{SpecRefused, NotCertified}

-- the file is a host of this value, whose attributes are well defined
pub record IsWellDefinedFile (operations : List OperationSignature) (known : Option Files) (file : List ℕ) (r : ResolvedParts)
    : Type 0 where
  pub well_defined : HasWellDefinedAttributes r operations
  pub contents : KnownFile known file (λ contents. IsWellDefinedText operations contents r)

-- a refused host: the status of its sort, and the line that says why; out of memory has no line
abbrev pub RefusedHost : List ℕ → HostRefusal → Report
RefusedHost file (h.Specification shown) = Ends SpecRefused (λ bytes. bytes ≡ report_of (o.Refused file shown))
RefusedHost file (h.Certification shown) = Ends NotCertified (λ bytes. bytes ≡ report_of (o.Refused file shown))
RefusedHost file (h.NoMemory error) = λ status bytes. ⊥
