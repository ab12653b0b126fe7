-- Which files are read, and which are missing or faulty where a run stops at one.
use Rattle.std.specs.Prelude.{ℕ, List, [], ◌∷◌, ◌⊎◌, Option}
use Rattle.wb_world.specs.Cause.{Rose}
use Rattle.wb_world.specs.Shelf.{Files}
use Rattle.wb_certify_files.specs.ExtensionContents.{IsExtensionText}
use Rattle.wb_certify_files.specs.HostContents.{IsHostText}
use Rattle.wb_certify_files.specs.WellDefined.{IsWellDefinedText}
use Rattle.wb_operations.specs.Operations.{OperationSignature}
use Rattle.wb_syntax_resolved.specs.declared.resolved.ResolvedParts.{ResolvedParts}
use Rattle.wb_certify_files.specs.RecheckedHosts.{IsRecheckedHost}
use Rattle.wb_program_files.specs.CertificateChecks.{IsPair}
use Rattle.wb_program_files.specs.Files.{KnownFile, KnownAbsent}

-- a file as what it is read
pub data Read : Type 0 where
  -- a specification that is shown
  specification : List ℕ → Read
  -- a host that is certified
  certified_host : List ℕ → Read
  -- a host whose attributes are well defined
  well_defined_host : List ℕ → Read
  -- an extension that is certified beside the host of a file
  certified_extension : (host : List ℕ) → List ℕ → Read
  -- a term
  written_term : List ℕ → Read
  -- a file whose certificate is read before it is checked
  unchecked : List ℕ → Read
  -- the certificate of the host of a file
  certificate_of_host : (host : List ℕ) → List ℕ → Read

-- the name of the file
abbrev pub file_of : Read → List ℕ
file_of (specification file) = file
file_of (certified_host file) = file
file_of (well_defined_host file) = file
file_of (certified_extension host file) = file
file_of (written_term file) = file
file_of (unchecked file) = file
file_of (certificate_of_host host file) = file

-- the file is an extension that is certified beside the host of another file
pub record IsCertifiedBesideFile (operations : List OperationSignature) (known : Option Files) (host file : List ℕ) : Type 0 where
  pub beside : ResolvedParts
  pub is_host : KnownFile known host (λ contents. IsHostText operations contents beside)
  pub value : ResolvedParts
  pub is_extension : KnownFile known file (λ contents. IsExtensionText beside operations contents value)

-- the file passes its checks, so that the next one is read
abbrev pub Passes : List OperationSignature → Option Files → Read → Type 0
Passes operations known (specification file) = Unit {0}
Passes operations known (certified_host file) = KnownFile known file (λ contents. (r : ResolvedParts) × IsHostText operations contents r)
Passes operations known (well_defined_host file) =
    KnownFile known file (λ contents. (r : ResolvedParts) × IsWellDefinedText operations contents r)
Passes operations known (certified_extension host file) = IsCertifiedBesideFile operations known host file
Passes operations known (written_term file) = Unit {0}
Passes operations known (unchecked file) = Unit {0}
Passes operations known (certificate_of_host host file) =
    (r : ResolvedParts) × IsPair known host file (λ contents text. IsRecheckedHost operations contents text r)

-- a file of the list meets this, and all before it pass their checks
abbrev pub StopsAt : List OperationSignature → Option Files → (List ℕ → Type 0) → List Read → Type 0
StopsAt operations known P [] = ⊥
StopsAt operations known P (read ∷ reads) = P (file_of read) ⊎ (Passes operations known read × StopsAt operations known P reads)

-- a read of the file found none in this run, and no file has that name
abbrev pub IsMissing : Option Files → (List ℕ → ℕ) → (List ℕ → ℕ) → List ℕ → Type 0
IsMissing known before now file = Rose (before file) (now file) × KnownAbsent known file

-- a read of the file failed in this run
abbrev pub IsFaulty : (List ℕ → ℕ) → (List ℕ → ℕ) → List ℕ → Type 0
IsFaulty before now file = Rose (before file) (now file)
