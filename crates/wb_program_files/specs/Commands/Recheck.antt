-- What `recheck HOST CERT [EXT CERT]` reports, and which files it comes to read.
use Rattle.std.specs.Prelude.{◌≡◌, ℕ, Option, Some, None, List, [], ◌∷◌}
use Rattle.wb_operations.specs.Operations.{OperationSignature}
use Rattle.wb_certify_files.specs.RecheckedExtensions.{IsRecheckedNamed, IsRefusedExtension}
use Rattle.wb_certify_files.specs.RecheckedHosts.{IsRecheckedHost, IsRefusedHost}
use Rattle.wb_report.specs.Lines.{report_of}
use Rattle.wb_report.specs.declared.done.Done.TheVariants as done
use Rattle.wb_report.specs.declared.outcome.Outcome.TheVariants as o
use Rattle.wb_syntax_resolved.specs.declared.resolved.ResolvedParts.{ResolvedParts}
use Rattle.wb_world.specs.Shelf.{Files}
use Rattle.wb_program_files.specs.CertificateChecks.{WithCertificate}
use Rattle.wb_program_files.specs.Checks.{Report, Ends}
use Rattle.wb_program_files.specs.Stops.{Read, certificate_of_host, unchecked}
use Rattle.wb_program_files.specs.declared.status.Status.TheVariants.{Done}

-- the host of this name is certified by its certificate, and so is the extension, where there is one; and the lines say so
abbrev pub RecheckedLines : List ℕ → Option (List ℕ) → Report
RecheckedLines host extension = Ends Done (λ bytes. bytes ≡ report_of (o.Done (done.Rechecked host extension)))

-- after the host, the extension with its certificate, which is the second word, where there is one
abbrev pub ExtensionReport : List OperationSignature → Option Files → (host : ResolvedParts) → (extension : List (List ℕ)) → Report
ExtensionReport operations known host (file ∷ certificate ∷ others) =
    WithCertificate known file certificate (IsRecheckedNamed host operations) (IsRefusedExtension host operations)
    (λ (name : List ℕ). RecheckedLines host.host (Some name))
ExtensionReport operations known host other = RecheckedLines host.host None

-- the host with its certificate, and then the extension with its
abbrev pub RecheckReport : List OperationSignature → Option Files → (host certificate : List ℕ) → (extension : List (List ℕ)) → Report
RecheckReport operations known host certificate extension =
    WithCertificate known host certificate (IsRecheckedHost operations) (IsRefusedHost operations)
    (λ (r : ResolvedParts). ExtensionReport operations known r extension)

-- the files of an extension and of its certificate, in the order in which they are read
abbrev pub extension_reads : (extension : List (List ℕ)) → List Read
extension_reads (file ∷ certificate ∷ others) = unchecked file ∷ unchecked certificate ∷ []
extension_reads other = []

-- all files, in the order in which they are read
abbrev pub rechecked_reads : (host certificate : List ℕ) → (extension : List (List ℕ)) → List Read
rechecked_reads host certificate extension = unchecked host ∷ certificate_of_host host certificate ∷ extension_reads extension
