-- Two refusals by `recheck` have one code.
use Rattle.std.proofs.Common.{◌∷◌, [], ℕ, List, Option, Some, None, inl, inr}
use Rattle.wb_certify_files.specs.HostContents.{IsHostText}
use Rattle.wb_certify_files.specs.declared.extension_refusal.FileRefusal.TheVariants as f
use Rattle.wb_operations.specs.Operations.{OperationSignature}
use Rattle.wb_certify_files.proofs.RecheckCallerLemmas.{extension_file, host_certification, host_specification, host_text}
use Rattle.wb_certify_files.specs.RecheckedExtensions.{IsRefusedExtension}
use Rattle.wb_certify_files.specs.RecheckedHosts.{IsRecheckedHost, IsRefusedHost}
use Rattle.wb_certify_files.specs.declared.contents_refusal.ContentsRefusal.{ContentsRefusal}
use Rattle.wb_certify_files.specs.declared.contents_refusal.ContentsRefusal.TheVariants as k
use Rattle.wb_syntax_resolved.specs.declared.resolved.ResolvedParts.{ResolvedParts}
use Rattle.wb_world.specs.Shelf.{Files}
use Rattle.wb_program.specs.CertificateChecks.{IsPair, RefusedPair}
use Rattle.wb_program.specs.Commands.Recheck.{ExtensionReport, RecheckReport}
use Rattle.wb_program.specs.Files.{FileIs}
use Rattle.wb_program.specs.Excludes.{ExcludesExtensions, ExcludesHeaders}
use Rattle.wb_program.specs.status.Status.{Status}
use Rattle.wb_program.specs.status.Status.TheVariants.{CertificateRefused, Done, WrongHost}
use Rattle.wb_program_theory.specs.Codes.{IsCodeStatus}
use Rattle.wb_program_theory.proofs.AlikeLemmas.{IsTold}
use Rattle.wb_program_theory.proofs.FileLemmas.{file_is}
use Rattle.wb_program_theory.proofs.MarkerCodes.{RefusalsExclude}
use Rattle.wb_program_theory.proofs.RefusedFiles.{IsExtensionFault, IsHostFault, RefusesFile, RefusesOne, coding}

-- what doesn't speak of a file that is there
of_file : (file : Option (List ℕ)) (P : Type 0) → FileIs file (λ text. P) → P
of_file None P is = absurd is
of_file (Some text) P is = is

-- the files that are refused, of an extension with its certificate: its own alone
abbrev pub refused_files : List (List ℕ) → List (List ℕ)
refused_files (file ∷ certificate ∷ others) = file ∷ []
refused_files other = []

module _ (extensions : ExcludesExtensions) (headers : ExcludesHeaders) (marks : RefusalsExclude) (operations : List OperationSignature)
    (files : Files) (s : Status) (bytes : List ℕ) (code : IsCodeStatus s) where
  -- what holds of contents by a text, whatever the text is, holds of the file
  first_is : (file certificate : List ℕ) (P : List ℕ → List ℕ → Type 0) (Q : List ℕ → Type 0)
      → ((contents text : List ℕ) → P contents text → Q contents) → IsPair (Some files) file certificate P → FileIs (files file) Q
  first_is file certificate P Q weaker is =
      file_is (files file) (λ contents. FileIs (files certificate) (P contents)) Q
      (λ contents there. of_file (files certificate) (Q contents)
      (file_is (files certificate) (P contents) (λ text. Q contents) (weaker contents) there)) is.both

  -- a refused host
  host_told : (file certificate : List ℕ) (refusal : ContentsRefusal)
      → IsPair (Some files) file certificate (λ contents text. IsRefusedHost operations contents text refusal)
      → RefusedPair file certificate refusal s bytes → IsTold (IsHostFault extensions headers marks operations files) files file bytes
  host_told file certificate (k.File (f.Specification shown)) cause line = record {
    shown = shown;
    cause = first_is file certificate (λ contents text. IsRefusedHost operations contents text (k.File (f.Specification shown)))
        (λ contents. IsHostFault extensions headers marks operations files contents shown)
        (λ contents text is. inl (host_specification operations contents text shown is)) cause;
    line = line.1;
  }
  host_told file certificate (k.File (f.WrongHost name)) cause line = absurd (coding s WrongHost code line.0)
  host_told file certificate (k.File (f.Certification shown)) cause line = record {
    shown = shown;
    cause = first_is file certificate (λ contents text. IsRefusedHost operations contents text (k.File (f.Certification shown)))
        (λ contents. IsHostFault extensions headers marks operations files contents shown)
        (λ contents text is. inr (host_certification operations contents text shown is)) cause;
    line = line.1;
  }
  host_told file certificate (k.File (f.NoMemory error)) cause line = absurd line
  host_told file certificate (k.Certificate reason) cause line = absurd (coding s CertificateRefused code line.0)

  -- a refused extension
  extension_told : (r : ResolvedParts) (file certificate : List ℕ) (refusal : ContentsRefusal)
      → IsPair (Some files) file certificate (λ contents text. IsRefusedExtension r operations contents text refusal)
      → RefusedPair file certificate refusal s bytes
      → IsTold (IsExtensionFault extensions headers marks operations files r) files file bytes
  extension_told r file certificate (k.File (f.Specification shown)) cause line = record {
    shown = shown;
    cause = first_is file certificate (λ contents text. IsRefusedExtension r operations contents text (k.File (f.Specification shown)))
        (λ contents. IsExtensionFault extensions headers marks operations files r contents shown)
        (λ contents text is. inl (extension_file operations contents text r (f.Specification shown) is)) cause;
    line = line.1;
  }
  extension_told r file certificate (k.File (f.WrongHost name)) cause line = absurd (coding s WrongHost code line.0)
  extension_told r file certificate (k.File (f.Certification shown)) cause line = record {
    shown = shown;
    cause = first_is file certificate (λ contents text. IsRefusedExtension r operations contents text (k.File (f.Certification shown)))
        (λ contents. IsExtensionFault extensions headers marks operations files r contents shown)
        (λ contents text is. inr (extension_file operations contents text r (f.Certification shown) is)) cause;
    line = line.1;
  }
  extension_told r file certificate (k.File (f.NoMemory error)) cause line = absurd line
  extension_told r file certificate (k.Certificate reason) cause line = absurd (coding s CertificateRefused code line.0)

  -- after the host
  rest_refused : (r : ResolvedParts) (extension : List (List ℕ)) → ExtensionReport operations (Some files) r extension s bytes
      → RefusesOne extensions headers marks operations files r (refused_files extension) bytes
  rest_refused r [] is = absurd (coding s Done code is.0)
  rest_refused r (file ∷ []) is = absurd (coding s Done code is.0)
  rest_refused r (file ∷ certificate ∷ others) (inl long) = absurd (coding s CertificateRefused code long.line.0)
  rest_refused r (file ∷ certificate ∷ others) (inr (inl refused)) =
      inl (extension_told r file certificate refused.refusal refused.cause refused.line)
  rest_refused r (file ∷ certificate ∷ others) (inr (inr (name, is, lines))) = absurd (coding s Done code lines.0)

  -- a report of `recheck`
  pub recheck_refused : (host certificate : List ℕ) (extension : List (List ℕ))
      → RecheckReport operations (Some files) host certificate extension s bytes
      → RefusesFile extensions headers marks operations files host (refused_files extension) bytes
  recheck_refused host certificate extension (inl long) = absurd (coding s CertificateRefused code long.line.0)
  recheck_refused host certificate extension (inr (inl refused)) =
      inl (host_told host certificate refused.refusal refused.cause refused.line)
  recheck_refused host certificate extension (inr (inr (r, is, report))) = inr (
    r,
    first_is host certificate (λ contents text. IsRecheckedHost operations contents text r) (λ contents. IsHostText operations contents r)
        (λ contents text. host_text operations contents text r) is,
    rest_refused r extension report,
  )
