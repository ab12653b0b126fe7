-- What is made of the files of extensions, in their order, is their report; and a run that stops at one of them has its cause.
use Rattle.std.proofs.Common.{String, Global, string_bytes, ◌≡◌, ◌<◌, ◌≤◌, ◌+◌, ◌++◌, inl, inr, ℕ, List, [], ◌∷◌, Option, length, map, drop}
use Rattle.std.proofs.Common.{subst, sym, refl}
use Rattle.std.proofs.lemmas.List.{length-map}
use Rattle.wb_certify_files.specs.ExtensionContents.{IsExtensionText, IsExtensionRefusal}
use Rattle.wb_certify_files.specs.declared.extension_refusal.FileRefusal.{FileRefusal}
use Rattle.wb_certify_files.specs.declared.extension_refusal.FileRefusal.TheVariants as f
use Rattle.wb_certify_files.specs.HostContents.{IsHostText, IsHostRefusal}
use Rattle.wb_certify_files.specs.Extensions.{IsOneExtension}
use Rattle.wb_operations.specs.Operations.{OperationSignature}
use Rattle.wb_reader.specs.declared.refusal.SpecRefusal.TheVariants as s
use Rattle.wb_report.specs.Lines.{report_of}
use Rattle.wb_report.specs.declared.done.Done.TheVariants as done
use Rattle.wb_report.specs.declared.outcome.Outcome.TheVariants as o
use Rattle.wb_report.specs.declared.refusal.Refusal.TheVariants as r
use Rattle.wb_report.specs.declared.spec_reason.SpecReason.TheVariants as t
use Rattle.wb_syntax_resolved.specs.declared.resolved.ResolvedParts.{ResolvedParts}
use Rattle.wb_world.specs.Shelf.{Files}
use Rattle.wb_program_words.specs.Asked.{texts}
use Rattle.wb_program_files.specs.Stops.{Read, file_of, certified_extension, Passes, StopsAt}
use Rattle.wb_program_files.specs.Files.{KnownFile}
use Rattle.wb_program_files.specs.ExtensionChecks.{RefusedExtension}
use Rattle.wb_program_files.specs.HostChecks.{IsHostFile, RefusesHost}
use Rattle.wb_program_files.specs.Stopped.{Outside, Stopped}
use Rattle.wb_program_files.specs.declared.files.ReadFailure.{ReadFailure}
use Rattle.wb_program_files.specs.declared.files.ReadFailure.TheVariants.{Absent, ReadFault, NoMemory}
use Rattle.wb_program_files.specs.declared.status.Status.{Status}
use Rattle.wb_program_files.specs.declared.status.Status.TheVariants.{Done, TooManyExtensions}
use Rattle.wb_program_files.proofs.StopLemmas.{stops_first}
use Rattle.wb_program_files.proofs.FileLemmas.{refused_checks}
use Rattle.wb_program_files.specs.Commands.Certify.{CertifyReport, ExtensionsReport, IsExtensionNamed, CertifyStops}
use Rattle.wb_program_files.specs.Inner.Extensions.{EndsAtExtension, LeadsTo, StopsFrom}

-- a text that is too long is refused for that
pub too_long_extension : (host : ResolvedParts) (operations : List OperationSignature) (contents : List ℕ) → 1048576 < length contents
    → IsExtensionRefusal host operations contents (f.Specification (r.Specification t.TooLong))
too_long_extension host operations contents long = inl (record { refusal = s.TooLong; cause = long; shows = refl })

-- a refused extension has the report of its refusal
pub refused_ends : (operations : List OperationSignature) (known : Option Files) (host : ResolvedParts) (file : List ℕ)
    (refusal : FileRefusal) (status : Status) (bytes : List ℕ)
    → KnownFile known file (λ contents. IsExtensionRefusal host operations contents refusal) → RefusedExtension file refusal status bytes
    → EndsAtExtension operations known host file status bytes
refused_ends operations known host file (f.Specification shown) status bytes cause (ends, line) files names =
    inl (ends, record { shown = shown; cause = cause; line = line })
refused_ends operations known host file (f.WrongHost name) status bytes cause (ends, line) files names =
    inr (inl (ends, record { name = name; cause = cause; line = line }))
refused_ends operations known host file (f.Certification shown) status bytes cause (ends, line) files names =
    inr (inr (inl (ends, record { shown = shown; cause = cause; line = line })))
refused_ends operations known host file (f.NoMemory error) status bytes cause none_shown files names = absurd none_shown

-- a certified extension has its name
pub is_named : (operations : List OperationSignature) (known : Option Files) (host : ResolvedParts) (file name : List ℕ)
    (value : ResolvedParts) → KnownFile known file (λ contents. IsExtensionText host operations contents value)
    → IsOneExtension value name → IsExtensionNamed operations known host file name
is_named operations known host file name value is named = record { value = value; contents = is; named = named }

module _ (operations : List OperationSignature) (known : Option Files) (host : ResolvedParts) (files : List (List ℕ)) where
  -- before the first extension
  pub leads_first : LeadsTo operations known host files 0 []
  leads_first status bytes report = report

  -- after a certified one
  pub leads_on : (at : ℕ) (file name : List ℕ) (names : List (List ℕ)) → drop at files ≡ file ∷ drop (at + 1) files
      → IsExtensionNamed operations known host file name → LeadsTo operations known host files at names
      → LeadsTo operations known host files (at + 1) (names ++ name ∷ [])
  leads_on at file name names here is leads status bytes report =
      leads status bytes (subst (λ (left : List (List ℕ)). ExtensionsReport operations known host left names status bytes) (sym here)
      (inr (inr (inr (name, is, report)))))

  -- at one that is refused
  pub leads_refused : (at : ℕ) (file : List ℕ) (names : List (List ℕ)) (status : Status) (bytes : List ℕ)
      → drop at files ≡ file ∷ drop (at + 1) files → EndsAtExtension operations known host file status bytes
      → LeadsTo operations known host files at names → ExtensionsReport operations known host files [] status bytes
  leads_refused at file names status bytes here ends leads =
      leads status bytes (subst (λ (left : List (List ℕ)). ExtensionsReport operations known host left names status bytes) (sym here)
      (ends (drop (at + 1) files) names))

  -- after the last one
  pub leads_last : (at : ℕ) (names : List (List ℕ)) (status : Status) (bytes : List ℕ) → drop at files ≡ [] → status ≡ Done
      → bytes ≡ report_of (o.Done (done.Certified host.host names)) → LeadsTo operations known host files at names
      → ExtensionsReport operations known host files [] status bytes
  leads_last at names status bytes none_left ends line leads =
      leads status bytes (subst (λ (left : List (List ℕ)). ExtensionsReport operations known host left names status bytes) (sym none_left)
      (ends, line))

-- a run that stops after a file that passes
passes_on : (operations : List OperationSignature) (before now : Outside) (read : Read) (reads : List Read) (failure : ReadFailure)
    → Passes operations before.files read → Stopped before now (λ P. StopsAt operations before.files P reads) failure
    → Stopped before now (λ P. StopsAt operations before.files P (read ∷ reads)) failure
passes_on operations before now read reads Absent passes stopped = inr (passes, stopped)
passes_on operations before now read reads ReadFault passes stopped = inr (passes, stopped)
passes_on operations before now read reads NoMemory passes stopped = tt

-- a run that stops for a reason of each place
every_place : (before now : Outside) (IsPlace : List ℕ → Type 0) (C : List ℕ → (List ℕ → Type 0) → Type 0) (failure : ReadFailure)
    → ((place : List ℕ) → IsPlace place → Stopped before now (C place) failure)
    → Stopped before now (λ P. (place : List ℕ) → IsPlace place → C place P) failure
every_place before now IsPlace C Absent stopped = stopped
every_place before now IsPlace C ReadFault stopped = stopped
every_place before now IsPlace C NoMemory stopped = tt

module _ (operations : List OperationSignature) (before : Outside) (host : ResolvedParts) (files : List (List ℕ)) where
  -- before the first extension
  pub stops_from_first : StopsFrom operations before.files host files before 0
  stops_from_first place is now failure stopped = stopped

  -- after a certified one
  pub stops_on : (at : ℕ) (file name : List ℕ) → drop at files ≡ file ∷ drop (at + 1) files
      → IsExtensionNamed operations before.files host file name → StopsFrom operations before.files host files before at
      → StopsFrom operations before.files host files before (at + 1)
  stops_on at file name here is from place is_host now failure stopped =
      from place is_host now failure
      (subst (λ (left : List (List ℕ)). Stopped before now
      (λ P. StopsAt operations before.files P (map (certified_extension place) left)) failure) (sym here)
      (passes_on operations before now (certified_extension place file) (map (certified_extension place) (drop (at + 1) files)) failure
      (record { beside = host; is_host = is_host; value = is.value; is_extension = is.contents }) stopped))

  -- at one of them
  pub stops_here : (at : ℕ) (file : List ℕ) (now : Outside) (failure : ReadFailure) → drop at files ≡ file ∷ drop (at + 1) files
      → StopsFrom operations before.files host files before at → Stopped before now (λ P. P file) failure
      → Stopped before now (λ P. (place : List ℕ) → KnownFile before.files place (λ contents. IsHostText operations contents host)
      → StopsAt operations before.files P (map (certified_extension place) files)) failure
  stops_here at file now failure here from stopped =
      every_place before now (λ place. KnownFile before.files place (λ contents. IsHostText operations contents host))
      (λ place P. StopsAt operations before.files P (map (certified_extension place) files)) failure
      (λ place is_host. from place is_host now failure
      (subst (λ (left : List (List ℕ)). Stopped before now
      (λ P. StopsAt operations before.files P (map (certified_extension place) left)) failure) (sym here)
      (stops_first operations before now (certified_extension place file) file (map (certified_extension place) (drop (at + 1) files))
      failure (λ P is. inl is) stopped)))

-- a list of files in which one meets this later has one that meets what is weaker at first
pub stops_at_since : (operations : List OperationSignature) (known later : Option Files) (P Q : List ℕ → Type 0) (reads : List Read)
    → later ≡ known → ((file : List ℕ) → P file → Q file) → StopsAt operations later P reads → StopsAt operations known Q reads
stops_at_since operations known later P Q [] same since stops = stops
stops_at_since operations known later P Q (read ∷ reads) same since (inl here) = inl (since (file_of read) here)
stops_at_since operations known later P Q (read ∷ reads) same since (inr (passes, stops)) =
    inr (
      subst (λ (files : Option Files). Passes operations files read) same passes,
      stops_at_since operations known later P Q reads same since stops,
    )

-- a run of `certify` that stops at its host
pub certify_stops_first : (operations : List OperationSignature) (before now : Outside) (host : List ℕ) (extensions : List (List ℕ))
    (failure : ReadFailure) → length extensions ≤ 64 → Stopped before now (λ P. P host) failure
    → Stopped before now (CertifyStops operations before.files host extensions) failure
certify_stops_first operations before now host extensions Absent few stopped = (few, inl stopped)
certify_stops_first operations before now host extensions ReadFault few stopped = (few, inl stopped)
certify_stops_first operations before now host extensions NoMemory few stopped = tt

-- `certify` of too many extensions
pub certify_too_many : (operations : List OperationSignature) (known : Option Files) (host : List ℕ) (words : List (String Global))
    (status : Status) (bytes : List ℕ) → 64 < length words → status ≡ TooManyExtensions → bytes ≡ report_of o.TooManyExtensions
    → CertifyReport operations known host (texts words) status bytes
certify_too_many operations known host words status bytes many ends line =
    inl (ends, record { many = subst (λ (n : ℕ). 64 < n) (sym (length-map words string_bytes)) many; line = line })

-- `certify` of a file that is no certified host
pub certify_refused : (operations : List OperationSignature) (known : Option Files) (host : List ℕ) (extensions : List (List ℕ))
    (status : Status) (bytes : List ℕ) → length extensions ≤ 64 → RefusesHost (IsHostRefusal operations) known host status bytes
    → CertifyReport operations known host extensions status bytes
certify_refused operations known host extensions status bytes few refused =
    inr (
      few,
      refused_checks (IsHostText operations) (IsHostRefusal operations) known host
          (λ r. ExtensionsReport operations known r extensions []) status bytes refused,
    )

-- `certify` of a certified host
pub certify_certified : (operations : List OperationSignature) (known : Option Files) (host : List ℕ) (extensions : List (List ℕ))
    (value : ResolvedParts) (status : Status) (bytes : List ℕ) → length extensions ≤ 64 → IsHostFile operations known host value
    → ExtensionsReport operations known value extensions [] status bytes → CertifyReport operations known host extensions status bytes
certify_certified operations known host extensions value status bytes few is report = inr (few, (inr (inr (value, is.contents, report))))
