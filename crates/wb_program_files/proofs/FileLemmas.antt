-- What is made of the file of a host, and of a text, is the report of their checks.
use Rattle.std.proofs.Common.{◌≡◌, ◌<◌, inl, inr, ℕ, List, Option, Some, None, Result, Ok, Err, IfOk, IfErr, length, subst, sym, refl}
use Rattle.std.specs.Result.{IsErrAnd}
use Rattle.wb_certify_files.specs.HostContents.{IsHostRefusal}
use Rattle.wb_certify_files.specs.WellDefined.{IsWellDefinedTextRefusal}
use Rattle.wb_certify_files.specs.declared.host_refusal.HostRefusal.{HostRefusal}
use Rattle.wb_certify_files.specs.declared.host_refusal.HostRefusal.TheVariants as h
use Rattle.wb_operations.specs.Operations.{OperationSignature}
use Rattle.wb_reader.specs.declared.refusal.SpecRefusal.TheVariants as s
use Rattle.wb_report.specs.declared.refusal.Refusal.TheVariants as r
use Rattle.wb_report.specs.declared.spec_reason.SpecReason.TheVariants as t
use Rattle.wb_syntax_resolved.specs.declared.resolved.ResolvedParts.{ResolvedParts}
use Rattle.wb_world.specs.Shelf.{Files}
use Rattle.wb_program_files.specs.Checks.{Report, Check}
use Rattle.wb_program_files.specs.HostChecks.{HostChecks, RefusesHost}
use Rattle.wb_program_files.specs.Inner.Hosts.{RefusedHost}
use Rattle.wb_program_files.specs.Files.{FileIs, KnownFile}
use Rattle.wb_program_files.specs.Texts.{IsText, IsTooLongText}
use Rattle.wb_program_files.specs.Contents.{ReadText, ContentsAre, KnownIs, ReadIs}
use Rattle.wb_program_files.specs.declared.answer.Answer.{Answer}
use Rattle.wb_program_files.specs.declared.files.Contents.{Contents}
use Rattle.wb_program_files.specs.declared.files.Contents.TheVariants.{Whole, TooLong}
use Rattle.wb_program_files.specs.declared.status.Status.{Status}
use Rattle.wb_program_files.specs.declared.status.Status.TheVariants.{TextTooLong}

-- what holds of a file holds of it more weakly
weaker_file : (file : Option (List ℕ)) (P Q : List ℕ → Type 0) → ((contents : List ℕ) → P contents → Q contents) → FileIs file P
    → FileIs file Q
weaker_file None P Q weaker is = is
weaker_file (Some contents) P Q weaker is = weaker contents is

pub weaker_known : (known : Option Files) (name : List ℕ) (P Q : List ℕ → Type 0) → ((contents : List ℕ) → P contents → Q contents)
    → KnownFile known name P → KnownFile known name Q
weaker_known None name P Q weaker is = tt
weaker_known (Some files) name P Q weaker is = weaker_file (files name) P Q weaker is

-- what holds of the contents holds of the file
pub known_is : (known : Option Files) (name bytes : List ℕ) (P : List ℕ → Type 0) → KnownIs known name bytes → P bytes
    → KnownFile known name P
known_is None name bytes P is holds = tt
known_is (Some files) name bytes P is holds = subst (λ (file : Option (List ℕ)). FileIs file P) (sym is) holds

-- what was read meets this, and so the file does
pub read_is : (known : Option Files) (name : List ℕ) (contents : Contents) (P : List ℕ → Type 0) → ContentsAre 1048576 known name contents
    → ReadIs contents P → KnownFile known name P
read_is known name (Whole bytes) P are is = known_is known name bytes.items P are.0 is
read_is known name TooLong P are is = weaker_known known name (λ contents. 1048576 < length contents) P is are

-- a text that is too long is refused for that
pub too_long_refused : (operations : List OperationSignature) (contents : List ℕ) → 1048576 < length contents
    → IsHostRefusal operations contents (h.Specification (r.Specification t.TooLong))
too_long_refused operations contents long = inl (record { refusal = s.TooLong; cause = long; shows = refl })

pub too_long_ill_defined : (operations : List OperationSignature) (contents : List ℕ) → 1048576 < length contents
    → IsWellDefinedTextRefusal operations contents (h.Specification (r.Specification t.TooLong))
too_long_ill_defined operations contents long = inl (record { refusal = s.TooLong; cause = long; shows = refl })

-- a refused host ends the run by its refusal
pub refuses_host : (IsRefused : List ℕ → HostRefusal → Type 0) (known : Option Files) (file : List ℕ) (refusal : HostRefusal)
    (status : Status) (bytes : List ℕ) → KnownFile known file (λ contents. IsRefused contents refusal)
    → RefusedHost file refusal status bytes → RefusesHost IsRefused known file status bytes
refuses_host IsRefused known file (h.Specification shown) status bytes cause (ends, line) =
    inl (ends, record { shown = shown; cause = cause; line = line })
refuses_host IsRefused known file (h.Certification shown) status bytes cause (ends, line) =
    inr (ends, record { shown = shown; cause = cause; line = line })
refuses_host IsRefused known file (h.NoMemory error) status bytes cause none_shown = absurd none_shown

-- so is what was asked of it, where it is answered
pub kept_ok : {X E F : Type 0} (read : Result X E) (made : Result X F) (P : X → Type 0) → IfOk made (λ x. read ≡ Ok x) → IfOk read P
    → IfOk made P
kept_ok {X} {E} read (Ok x) P same is = subst (λ (z : Result X E). IfOk z P) same is
kept_ok read (Err e) P same is = tt

pub kept_refused : {X Y : Type 0} (IsRefused : List ℕ → HostRefusal → Type 0) (known : Option Files) (file word : List ℕ)
    (read : Result X HostRefusal) (made : Result Y Answer) → word ≡ file
    → IfErr read (λ refusal. KnownFile known file (λ contents. IsRefused contents refusal))
    → IfErr made (λ answer. IsErrAnd read (λ refusal. RefusedHost word refusal answer.status answer.report.items))
    → IfErr made (λ answer. RefusesHost IsRefused known file answer.status answer.report.items)
kept_refused IsRefused known file word read (Ok x) same cause shown = tt
kept_refused IsRefused known file word (Ok x) (Err answer) same cause shown = absurd shown
kept_refused IsRefused known file word (Err refusal) (Err answer) same cause shown =
    refuses_host IsRefused known file refusal answer.status answer.report.items cause
    (subst (λ (name : List ℕ). RefusedHost name refusal answer.status answer.report.items) same shown)

-- and that is its report
pub refused_checks : (IsHost : List ℕ → ResolvedParts → Type 0) (IsRefused : List ℕ → HostRefusal → Type 0) (known : Option Files)
    (file : List ℕ) (rest : ResolvedParts → Report) (status : Status) (bytes : List ℕ) → RefusesHost IsRefused known file status bytes
    → HostChecks IsHost IsRefused known file rest status bytes
refused_checks IsHost IsRefused known file rest status bytes (inl is) = inl is
refused_checks IsHost IsRefused known file rest status bytes (inr is) = inr (inl is)

-- the report of what was read is that of the file
pub text_checks : (known : Option Files) (file : List ℕ) (rest : List ℕ → Report) (contents : Contents) (status : Status) (bytes : List ℕ)
    → ContentsAre 1048576 known file contents → ReadText rest contents status bytes
    → Check TextTooLong (IsTooLongText known file) (IsText known file) rest status bytes
text_checks known file rest (Whole text) status bytes are report =
    inr (text.items, (known_is known file text.items (λ contents. contents ≡ text.items) are.0 refl, are.1), report)
text_checks known file rest TooLong status bytes are (ends, line) = inl (ends, record { long = are; line = line })
