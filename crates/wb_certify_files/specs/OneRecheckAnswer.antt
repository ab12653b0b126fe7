-- That contents and the text of a certificate have one answer: what is certified by the text, or a refusal of one sort.
use Rattle.std.specs.Prelude.{◌≡◌, ℕ, List}
use Rattle.wb_certify_files.specs.declared.extension_refusal.FileRefusal.TheVariants as f
use Rattle.wb_operations.specs.Operations.{OperationSignature}
use Rattle.wb_report.specs.declared.certificate_reason.CertificateReason.TheVariants as q
use Rattle.wb_syntax_resolved.specs.declared.resolved.ResolvedParts.{ResolvedParts}
use Rattle.wb_certify_files.specs.RecheckedExtensions.{IsRecheckedExtension, IsRefusedExtension}
use Rattle.wb_certify_files.specs.RecheckedHosts.{IsRecheckedHost, IsRefusedHost}
use Rattle.wb_certify_files.specs.RecheckRefusals.{IsMemory}
use Rattle.wb_certify_files.specs.declared.contents_refusal.ContentsRefusal.{ContentsRefusal}
use Rattle.wb_certify_files.specs.declared.contents_refusal.ContentsRefusal.TheVariants as k

-- what of a refusal isn't left open: by which sort of rules it is, and which host is named; or that it is of the text, with the place or
-- the line
pub data Sort : Type 0 where
  -- what is written, names and kinds
  of_specification : Sort
  -- the contents are for this other host
  for_host : List ℕ → Sort
  -- grammars, scanners and attributes
  of_certification : Sort
  -- the text goes wrong here
  at_place : ℕ → Sort
  -- this line of the text isn't right
  on_line : ℕ → Sort
  -- something isn't listed
  is_missing : Sort
  -- the text is too long
  too_long : Sort
  -- memory ran out
  out_of_memory : Sort

-- the sort of a refusal
abbrev pub sort_of : ContentsRefusal → Sort
sort_of (k.File (f.Specification shown)) = of_specification
sort_of (k.File (f.WrongHost name)) = for_host name
sort_of (k.File (f.Certification shown)) = of_certification
sort_of (k.File (f.NoMemory error)) = out_of_memory
sort_of (k.Certificate (q.Syntax place)) = at_place place
sort_of (k.Certificate (q.WrongLine number)) = on_line number
sort_of (k.Certificate (q.Missing kernel)) = is_missing
sort_of (k.Certificate q.TooLong) = too_long

-- there is one value at most; where there is one no refusal is true, except when memory runs out; and true refusals are of one sort
pub record HaveOneAnswer (Is : ResolvedParts → Type 0) (IsRefused : ContentsRefusal → Type 0) : Type 0 where
  pub one : (r s : ResolvedParts) → Is r → Is s → r ≡ s
  pub excluded : (r : ResolvedParts) → Is r → (refusal : ContentsRefusal) → IsRefused refusal → IsMemory refusal
  pub sorts : (x y : ContentsRefusal) → IsRefused x → IsRefused y → ¬ IsMemory x → ¬ IsMemory y → sort_of x ≡ sort_of y

-- contents and a text have one answer as a host
abbrev pub HaveOneHostAnswer : List OperationSignature → (contents text : List ℕ) → Type 0
HaveOneHostAnswer operations contents text =
    HaveOneAnswer (IsRecheckedHost operations contents text) (IsRefusedHost operations contents text)

-- and one as an extension of a host
abbrev pub HaveOneExtensionAnswer : (host : ResolvedParts) → List OperationSignature → (contents text : List ℕ) → Type 0
HaveOneExtensionAnswer host operations contents text =
    HaveOneAnswer (IsRecheckedExtension host operations contents text) (IsRefusedExtension host operations contents text)
