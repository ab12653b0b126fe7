-- When the contents of a file are a host that is certified by the text of a certificate, and what a report shows where they aren't.
use Rattle.std.specs.Prelude.{◌⊎◌, ℕ, List}
use Rattle.wb_certify_files.specs.HostContents.{HasBadNames, IsBadText, StandsFor}
use Rattle.wb_recheck.specs.Hosts.{IsCertifiedValue}
use Rattle.wb_certify_shown.specs.Shows.{refusal_shown}
use Rattle.wb_operations.specs.Operations.{OperationSignature}
use Rattle.wb_recheck.specs.Certificates.{IsCertificateOfHost}
use Rattle.wb_recheck.specs.HostRefusals.{IsNoHostCertificate, IsValueRecheckRefusal}
use Rattle.wb_recheck.specs.declared.refusal.RecheckRefusal.TheVariants as r
use Rattle.wb_report.specs.declared.refusal.Refusal.{Refusal}
use Rattle.wb_syntax_resolved.specs.declared.resolved.ResolvedParts.{ResolvedParts}
use Rattle.wb_certify_files.specs.RecheckRefusals.{IsTrueRefusal}
use Rattle.wb_certify_files.specs.declared.contents_refusal.ContentsRefusal.{ContentsRefusal}

-- the contents are a certified host over operations of these signatures and stand for this value, and the text is a certificate of it
pub record IsRecheckedHost (operations : List OperationSignature) (contents text : List ℕ) (r : ResolvedParts) : Type 0 where
  pub stands : StandsFor contents r
  pub certified : IsCertifiedValue r operations
  pub certificate : IsCertificateOfHost r text

-- the contents aren't a specification, or their names aren't right, and that is shown so
abbrev pub IsNoHost : List ℕ → Refusal → Type 0
IsNoHost contents shown = IsBadText contents shown ⊎ HasBadNames contents shown

-- what the report shows of contents that aren't a host certified by the text: the first rule that fails where it comes before the conflict,
-- then why the text is no certificate, then the first rule that fails from the conflict on
abbrev pub IsRefusedHost : List OperationSignature → (contents text : List ℕ) → ContentsRefusal → Type 0
IsRefusedHost operations contents text =
    IsTrueRefusal (StandsFor contents) (λ value refusal. IsValueRecheckRefusal value operations text (r.Certify refusal))
    (λ value. IsNoHostCertificate value operations text) refusal_shown (IsNoHost contents) (λ name. ⊥)
