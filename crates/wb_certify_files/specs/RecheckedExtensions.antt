-- When the contents of a file are an extension that is certified with its host by the text of a certificate, and what a report shows where
-- they aren't.
use Rattle.std.specs.Prelude.{◌⊎◌, ℕ, List}
use Rattle.wb_recheck.specs.Extensions.{IsCertifiedBeside, IsOneExtension}
use Rattle.wb_certify_files.specs.ExtensionContents.{HasBadNames, IsBadText, NamesOtherHost, StandsFor}
use Rattle.wb_certify_shown.specs.Extensions.{extension_refusal_shown}
use Rattle.wb_operations.specs.Operations.{OperationSignature}
use Rattle.wb_recheck.specs.Certificates.{IsCertificateOfExtension}
use Rattle.wb_recheck.specs.ExtensionRefusals.{IsBesideRecheckRefusal, IsNoExtensionCertificate}
use Rattle.wb_recheck.specs.declared.refusal.RecheckRefusal.TheVariants as r
use Rattle.wb_report.specs.declared.refusal.Refusal.{Refusal}
use Rattle.wb_syntax_resolved.specs.declared.resolved.ResolvedParts.{ResolvedParts}
use Rattle.wb_certify_files.specs.RecheckRefusals.{IsTrueRefusal}
use Rattle.wb_certify_files.specs.declared.contents_refusal.ContentsRefusal.{ContentsRefusal}

module _ (host : ResolvedParts) where
  -- the contents are an extension that is certified beside the host over operations of these signatures and stand with the host for this
  -- value, and the text is a certificate of it
  pub record IsRecheckedExtension (operations : List OperationSignature) (contents text : List ℕ) (r : ResolvedParts) : Type 0 where
    pub stands : StandsFor host contents r
    pub certified : IsCertifiedBeside host r operations
    pub certificate : IsCertificateOfExtension r text

  -- they are such an extension, and this is its name
  pub record IsRecheckedNamed (operations : List OperationSignature) (contents text name : List ℕ) : Type 0 where
    pub value : ResolvedParts
    pub is : IsRecheckedExtension operations contents text value
    pub named : IsOneExtension value name

  -- the contents aren't a specification, or their names aren't right as those of an extension of the host, and that is shown so
  abbrev pub IsNoExtension : List ℕ → Refusal → Type 0
  IsNoExtension contents shown = IsBadText contents shown ⊎ HasBadNames host contents shown

  -- what the report shows of contents that aren't an extension certified with the host by the text: the first rule that fails where it
  -- comes before the conflict, then why the text is no certificate, then the first rule that fails from the conflict on
  abbrev pub IsRefusedExtension : List OperationSignature → (contents text : List ℕ) → ContentsRefusal → Type 0
  IsRefusedExtension operations contents text =
      IsTrueRefusal (StandsFor host contents) (λ value refusal. IsBesideRecheckRefusal host value operations text (r.Certify refusal))
      (λ value. IsNoExtensionCertificate value operations text) extension_refusal_shown (IsNoExtension contents)
      (NamesOtherHost host contents)
