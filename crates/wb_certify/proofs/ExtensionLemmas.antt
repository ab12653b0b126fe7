-- What is known of a specification as an extension, from what is known of the value that it stands for with its host.
use Rattle.std.proofs.Common.{Result, Ok, Err, IfOk, IfErr, List}
use Rattle.wb_certify_host.specs.Hosts.{IsCertifiedValue}
use Rattle.wb_certify_host.specs.declared.refusal.CertifyRefusal.{CertifyRefusal}
use Rattle.wb_certify_host.specs.declared.refusal.CertifyRefusal.TheVariants as c
use Rattle.wb_certify_host.specs.Resolving.{ResolvesExtension}
use Rattle.wb_operations.specs.Operations.{OperationSignature}
use Rattle.wb_syntax_resolved.specs.declared.resolved.ResolvedParts.{ResolvedParts}
use Rattle.wb_syntax.specs.SpecText.{HasText, SpecView}
use Rattle.wb_certify.specs.Extensions.{IsCertifiedBeside, IsCertifiedExtension}
use Rattle.wb_certify.specs.Kept.{Extends}
use Rattle.wb_certify.specs.Refusals.{IsBesideRefusal, IsExtensionCertifyRefusal}

-- it is the value of a text
pub of_written : (host : ResolvedParts) (spec : SpecView) (r : ResolvedParts) → ResolvesExtension host spec r → HasText spec
    → Extends host r
of_written host spec r names (bytes, below, text) = record { spec = spec; written = (bytes, text); names = names }

module _ (host : ResolvedParts) (spec : SpecView) (r : ResolvedParts) (operations : List OperationSignature)
    (names : ResolvesExtension host spec r) where
  -- it is certified where its value is
  pub certified_extension : {X : Type 0} (result : Result X CertifyRefusal) → IsCertifiedValue host operations
      → IfOk result (λ extension. IsCertifiedBeside host r operations)
      → IfOk result (λ extension. IsCertifiedExtension host spec operations)
  certified_extension (Ok extension) host_certified is = record {
    host_certified = host_certified;
    resolved = r;
    names = names;
    certified = is;
  }
  certified_extension (Err refusal) host_certified is = tt

  -- a refusal of its value is one of the specification
  of_value : (refusal : CertifyRefusal) → IsBesideRefusal host r operations refusal → IsExtensionCertifyRefusal host spec operations refusal
  of_value (c.Names refusal) reason = absurd reason
  of_value (c.Types refusal) reason = record { resolved = r; names = names; reason = reason }
  of_value c.NoStart reason = absurd reason
  of_value (c.Determinism refusal) reason = record { resolved = r; names = names; reason = reason }
  of_value (c.Attributes refusal) reason = record { resolved = r; names = names; reason = reason }
  of_value (c.NoMemory error) reason = tt

  pub extension_refused : {X : Type 0} (result : Result X CertifyRefusal) → IfErr result (IsBesideRefusal host r operations)
      → IfErr result (IsExtensionCertifyRefusal host spec operations)
  extension_refused (Ok extension) reason = tt
  extension_refused (Err refusal) reason = of_value refusal reason
