-- What is known of a specification as a host, from what is known of the value that it stands for.
use Rattle.std.proofs.Common.{Result, Ok, Err, IfOk, IfErr, List}
use Rattle.wb_names.specs.Resolving.{ResolvesHost}
use Rattle.wb_operations.specs.Operations.{OperationSignature}
use Rattle.wb_syntax_resolved.specs.declared.resolved.ResolvedParts.{ResolvedParts}
use Rattle.wb_syntax.specs.SpecText.{HasText, SpecView}
use Rattle.wb_certify_host.specs.Hosts.{IsCertifiedHost, IsCertifiedValue, IsOfText}
use Rattle.wb_certify_host.specs.Refusals.{IsHostCertifyRefusal, IsValueRefusal}
use Rattle.wb_certify_host.specs.declared.refusal.CertifyRefusal.{CertifyRefusal}
use Rattle.wb_certify_host.specs.declared.refusal.CertifyRefusal.TheVariants as c

-- it is the value of a text
pub of_written : (spec : SpecView) (r : ResolvedParts) → ResolvesHost spec r → HasText spec → IsOfText r
of_written spec r names (bytes, below, text) = record { spec = spec; written = (bytes, text); names = names }

module _ (spec : SpecView) (r : ResolvedParts) (operations : List OperationSignature) (names : ResolvesHost spec r) where
  -- it is certified where its value is
  pub certified_host : {X : Type 0} (result : Result X CertifyRefusal) → IfOk result (λ host. IsCertifiedValue r operations)
      → IfOk result (λ host. IsCertifiedHost spec operations)
  certified_host (Ok host) is = record { resolved = r; names = names; certified = is }
  certified_host (Err refusal) is = tt

  -- a refusal of its value is one of the specification
  of_value : (refusal : CertifyRefusal) → IsValueRefusal r operations refusal → IsHostCertifyRefusal spec operations refusal
  of_value (c.Names refusal) reason = absurd reason
  of_value (c.Types refusal) reason = record { resolved = r; names = names; reason = reason }
  of_value c.NoStart reason = record { resolved = r; names = names; reason = reason }
  of_value (c.Determinism refusal) reason = record { resolved = r; names = names; reason = reason }
  of_value (c.Attributes refusal) reason = record { resolved = r; names = names; reason = reason }
  of_value (c.NoMemory error) reason = tt

  pub host_refused : {X : Type 0} (result : Result X CertifyRefusal) → IfErr result (IsValueRefusal r operations)
      → IfErr result (IsHostCertifyRefusal spec operations)
  host_refused (Ok host) reason = tt
  host_refused (Err refusal) reason = of_value refusal reason
