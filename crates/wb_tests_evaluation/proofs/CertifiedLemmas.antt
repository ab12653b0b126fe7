-- What a certified host says of its attributes.
use Rattle.std.proofs.Common.{◌≡◌, List, subst, sym}
use Rattle.wb_flow_theory.specs.Modular.{EachProduction}
use Rattle.wb_flow_theory.specs.WellDefined.{IsWellDefinedProduction}
use Rattle.wb_certify_host.specs.Hosts.{IsCertifiedValue}
use Rattle.wb_operations.specs.Operations.{OperationSignature}
use Rattle.wb_syntax_resolved.specs.declared.resolved.ResolvedParts.{ResolvedParts}
use Rattle.wb_types.specs.Rules.{KindsOk}

-- productions are well defined, and kinds hold over operations of these signatures
abbrev pub Certified : ResolvedParts → List OperationSignature → Type 0
Certified r signatures = EachProduction r.attributes (IsWellDefinedProduction r.attributes) × KindsOk r.attributes signatures

-- so they are where the host is certified, however often its parts are read
pub certified_read : (r s t : ResolvedParts) (operations signatures : List OperationSignature) → s ≡ r → t ≡ s → operations ≡ signatures
    → IsCertifiedValue r operations → Certified t signatures
certified_read r s t operations signatures first second same is =
    subst (λ z. Certified z signatures) (sym second) (subst (λ z. Certified z signatures) (sym first)
    (subst (Certified r) same (is.attributes.productions, is.kinds)))
