-- Contents that stand for no value are no host.
use Rattle.std.proofs.Common.{inl, inr, List, ℕ}
use Rattle.wb_operations.specs.Operations.{OperationSignature}
use Rattle.wb_certify_files.specs.HostContents.{IsHostRefusal}
use Rattle.wb_certify_files.specs.WellDefined.{IsWellDefinedTextRefusal}
use Rattle.wb_certify_files.specs.declared.host_refusal.HostRefusal.{HostRefusal}
use Rattle.wb_certify_files.specs.declared.host_refusal.HostRefusal.TheVariants as h
use Rattle.wb_certify_files.specs.Unresolved.{IsUnresolved}

-- no certified one
pub host_unresolved : (operations : List OperationSignature) (contents : List ℕ) (refusal : HostRefusal) → IsUnresolved contents refusal
    → IsHostRefusal operations contents refusal
host_unresolved operations contents (h.Specification shown) (inl bad) = inl bad
host_unresolved operations contents (h.Specification shown) (inr bad) = inr (inl bad)
host_unresolved operations contents (h.Certification shown) is = absurd is
host_unresolved operations contents (h.NoMemory error) is = tt

-- and none whose attributes are well defined
pub well_defined_unresolved : (operations : List OperationSignature) (contents : List ℕ) (refusal : HostRefusal)
    → IsUnresolved contents refusal → IsWellDefinedTextRefusal operations contents refusal
well_defined_unresolved operations contents (h.Specification shown) (inl bad) = inl bad
well_defined_unresolved operations contents (h.Specification shown) (inr bad) = inr (inl bad)
well_defined_unresolved operations contents (h.Certification shown) is = absurd is
well_defined_unresolved operations contents (h.NoMemory error) is = tt
