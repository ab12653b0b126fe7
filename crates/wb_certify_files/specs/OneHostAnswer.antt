-- That contents have one answer: a certified host, or a refusal of one sort; and likewise a host with well-defined attributes.
use Rattle.std.specs.Prelude.{◌≡◌, List, ℕ}
use Rattle.wb_operations.specs.Operations.{OperationSignature}
use Rattle.wb_report.specs.declared.refusal.Refusal.{Refusal}
use Rattle.wb_syntax_resolved.specs.declared.resolved.ResolvedParts.{ResolvedParts}
use Rattle.wb_certify_files.specs.HostContents.{IsHostText, IsHostRefusal}
use Rattle.wb_certify_files.specs.WellDefined.{IsWellDefinedText, IsWellDefinedTextRefusal}
use Rattle.wb_certify_files.specs.declared.host_refusal.HostRefusal.TheVariants as h

-- contents are a certified host of one value at most; they are none where they are refused; and a refusal is of one sort
pub record HaveOneHostAnswer (operations : List OperationSignature) (contents : List ℕ) : Type 0 where
  pub one : (r s : ResolvedParts) → IsHostText operations contents r → IsHostText operations contents s → r ≡ s
  pub no_specification : (r : ResolvedParts) (shown : Refusal) → IsHostText operations contents r
      → ¬ IsHostRefusal operations contents (h.Specification shown)
  pub no_certification : (r : ResolvedParts) (shown : Refusal) → IsHostText operations contents r
      → ¬ IsHostRefusal operations contents (h.Certification shown)
  pub one_sort : (shown other : Refusal) → IsHostRefusal operations contents (h.Specification shown)
      → ¬ IsHostRefusal operations contents (h.Certification other)

-- contents are one host with well-defined attributes at most; they are none where they are refused; and a refusal is of one sort
pub record HaveOneWellDefined (operations : List OperationSignature) (contents : List ℕ) : Type 0 where
  pub one : (r s : ResolvedParts) → IsWellDefinedText operations contents r → IsWellDefinedText operations contents s → r ≡ s
  pub no_specification : (r : ResolvedParts) (shown : Refusal) → IsWellDefinedText operations contents r
      → ¬ IsWellDefinedTextRefusal operations contents (h.Specification shown)
  pub no_certification : (r : ResolvedParts) (shown : Refusal) → IsWellDefinedText operations contents r
      → ¬ IsWellDefinedTextRefusal operations contents (h.Certification shown)
  pub one_sort : (shown other : Refusal) → IsWellDefinedTextRefusal operations contents (h.Specification shown)
      → ¬ IsWellDefinedTextRefusal operations contents (h.Certification other)
