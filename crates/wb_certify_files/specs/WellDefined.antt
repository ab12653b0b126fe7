-- When the contents of a file are a host whose attributes are well defined, and what a report shows where they aren't.
use Rattle.std.specs.Prelude.{◌≡◌, ◌⊎◌, List, ℕ, Some}
use Rattle.wb_recheck.specs.WellDefinedHosts.{HasWellDefinedAttributes, IsWellDefinedRefusal}
use Rattle.wb_recheck.specs.certify_refusal.CertifyRefusal.{CertifyRefusal}
use Rattle.wb_operations.specs.Operations.{OperationSignature}
use Rattle.wb_report.specs.declared.refusal.Refusal.{Refusal}
use Rattle.wb_syntax_resolved.specs.declared.resolved.ResolvedParts.{ResolvedParts}
use Rattle.wb_certify_shown.specs.Shows.{refusal_shown}
use Rattle.wb_certify_files.specs.HostContents.{StandsFor, IsBadText, HasBadNames, IsOfKinds}
use Rattle.wb_certify_files.specs.declared.host_refusal.HostRefusal.{HostRefusal}
use Rattle.wb_certify_files.specs.declared.host_refusal.HostRefusal.TheVariants as h

-- the contents are a host whose attributes are well defined over operations of these signatures, and stand for this value
pub record IsWellDefinedText (operations : List OperationSignature) (contents : List ℕ) (r : ResolvedParts) : Type 0 where
  pub stands : StandsFor contents r
  pub well_defined : HasWellDefinedAttributes r operations

-- the contents stand for a value whose attributes aren't well defined, for a reason that is shown so and meets this
pub record IsIllDefined (operations : List OperationSignature) (contents : List ℕ) (Meets : CertifyRefusal → Type 0) (shown : Refusal)
    : Type 0 where
  pub value : ResolvedParts
  pub stands : StandsFor contents value
  pub refusal : CertifyRefusal
  pub reason : IsWellDefinedRefusal value operations refusal
  pub meets : Meets refusal
  pub shows : refusal_shown value refusal ≡ Some shown

-- what the report shows of contents that aren't such a host: a rule of what is written, of names or of kinds fails, or else a rule of
-- attributes; and out of memory says nothing
abbrev pub IsWellDefinedTextRefusal : List OperationSignature → List ℕ → HostRefusal → Type 0
IsWellDefinedTextRefusal operations contents (h.Specification shown) =
    IsBadText contents shown ⊎ HasBadNames contents shown ⊎ IsIllDefined operations contents IsOfKinds shown
IsWellDefinedTextRefusal operations contents (h.Certification shown) =
    IsIllDefined operations contents (λ refusal. ¬ IsOfKinds refusal) shown
IsWellDefinedTextRefusal operations contents (h.NoMemory error) = Unit {0}
