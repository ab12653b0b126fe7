-- When the contents of a file are a certified host, and what a report shows where they aren't.
use Rattle.std.specs.Prelude.{◌≡◌, ◌⊎◌, List, ℕ, Some}
use Rattle.wb_recheck.specs.Hosts.{IsCertifiedValue}
use Rattle.wb_recheck.specs.CertifyRefusals.{IsValueRefusal}
use Rattle.wb_recheck.specs.certify_refusal.CertifyRefusal.{CertifyRefusal}
use Rattle.wb_recheck.specs.certify_refusal.CertifyRefusal.TheVariants as c
use Rattle.wb_recheck.specs.Resolving.{ResolvesHost, IsHostNameRefusal}
use Rattle.wb_names_theory.specs.declared.refusal.NameRefusal.{NameRefusal}
use Rattle.wb_operations.specs.Operations.{OperationSignature}
use Rattle.wb_reader.specs.Refusals.{HasCause, IsAcceptedText}
use Rattle.wb_reader.specs.declared.refusal.SpecRefusal.{SpecRefusal}
use Rattle.wb_report.specs.declared.refusal.Refusal.{Refusal}
use Rattle.wb_syntax_resolved.specs.declared.resolved.ResolvedParts.{ResolvedParts}
use Rattle.wb_syntax_resolved.specs.Resolved.{IsResolved}
use Rattle.wb_certify_shown.specs.Shows.{written_reason, name_reason, of_spec, refusal_shown}
use Rattle.wb_syntax.specs.SpecText.{SpecView}
use Rattle.wb_certify_files.specs.declared.host_refusal.HostRefusal.{HostRefusal}
use Rattle.wb_certify_files.specs.declared.host_refusal.HostRefusal.TheVariants as h

-- the contents are a host whose names are right, and stand for this value, which is a resolved specification
pub record StandsFor (contents : List ℕ) (r : ResolvedParts) : Type 0 where
  pub spec : SpecView
  pub accepted : IsAcceptedText contents spec
  pub names : ResolvesHost spec r
  pub resolved : IsResolved r

-- the contents are a certified host over operations of these signatures, and stand for this value
pub record IsHostText (operations : List OperationSignature) (contents : List ℕ) (r : ResolvedParts) : Type 0 where
  pub stands : StandsFor contents r
  pub certified : IsCertifiedValue r operations

-- the contents aren't a specification for a reason that is shown so
pub record IsBadText (contents : List ℕ) (shown : Refusal) : Type 0 where
  pub refusal : SpecRefusal
  pub cause : HasCause contents refusal
  pub shows : of_spec (written_reason refusal) ≡ Some shown

-- the contents are a specification whose names aren't right, as a host's, for a reason that is shown so
pub record HasBadNames (contents : List ℕ) (shown : Refusal) : Type 0 where
  pub spec : SpecView
  pub accepted : IsAcceptedText contents spec
  pub refusal : NameRefusal
  pub cause : IsHostNameRefusal spec refusal
  pub shows : of_spec (name_reason refusal) ≡ Some shown

-- the refusal is about kinds
abbrev pub IsOfKinds : CertifyRefusal → Type 0
IsOfKinds (c.Types refusal) = Unit {0}
IsOfKinds other = ⊥

-- the contents stand for a value that isn't certified, for a reason that is shown so and meets this
pub record IsRefusedValue (operations : List OperationSignature) (contents : List ℕ) (Meets : CertifyRefusal → Type 0) (shown : Refusal)
    : Type 0 where
  pub value : ResolvedParts
  pub stands : StandsFor contents value
  pub refusal : CertifyRefusal
  pub reason : IsValueRefusal value operations refusal
  pub meets : Meets refusal
  pub shows : refusal_shown value refusal ≡ Some shown

-- what the report shows of contents that aren't a certified host: a rule of what is written, of names or of kinds fails, or else a rule of
-- certification; and out of memory says nothing
abbrev pub IsHostRefusal : List OperationSignature → List ℕ → HostRefusal → Type 0
IsHostRefusal operations contents (h.Specification shown) =
    IsBadText contents shown ⊎ HasBadNames contents shown ⊎ IsRefusedValue operations contents IsOfKinds shown
IsHostRefusal operations contents (h.Certification shown) =
    IsRefusedValue operations contents (λ refusal. ¬ IsOfKinds refusal) shown
IsHostRefusal operations contents (h.NoMemory error) = Unit {0}
