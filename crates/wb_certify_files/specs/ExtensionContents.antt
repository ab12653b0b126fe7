-- When the contents of a file are a certified extension of a host, and what a report shows where they aren't.
use Rattle.std.specs.Prelude.{◌≡◌, ◌≢◌, ◌⊎◌, List, ℕ, Some}
use Rattle.wb_recheck.specs.Extensions.{IsCertifiedBeside}
use Rattle.wb_recheck.specs.BesideRefusals.{IsBesideRefusal}
use Rattle.wb_recheck.specs.certify_refusal.CertifyRefusal.{CertifyRefusal}
use Rattle.wb_recheck.specs.certify_refusal.CertifyRefusal.TheVariants as c
use Rattle.wb_recheck.specs.Resolving.{ResolvesExtension, IsExtensionNameRefusal}
use Rattle.wb_names_theory.specs.declared.refusal.NameRefusal.{NameRefusal}
use Rattle.wb_operations.specs.Operations.{OperationSignature}
use Rattle.wb_reader.specs.Refusals.{HasCause, IsAcceptedText}
use Rattle.wb_reader.specs.declared.refusal.SpecRefusal.{SpecRefusal}
use Rattle.wb_report.specs.declared.refusal.Refusal.{Refusal}
use Rattle.wb_syntax_resolved.specs.declared.resolved.ResolvedParts.{ResolvedParts}
use Rattle.wb_syntax_resolved.specs.Resolved.{IsResolved}
use Rattle.wb_certify_shown.specs.Extensions.{extension_refusal_shown}
use Rattle.wb_certify_shown.specs.Shows.{written_reason, name_reason, of_spec}
use Rattle.wb_syntax.specs.SpecText.{SpecView}
use Rattle.wb_syntax.specs.declared.header.Header.TheVariants as h
use Rattle.wb_certify_files.specs.declared.extension_refusal.FileRefusal.{FileRefusal}
use Rattle.wb_certify_files.specs.declared.extension_refusal.FileRefusal.TheVariants as f

module _ (host : ResolvedParts) where
  -- the contents are an extension of this host whose names are right, and with the host they stand for this value, which is a resolved
  -- specification
  pub record StandsFor (contents : List ℕ) (r : ResolvedParts) : Type 0 where
    pub spec : SpecView
    pub accepted : IsAcceptedText contents spec
    pub names : ResolvesExtension host spec r
    pub resolved : IsResolved r

  -- the contents are an extension that is certified beside the host over operations of these signatures, and with the host they stand for
  -- this value
  pub record IsExtensionText (operations : List OperationSignature) (contents : List ℕ) (r : ResolvedParts) : Type 0 where
    pub stands : StandsFor contents r
    pub certified : IsCertifiedBeside host r operations

-- the contents aren't a specification for a reason that is shown so
pub record IsBadText (contents : List ℕ) (shown : Refusal) : Type 0 where
  pub refusal : SpecRefusal
  pub cause : HasCause contents refusal
  pub shows : of_spec (written_reason refusal) ≡ Some shown

-- the refusal is about kinds
abbrev pub IsOfKinds : CertifyRefusal → Type 0
IsOfKinds (c.Types refusal) = Unit {0}
IsOfKinds other = ⊥

module _ (host : ResolvedParts) where
  -- the contents are a specification whose names aren't right, as those of an extension of this host, for a reason that is shown so
  pub record HasBadNames (contents : List ℕ) (shown : Refusal) : Type 0 where
    pub spec : SpecView
    pub accepted : IsAcceptedText contents spec
    pub refusal : NameRefusal
    pub cause : IsExtensionNameRefusal host spec refusal
    pub shows : of_spec (name_reason refusal) ≡ Some shown

  -- the contents are an extension whose file names this host, which is another
  pub record NamesOtherHost (contents : List ℕ) (name : List ℕ) : Type 0 where
    pub spec : SpecView
    pub accepted : IsAcceptedText contents spec
    pub header : spec.header ≡ h.Extension name
    pub differs : name ≢ host.host

  -- the contents stand for a value that isn't certified beside the host, for a reason that is shown so and meets this
  pub record IsRefusedValue (operations : List OperationSignature) (contents : List ℕ) (Meets : CertifyRefusal → Type 0) (shown : Refusal)
      : Type 0 where
    pub value : ResolvedParts
    pub stands : StandsFor host contents value
    pub refusal : CertifyRefusal
    pub reason : IsBesideRefusal host value operations refusal
    pub meets : Meets refusal
    pub shows : extension_refusal_shown value refusal ≡ Some shown

-- what the report shows of contents that aren't a certified extension of the host: a rule of what is written, of names or of kinds fails;
-- or the file names another host; or else a rule of certification fails; and out of memory says nothing
abbrev pub IsExtensionRefusal : (host : ResolvedParts) → List OperationSignature → List ℕ → FileRefusal → Type 0
IsExtensionRefusal host operations contents (f.Specification shown) =
    IsBadText contents shown ⊎ HasBadNames host contents shown ⊎ IsRefusedValue host operations contents IsOfKinds shown
IsExtensionRefusal host operations contents (f.WrongHost name) = NamesOtherHost host contents name
IsExtensionRefusal host operations contents (f.Certification shown) =
    IsRefusedValue host operations contents (λ refusal. ¬ IsOfKinds refusal) shown
IsExtensionRefusal host operations contents (f.NoMemory error) = Unit {0}
