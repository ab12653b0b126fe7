-- A file by its first line, and a specification as an extension of a host.
use Rattle.std.specs.Prelude.{◌≡◌, ◌⊎◌, List, ℕ}
use Rattle.wb_operations.specs.Operations.{OperationSignature}
use Rattle.wb_reader.specs.Refusals.{IsAcceptedText}
use Rattle.wb_report.specs.declared.refusal.Refusal.{Refusal}
use Rattle.wb_report.specs.declared.refusal.Refusal.TheVariants as r
use Rattle.wb_report.specs.declared.spec_reason.SpecReason.TheVariants as s
use Rattle.wb_syntax_resolved.specs.declared.resolved.ResolvedParts.{ResolvedParts}
use Rattle.wb_syntax.specs.SpecText.{SpecView}
use Rattle.wb_syntax.specs.declared.header.Header.TheVariants as h
use Rattle.wb_certify_files.specs.ExtensionContents.{IsBadText, NamesOtherHost, IsExtensionText, IsExtensionRefusal}
use Rattle.wb_certify_files.specs.declared.extension_refusal.FileRefusal.{FileRefusal}
use Rattle.wb_certify_files.specs.declared.extension_refusal.FileRefusal.TheVariants as f

-- the contents are this specification, which is an extension and names this host
pub record IsSpecFor (host : ResolvedParts) (contents : List ℕ) (spec : SpecView) : Type 0 where
  pub accepted : IsAcceptedText contents spec
  pub header : spec.header ≡ h.Extension host.host

-- the contents are a host, whose name is shown as one of the wrong kind
pub record IsNoExtension (contents : List ℕ) (shown : Refusal) : Type 0 where
  pub spec : SpecView
  pub accepted : IsAcceptedText contents spec
  pub header : spec.header ≡ h.Host
  pub shows : shown ≡ r.Specification (s.WrongKind spec.name)

-- what the report shows of contents that aren't an extension of the host by what is written and by the first line: a rule of what is
-- written fails, or they are a host, or they name another host; and out of memory says nothing
abbrev pub IsHeaderRefusal : (host : ResolvedParts) → List ℕ → FileRefusal → Type 0
IsHeaderRefusal host contents (f.Specification shown) = IsBadText contents shown ⊎ IsNoExtension contents shown
IsHeaderRefusal host contents (f.WrongHost name) = NamesOtherHost host contents name
IsHeaderRefusal host contents (f.Certification shown) = ⊥
IsHeaderRefusal host contents (f.NoMemory error) = Unit {0}

module _ (host : ResolvedParts) (operations : List OperationSignature) (spec : SpecView) where
  -- contents that are this specification are a certified extension of the host, and stand for this value
  abbrev pub IsExtensionSpec : ResolvedParts → Type 0
  IsExtensionSpec r = (contents : List ℕ) → IsAcceptedText contents spec → IsExtensionText host operations contents r

  -- contents that are this specification aren't a certified extension of the host, and this is shown
  abbrev pub IsSpecRefusal : FileRefusal → Type 0
  IsSpecRefusal refusal = (contents : List ℕ) → IsAcceptedText contents spec → IsExtensionRefusal host operations contents refusal
