-- What is said of a value, and of a file's first line, is said of the contents.
use Rattle.std.proofs.Common.{◌≡◌, inl, inr, List, ℕ, Some, ap, refl, sym, subst}
use Rattle.wb_recheck.specs.Kept.{Extends}
use Rattle.wb_recheck.specs.BesideRefusals.{IsBesideRefusal}
use Rattle.wb_recheck.specs.certify_refusal.CertifyRefusal.{CertifyRefusal}
use Rattle.wb_recheck.specs.certify_refusal.CertifyRefusal.TheVariants as c
use Rattle.wb_names_theory.specs.declared.refusal.NameRefusal.TheVariants as n
use Rattle.wb_operations.specs.Operations.{OperationSignature}
use Rattle.wb_reader.specs.Refusals.{IsAcceptedText}
use Rattle.wb_report.specs.declared.refusal.Refusal.{Refusal}
use Rattle.wb_syntax_resolved.specs.declared.resolved.ResolvedParts.{ResolvedParts}
use Rattle.wb_certify_shown.specs.Extensions.{extension_refusal_shown}
use Rattle.wb_syntax.specs.SpecText.{HasText, SpecView}
use Rattle.wb_certify_files.specs.ExtensionContents.{StandsFor, IsOfKinds, IsRefusedValue, IsExtensionRefusal}
use Rattle.wb_certify_files.specs.Specifications.{IsHeaderRefusal}
use Rattle.wb_certify_files.specs.Numbered.{IsNumbered}
use Rattle.wb_certify_files.specs.declared.extension_refusal.FileRefusal.{FileRefusal}
use Rattle.wb_certify_files.specs.declared.extension_refusal.FileRefusal.TheVariants as f
use Rattle.wb_certify_files.specs.Inner.RefusedExtensions.{IsSort}

module _ (host : ResolvedParts) (operations : List OperationSignature) (contents : List ℕ) (r : ResolvedParts)
    (stands : StandsFor host contents r) (shown : Refusal) where
  refused : (Meets : CertifyRefusal → Type 0) (refusal : CertifyRefusal) → IsBesideRefusal host r operations refusal → Meets refusal
      → extension_refusal_shown r refusal ≡ Some shown → IsRefusedValue host operations contents Meets shown
  refused Meets refusal reason meets shows =
      record { value = r; stands = stands; refusal = refusal; reason = reason; meets = meets; shows = shows }

  certification : (refusal : CertifyRefusal) → IsBesideRefusal host r operations refusal → ¬ IsOfKinds refusal
      → extension_refusal_shown r refusal ≡ Some shown → (sort : FileRefusal) → sort ≡ f.Certification shown
      → IsExtensionRefusal host operations contents sort
  certification refusal reason other shows sort is =
      subst (IsExtensionRefusal host operations contents) (sym is)
      (refused (λ (z : CertifyRefusal). ¬ IsOfKinds z) refusal reason other shows)

  pub value_refused : (refusal : CertifyRefusal) → IsBesideRefusal host r operations refusal
      → extension_refusal_shown r refusal ≡ Some shown → (sort : FileRefusal) → IsSort refusal shown sort
      → IsExtensionRefusal host operations contents sort
  value_refused (c.Types refusal) reason shows sort is =
      subst (IsExtensionRefusal host operations contents) (sym is) (inr (inr (refused IsOfKinds (c.Types refusal) reason tt shows)))
  value_refused (c.Names refusal) reason shows sort is = absurd reason
  value_refused c.NoStart reason shows sort is = absurd reason
  value_refused (c.Determinism refusal) reason shows sort is = certification (c.Determinism refusal) reason (λ z. z) shows sort is
  value_refused (c.Attributes refusal) reason shows sort is = certification (c.Attributes refusal) reason (λ z. z) shows sort is
  value_refused (c.NoMemory error) reason shows sort is = certification (c.NoMemory error) reason (λ z. z) shows sort is

-- contents that are a numbered specification stand for its value
pub stands_for : (host : ResolvedParts) (spec : SpecView) (r : ResolvedParts) → IsNumbered host spec r → (contents : List ℕ)
    → IsAcceptedText contents spec → StandsFor host contents r
stands_for host spec r is contents accepted = record { spec = spec; accepted = accepted; names = is.names; resolved = is.resolved }

-- it is the value of a text
pub extends_by : (host : ResolvedParts) (spec : SpecView) (r : ResolvedParts) → IsNumbered host spec r → HasText spec → Extends host r
extends_by host spec r is (bytes, below, text) = record { spec = spec; written = (bytes, text); names = is.names }

-- what is shown for a first line is shown of the contents
pub header_refused : (host : ResolvedParts) (operations : List OperationSignature) (contents : List ℕ) (refusal : FileRefusal)
    → IsHeaderRefusal host contents refusal → IsExtensionRefusal host operations contents refusal
header_refused host operations contents (f.Specification shown) (inl bad) = inl bad
header_refused host operations contents (f.Specification shown) (inr is) = inr (inl (record {
  spec = is.spec;
  accepted = is.accepted;
  refusal = n.WrongKind is.spec.name;
  cause = inl (is.header, refl);
  shows = ap Some (sym is.shows);
}))
header_refused host operations contents (f.WrongHost name) other = other
header_refused host operations contents (f.Certification shown) is = absurd is
header_refused host operations contents (f.NoMemory error) is = tt
