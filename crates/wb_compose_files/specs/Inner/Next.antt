-- The steps from contents to an extension after others.
use Rattle.std.specs.Prelude.{◌≡◌, ℕ, List, Contains}
use Rattle.wb_certify_files.specs.Kept.{ExtensionView}
use Rattle.wb_certify_files.specs.Hosts.{CertifiedView}
use Rattle.wb_compose_texts.specs.Composed.{IsWith, name_of}
use Rattle.wb_certify_files.specs.Specifications.{IsSpecFor}
use Rattle.wb_certify_files.specs.declared.extension_refusal.FileRefusal.TheVariants as f
use Rattle.wb_operations.specs.Operations.{OperationSignature}
use Rattle.wb_syntax_resolved.specs.declared.resolved.ResolvedParts.{ResolvedParts}
use Rattle.wb_syntax.specs.SpecText.{SpecView}
use Rattle.wb_compose_texts.specs.Unions.{all_resolved}
use Rattle.wb_compose_files.specs.Extensions.{IsNextRefusal, IsNextText, names_of}
use Rattle.wb_compose_files.specs.declared.refusal.NextRefusal.{NextRefusal}
use Rattle.wb_compose_files.specs.declared.refusal.NextRefusal.TheVariants as n

module _ (operations : List OperationSignature) (host : ResolvedParts) (before : List ResolvedParts) where
  -- contents that are this specification are an extension after these, and stand with the host for this value
  abbrev pub IsNextSpec : SpecView → ResolvedParts → Type 0
  IsNextSpec spec value =
      (contents : List ℕ) → IsSpecFor host contents spec → IsNextText operations host before contents value

  -- contents that are this specification are no extension after these, for this reason
  abbrev pub IsNextSpecRefusal : SpecView → NextRefusal → Type 0
  IsNextSpecRefusal spec refusal = (contents : List ℕ) → IsSpecFor host contents spec → IsNextRefusal operations host before contents refusal

-- the refusal is for this name, which is taken, or it is that memory ran out
abbrev pub IsDuplicateOf : List ℕ → NextRefusal → Type 0
IsDuplicateOf name (n.Duplicate other) = other ≡ name
IsDuplicateOf name (n.Header (f.NoMemory error)) = Unit {0}
IsDuplicateOf name other = ⊥

-- the extension is with the host, and has another name than these
pub record IsApartFrom (host : CertifiedView) (before : List ExtensionView) (e : ExtensionView) : Type 0 where
  pub with_host : IsWith host e
  pub new : ¬ Contains (names_of (all_resolved before)) (name_of e)
