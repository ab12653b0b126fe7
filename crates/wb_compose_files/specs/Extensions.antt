-- What contents are as an extension of a host after others.
use Rattle.std.specs.Prelude.{◌≡◌, ℕ, List, Contains, map}
use Rattle.wb_certify_files.specs.ExtensionContents.{IsExtensionText, IsExtensionRefusal}
use Rattle.wb_certify_files.specs.Specifications.{IsHeaderRefusal, IsSpecFor}
use Rattle.wb_certify_files.specs.declared.extension_refusal.FileRefusal.{FileRefusal}
use Rattle.wb_compose_texts.specs.Composed.{name_in}
use Rattle.wb_operations.specs.Operations.{OperationSignature}
use Rattle.wb_syntax_resolved.specs.declared.resolved.ResolvedParts.{ResolvedParts}
use Rattle.wb_syntax.specs.SpecText.{SpecView}
use Rattle.wb_compose_files.specs.declared.refusal.NextRefusal.{NextRefusal}
use Rattle.wb_compose_files.specs.declared.refusal.NextRefusal.TheVariants as n

-- the names of extensions, each given by the host with it alone
abbrev pub names_of : List ResolvedParts → List (List ℕ)
names_of extensions = map name_in extensions

-- the contents are an extension of the host by what is written and by the first line, and it has this name
pub record HasName (host : ResolvedParts) (contents name : List ℕ) : Type 0 where
  pub spec : SpecView
  pub is : IsSpecFor host contents spec
  pub named : spec.name ≡ name

-- the contents are an extension of the host that has the name of one of these
pub record HasTakenName (host : ResolvedParts) (before : List ResolvedParts) (contents name : List ℕ) : Type 0 where
  pub named : HasName host contents name
  pub taken : Contains (names_of before) name

module _ (operations : List OperationSignature) (host : ResolvedParts) (before : List ResolvedParts) (contents : List ℕ) where
  -- the contents are a certified extension of the host, with another name than these, and stand with the host for this value
  pub record IsNextText (value : ResolvedParts) : Type 0 where
    pub name : List ℕ
    pub named : HasName host contents name
    pub new : ¬ Contains (names_of before) name
    pub text : IsExtensionText host operations contents value

  -- the contents are an extension with another name than these, and aren't certified for this reason
  pub record IsLaterRefusal (refusal : FileRefusal) : Type 0 where
    pub name : List ℕ
    pub named : HasName host contents name
    pub new : ¬ Contains (names_of before) name
    pub cause : IsExtensionRefusal host operations contents refusal

  -- why contents are no extension after these
  abbrev pub IsNextRefusal : NextRefusal → Type 0
  IsNextRefusal (n.Header refusal) = IsHeaderRefusal host contents refusal
  IsNextRefusal (n.Duplicate name) = HasTakenName host before contents name
  IsNextRefusal (n.Later refusal) = IsLaterRefusal refusal
