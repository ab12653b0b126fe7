-- The language of a host's file and of extensions' files, and what is said of a text that stops in it.
use Rattle.std.specs.Prelude.{◌≡◌, ◌⊎◌, ◌++◌, ◌∷◌, [], ℕ, List}
use Rattle.wb_compose_files.specs.HostContents.{IsHostText}
use Rattle.wb_compose_files.specs.Certified.{CertifiedParts}
use Rattle.wb_compose_files.specs.Extensions.{IsNextText}
use Rattle.wb_compose_files.specs.Languages.{IsTextLanguage, TextLanguageParts}
use Rattle.wb_compose_files.specs.Unions.{all_resolved}
use Rattle.wb_operations.specs.Operations.{OperationSignature}
use Rattle.wb_syntax_resolved.specs.declared.resolved.ResolvedParts.{ResolvedParts}
use Rattle.wb_explain_stops.specs.Said.{Says}

-- the contents are certified extensions of the host in their order, each with another name than these before and than those before it, and
-- stand with the host for these values
abbrev pub AreNext : List OperationSignature → (host : ResolvedParts) → (before : List ResolvedParts) → List (List ℕ) → List ResolvedParts
    → Type 0
AreNext operations host before [] [] = Unit {0}
AreNext operations host before [] (value ∷ values) = ⊥
AreNext operations host before (contents ∷ files) [] = ⊥
AreNext operations host before (contents ∷ files) (value ∷ values) =
    IsNextText operations host before contents value × AreNext operations host (before ++ value ∷ []) files values

-- the first of these contents are a certified host, and the others its certified extensions in their order
pub record AreCertifiedIn (operations : List OperationSignature) (files : List (List ℕ)) (c : CertifiedParts) : Type 0 where
  pub first : List ℕ
  pub others : List (List ℕ)
  pub files_are : files ≡ first ∷ others
  pub host_is : IsHostText operations first c.host.resolved
  pub extensions_are : AreNext operations c.host.resolved [] others (all_resolved c.extensions)

-- the language is composed of the certified host and extensions that these contents are
pub record IsLanguageIn (operations : List OperationSignature) (files : List (List ℕ)) (l : TextLanguageParts) : Type 0 where
  pub certified : AreCertifiedIn operations files l.certified
  pub composed : IsTextLanguage l

-- a stop of the text in the language of these files is said, or nothing is
abbrev pub SaysIn : List OperationSignature → List (List ℕ) → (text old new : List ℕ) → Type 0
SaysIn operations files text old new =
    (new ≡ old) ⊎ ((l : TextLanguageParts) × IsLanguageIn operations files l × Says l.language.language l.terminals text old new)
