-- A text that means to a host with extensions what it means to the host.
use Rattle.std.specs.Prelude.{ℕ, List}
use Rattle.wb_scan_theory.specs.Languages.{LanguageView}
use Rattle.wb_operations.specs.Operations.{OperationSignature}
use Rattle.wb_syntax_resolved.specs.declared.resolved.ResolvedParts.{ResolvedParts}
use Rattle.wb_compose_texts.specs.Unions.{IsLanguageOf, Union}
use Rattle.wb_reading.specs.Markers.{IsPlain}
use Rattle.wb_compose_texts.specs.UnionMarkers.{union_markers}

-- the host has with the extensions a language
pub record HasLanguage (host : ResolvedParts) (operations : List OperationSignature) (extensions : List ResolvedParts) : Type 0 where
  pub whole : Union host operations extensions
  pub language : LanguageView
  pub is_language : IsLanguageOf host operations extensions whole language

-- the host has with the extensions a language, in which the text has no marker of theirs
pub record HasHostReading (host : ResolvedParts) (operations : List OperationSignature) (extensions : List ResolvedParts)
    (text : List ℕ) : Type 0 where
  pub whole : Union host operations extensions
  pub language : LanguageView
  pub is_language : IsLanguageOf host operations extensions whole language
  pub plain : IsPlain language (union_markers host extensions) text
