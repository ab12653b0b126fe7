-- What a text comes to in the language of a host with extensions: a tree or a stop.
use Rattle.std.specs.Prelude.{ℕ, List}
use Rattle.wb_compose_texts.specs.Unions.{IsLanguageOf, Union}
use Rattle.wb_operations.specs.Operations.{OperationSignature}
use Rattle.wb_scan_theory.specs.Languages.{LanguageView}
use Rattle.wb_scan_theory.specs.Texts.{HasAnswer}
use Rattle.wb_syntax_resolved.specs.declared.resolved.ResolvedParts.{ResolvedParts}

-- the host and the extensions are certified and have a language, and the text has a tree or a stop in it
pub record ComesToAnswer (operations : List OperationSignature) (host : ResolvedParts) (extensions : List ResolvedParts)
    (text : List ℕ) : Type 0 where
  pub whole : Union host operations extensions
  pub language : LanguageView
  pub is_language : IsLanguageOf host operations extensions whole language
  pub answer : HasAnswer language text
