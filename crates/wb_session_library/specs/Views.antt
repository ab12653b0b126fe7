-- Texts in composed languages as callers see them.
use Rattle.std.specs.Prelude.{ℕ, List, Option}
use Rattle.wb_values.specs.Tree.{Tree}
use Rattle.wb_session.specs.parsed.Parsed.{Parsed}
use Rattle.wb_session.specs.declared.place.LeafPlace.{LeafPlace}
use Rattle.wb_compose_files.specs.Languages.{TextLanguageParts}

-- a language, a text, its answer, the places of its leaves where it is kept to be edited, and the store with its tree and those of earlier
-- texts
pub record TextView : Type 0 where
  pub language : TextLanguageParts
  pub text : List ℕ
  pub answer : Parsed
  pub places : Option (List LeafPlace)
  pub store : List Tree
