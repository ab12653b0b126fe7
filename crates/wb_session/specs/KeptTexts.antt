-- Texts that are kept with their answers apart from their language.
use Rattle.std.specs.Prelude.{ℕ, List}
use Rattle.wb_values.specs.Tree.{Tree}
use Rattle.wb_scan.specs.Views.{LanguageParts}
use Rattle.wb_parser.specs.Parses.{IsParsed}
use Rattle.wb_parser.specs.declared.parsed.Parsed.{Parsed}
use Rattle.wb_session.specs.declared.kept_text.KeptText.{KeptText}
use Rattle.wb_session.specs.declared.place.LeafPlace.{LeafPlace}
use Rattle.wb_session.specs.Sessions.{IsShort}
use Rattle.wb_session.specs.Kept.{IsMemory, AreCommon}

-- its text
abbrev pub text_of : KeptText → List ℕ
text_of kept = kept.memory.text.items

-- its answer
abbrev pub answer_of : KeptText → Parsed
answer_of kept = kept.answer

-- the places of its leaves
abbrev pub places_of : KeptText → List LeafPlace
places_of kept = kept.memory.places.items

-- the store with the answer's tree, and those of earlier texts
abbrev pub store_of : KeptText → List Tree
store_of kept = kept.memory.stacks.store

-- the answer is that of the text in the language, and each checkpoint is kept of it
pub record IsKeptIn (language : LanguageParts) (kept : KeptText) : Type 0 where
  pub memory : IsMemory language kept.memory
  pub common : AreCommon kept.memory
  pub short : IsShort (text_of kept)
  pub parsed : IsParsed language.language (text_of kept) (store_of kept) (answer_of kept)
