-- What is held of a text beside its language.
use Rattle.std.specs.Prelude.{ℕ, List, Option, Some, None}
use Rattle.wb_values.specs.Tree.{Tree}
use Rattle.wb_scan.specs.Views.{LanguageParts}
use Rattle.wb_session.specs.Parses.{IsParsed}
use Rattle.wb_session.specs.parsed.Parsed.{Parsed}
use Rattle.wb_session.specs.KeptTexts.{IsKeptIn, answer_of, places_of, store_of, text_of}
use Rattle.wb_session.specs.declared.place.LeafPlace.{LeafPlace}
use Rattle.wb_compose_files.specs.Languages.{IsTextLanguage, TextLanguageParts}
use Rattle.wb_session_library.specs.Views.{TextView}
use Rattle.wb_session_library.specs.declared.kept_texts.Held.{Held}
use Rattle.wb_session_library.specs.declared.kept_texts.Held.TheVariants as h
use Rattle.wb_session_library.specs.declared.kept_texts.PlainText.{PlainText}

-- the text
abbrev pub text_in : Held → List ℕ
text_in (h.Plain plain) = plain.text.items
text_in (h.Kept kept) = text_of kept

-- its answer
abbrev pub answer_in : Held → Parsed
answer_in (h.Plain plain) = plain.answer
answer_in (h.Kept kept) = answer_of kept

-- the places of its leaves, where it is kept to be edited
abbrev pub places_in : Held → Option (List LeafPlace)
places_in (h.Plain plain) = None
places_in (h.Kept kept) = Some (places_of kept)

-- the store with its tree
abbrev pub store_in : Held → List Tree
store_in (h.Plain plain) = plain.store
store_in (h.Kept kept) = store_of kept

-- the answer is that of the text in the language
pub record IsPlainIn (language : LanguageParts) (plain : PlainText) : Type 0 where
  pub parsed : IsParsed language.language plain.text.items plain.store plain.answer

-- the answer is that of the text in the language, also where it is kept to be edited
abbrev pub IsHeldIn : LanguageParts → Held → Type 0
IsHeldIn language (h.Plain plain) = IsPlainIn language plain
IsHeldIn language (h.Kept kept) = IsKeptIn language kept

-- what is held of a text, in its language
abbrev pub held_view : TextLanguageParts → Held → TextView
held_view l held = record { language = l; text = text_in held; answer = answer_in held; places = places_in held; store = store_in held }

-- the language is composed of its host and extensions, and the answer is that of the text in it
pub record IsTextIn (l : TextLanguageParts) (held : Held) : Type 0 where
  pub composed : IsTextLanguage l
  pub answered : IsHeldIn l.language held
