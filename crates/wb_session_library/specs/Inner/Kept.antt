-- A text that is kept to be edited.
use Rattle.std.specs.Prelude.{Some}
use Rattle.wb_compose_files.specs.Languages.{TextLanguageParts}
use Rattle.wb_session.specs.KeptTexts.{answer_of, places_of, store_of, text_of}
use Rattle.wb_session.specs.declared.kept_text.KeptText.{KeptText}
use Rattle.wb_session_library.specs.Views.{TextView}

-- a text that is kept to be edited, in its language
abbrev pub kept_view : TextLanguageParts → KeptText → TextView
kept_view l kept = record {
  language = l;
  text = text_of kept;
  answer = answer_of kept;
  places = Some (places_of kept);
  store = store_of kept;
}
