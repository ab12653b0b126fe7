-- A text's answer in numbers.
use Rattle.std.specs.Prelude.{◌≡◌, ℕ, length}
use Rattle.wb_scan_theory.specs.declared.stop_kind.StopKind.{StopKind}
use Rattle.wb_scan_theory.specs.declared.stop_kind.StopKind.TheVariants.{NoToken, Unexpected}
use Rattle.wb_session.specs.Parses.{IsParsed}
use Rattle.wb_session.specs.parsed.Parsed.{Parsed}
use Rattle.wb_session.specs.parsed.Parsed.TheVariants as parsed
use Rattle.wb_compose_files.specs.Languages.{IsTextLanguage}
use Rattle.wb_session_library.specs.Places.{counts}
use Rattle.wb_session_library.specs.Views.{TextView}
use Rattle.wb_session_library.specs.declared.answer.TextAnswer.{TextAnswer}

-- a text that stops there is told so
abbrev pub IsToldStop : StopKind → ℕ → TextAnswer → Type 0
IsToldStop NoToken at told = (told.kind ≡ 1) × (told.at ≡ at) × (told.terminal ≡ 0)
IsToldStop (Unexpected terminal) at told = (told.kind ≡ 2) × (told.at ≡ at) × (told.terminal ≡ terminal)

-- a tree is told by its node, and a stop by its place and kind
abbrev pub IsTold : Parsed → TextAnswer → Type 0
IsTold (parsed.Tree id) told = (told.kind ≡ 0) × (told.tree ≡ id.0) × (told.at ≡ 0) × (told.terminal ≡ 0)
IsTold (parsed.Stopped at kind) told = (told.tree ≡ 0) × IsToldStop kind at told

-- the tree or stop of the text, which is its one answer in the language, and how many bytes, nodes and placed leaves it has
pub record IsAnswer (view : TextView) (told : TextAnswer) : Type 0 where
  pub is : IsTold view.answer told
  pub parsed : IsParsed view.language.language.language view.text view.store view.answer
  pub composed : IsTextLanguage view.language
  pub bytes : told.bytes ≡ length view.text
  pub nodes : told.nodes ≡ length view.store
  pub leaves : told.leaves ≡ counts view.places
