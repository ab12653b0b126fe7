-- What became of a leaf.
use Rattle.std.specs.Prelude.{◌<◌, ◌≤◌, ℕ, List, [], ◌∷◌, ◌++◌, length, slice_range}
use Rattle.wb_base.specs.declared.symbol.Symbol.{Symbol}
use Rattle.wb_scan_theory.specs.Examined.{Scans}
use Rattle.wb_scan_theory.specs.Languages.{LanguageView}
use Rattle.wb_scan_theory.specs.Tokens.{token}
use Rattle.wb_scan.specs.Views.{LanguageParts}
use Rattle.wb_parser.specs.Parses.{IsParsed}
use Rattle.wb_session.specs.declared.checkpoint.Checkpoint.{Checkpoint}
use Rattle.wb_session.specs.declared.leaf.Round.{Round}
use Rattle.wb_session.specs.declared.leaf.Round.TheVariants.{Goes, Done}
use Rattle.wb_session.specs.declared.older.Ahead.{Ahead}
use Rattle.wb_session.specs.declared.place.LeafPlace.{LeafPlace}
use Rattle.wb_session.specs.Places.{HasPlaces}
use Rattle.wb_session.specs.Stacks.{Roots}
use Rattle.wb_session.specs.Kept.{IsKept}

-- it was shifted, and the stack after it is kept, with its place after the others; or the answer is found, and these are all places
abbrev pub IsRound : LanguageParts → List ℕ → Roots → List LeafPlace → Round → Type 0
IsRound parts text roots places (Goes next place) = IsKept parts text roots (places ++ place ∷ []) next
IsRound parts text roots places (Done parsed) =
    IsParsed parts.language text roots.trees parsed × HasPlaces parts.language text places

-- the token is next at the prefix and the place, and no byte from its reach on was looked at
abbrev pub IsTokenAt : LanguageView → List ℕ → List Symbol → ℕ → Ahead → Type 0
IsTokenAt l text prefix at ahead = Scans l text prefix ahead.reach at
    (token ahead.place.begin ahead.place.terminal (slice_range text ahead.place.lexeme ahead.place.end) ahead.place.end)

-- its terminal is one of the grammar, and it ends in the text, after the place
pub record IsWithin (l : LanguageView) (text : List ℕ) (at : ℕ) (ahead : Ahead) : Type 0 where
  pub terminal : ahead.place.terminal ≤ l.grammar.terminals
  pub order : ahead.place.lexeme ≤ ahead.place.end
  pub within : ahead.place.end ≤ length text
  pub further : at < ahead.place.end

-- where it was shifted, the next checkpoint is further on
abbrev pub GoesFurther : Checkpoint → Round → Type 0
GoesFurther point (Goes next place) = (point.at < next.at) × (point.reach ≤ next.reach) × (point.link ≤ next.link)
GoesFurther point (Done parsed) = Unit {0}
