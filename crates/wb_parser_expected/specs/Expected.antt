-- What could come where a text stops.
use Rattle.std.specs.Prelude.{◌≤◌, ◌↔◌, ◌++◌, ◌∷◌, ℕ, List, [], All, Contains, Option, Some, None}
use Rattle.wb_grammar_theory.specs.Trees.{Forest}
use Rattle.wb_scan_theory.specs.declared.stop_kind.StopKind.{StopKind}
use Rattle.wb_scan_theory.specs.Languages.{LanguageView}
use Rattle.wb_scan_theory.specs.Readings.{Begins, terminals_of}
use Rattle.wb_scan_theory.specs.Texts.{ParsesTo, StopsAt}
use Rattle.wb_parser_expected.specs.declared.expected.Stop.{Stop}

-- the terminal, or `end`, could come after what was read before the stop: some derivation tree begins with the leaves that were read, and
-- then has the terminal
abbrev pub CouldCome : (l : LanguageView) (text : List ℕ) (at : ℕ) (kind : StopKind) → StopsAt l text at kind → ℕ → Type 0
CouldCome l text at kind stop t = Begins l.grammar (terminals_of stop.read ++ t ∷ [])

-- the text stops at the place for this reason, and the list has exactly the terminals that could come there, and `end` where the text could
-- end there: whichever leaves were read before the stop
pub record AreExpected (l : LanguageView) (text : List ℕ) (at : ℕ) (kind : StopKind) (terminals : List ℕ) : Type 0 where
  pub stops : StopsAt l text at kind
  pub within : All (λ t. t ≤ l.grammar.terminals) terminals
  pub each : (stop : StopsAt l text at kind) → (t : ℕ) → t ≤ l.grammar.terminals → Contains terminals t ↔ CouldCome l text at kind stop t

-- the answer is the stop of the text with what could come there, or none where the text has a tree
abbrev pub IsExpected : LanguageView → List ℕ → Option Stop → Type 0
IsExpected l text None = (tree : Forest) × ParsesTo l text tree
IsExpected l text (Some stop) = AreExpected l text stop.at stop.kind stop.terminals.items
