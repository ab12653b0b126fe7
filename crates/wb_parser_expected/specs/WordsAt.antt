-- The words of a language at a place of a text, whatever was read before.
use Rattle.std.specs.Prelude.{◌≤◌, ℕ, List}
use Rattle.wb_base.specs.declared.symbol.Symbol.{Symbol}
use Rattle.wb_grammar_theory.specs.Items.{IsViablePrefix}
use Rattle.wb_scan_theory.specs.Languages.{LanguageView}
use Rattle.wb_scan_theory.specs.Tokens.{NextToken, token}

-- at some prefix of the language a token of this terminal is next from the place on: it begins there or after layout, and ends before the
-- other place
pub record IsWordAt (l : LanguageView) (text : List ℕ) (from terminal begin end : ℕ) : Type 0 where
  pub prefix : List Symbol
  pub viable : IsViablePrefix l.grammar prefix
  pub lexeme : List ℕ
  pub is : NextToken l text prefix from (token begin terminal lexeme end)

-- no token that is next at any prefix ends later
abbrev pub IsLastEnd : LanguageView → List ℕ → ℕ → ℕ → Type 0
IsLastEnd l text from end = (terminal begin other : ℕ) → IsWordAt l text from terminal begin other → other ≤ end
