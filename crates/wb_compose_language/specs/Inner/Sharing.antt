-- Which own terminals and own layouts of extensions share a text with an expression.
use Rattle.std.specs.Prelude.{◌≡◌, ◌≢◌, ◌≤◌, ◌<◌, ◌+◌, ◌⊎◌, ℕ, List, Some, length, slice_get}
use Rattle.wb_regex.specs.Matches.{ShareText}
use Rattle.wb_regex.specs.Tree.{Tree}
use Rattle.wb_syntax_resolved.specs.declared.terminal.Terminal.{Terminal}
use Rattle.wb_compose_language.specs.declared.addition.Addition.{Addition}

-- a row of the extension, from the first number to before the second, shares a text with the expression
pub record SharesBefore (from bound : ℕ) (x : Addition) (pattern : Tree) : Type 0 where
  pub terminal : ℕ
  pub far : from ≤ terminal
  pub less : terminal < bound
  pub row : Terminal
  pub at : slice_get x.terminals.now terminal ≡ Some row
  pub share : ShareText pattern row.pattern

-- an own terminal or own layout of the extension does, where the host has so many terminals and layouts
abbrev pub SharesWith : (own hosts : ℕ) → Addition → Tree → Type 0
SharesWith own hosts x pattern =
    SharesBefore own x.grammar.now.terminals x pattern
    ⊎ SharesBefore (x.grammar.now.terminals + hosts) (length x.terminals.now) x pattern

-- one of another extension, before the one of this number
pub record SharesAmong (own hosts bound : ℕ) (extensions : List Addition) (number : ℕ) (pattern : Tree) : Type 0 where
  pub other : ℕ
  pub less : other < bound
  pub different : other ≢ number
  pub x : Addition
  pub at : slice_get extensions other ≡ Some x
  pub shares : SharesWith own hosts x pattern

-- one of another extension
abbrev pub SharesWithOther : (own hosts : ℕ) → List Addition → ℕ → Tree → Type 0
SharesWithOther own hosts extensions number pattern = SharesAmong own hosts (length extensions) extensions number pattern
