-- The next token of a text at a prefix, layout skipped.
use Rattle.std.specs.Prelude.{◌≡◌, ◌<◌, ◌+◌, ℕ, List, ◌++◌, length, slice_get, Some}
use Rattle.wb_base.specs.declared.symbol.Symbol.{Symbol}
use Rattle.wb_scan_theory.specs.declared.form.Form.{Form}
use Rattle.wb_scan_theory.specs.Languages.{LanguageView, IsLayout}
use Rattle.wb_scan_theory.specs.Winners.{Wins}

-- what is next on a text: a token, which begins at a place, with its terminal, its lexeme, and the place after it; the end of the text, at
-- its place; or nothing at a place
pub data Next : Type 0 where
  token : (begin terminal : ℕ) → (lexeme : List ℕ) → (after : ℕ) → Next
  over : (place : ℕ) → Next
  missing : (place : ℕ) → Next

-- what is next at the prefix from the place `at` on: layout that wins is skipped at the same prefix; another form that wins is the token,
-- whose lexeme is what is after the form's prefix; at the end of the text the end is next; and nothing is next where the text goes on and
-- no form wins
pub data NextToken (l : LanguageView) (text : List ℕ) (prefix : List Symbol) : ℕ → Next → Type 0 where
  skipped : (place : ℕ) (piece : List ℕ) {at : ℕ} {next : Next} → IsLayout l place → Wins l prefix text at place piece →
      NextToken l text prefix (at + length piece) next → NextToken l text prefix at next
  wins : (place : ℕ) (form : Form) (piece lexeme : List ℕ) {at : ℕ} {next : Next} → slice_get l.forms place ≡ Some form →
      Wins l prefix text at place piece → piece ≡ form.prefix ++ lexeme →
      next ≡ token at form.terminal lexeme (at + length piece) → NextToken l text prefix at next
  ends : {at : ℕ} {next : Next} → at ≡ length text → next ≡ over at → NextToken l text prefix at next
  fails : {at : ℕ} {next : Next} → at < length text → ((place : ℕ) (piece : List ℕ) → ¬ Wins l prefix text at place piece) →
      next ≡ missing at → NextToken l text prefix at next
