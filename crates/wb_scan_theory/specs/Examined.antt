-- What a scan looks at, and texts that agree so far.
use Rattle.std.specs.Prelude.{◌≡◌, ◌<◌, ◌≤◌, ◌+◌, ℕ, List, ◌++◌, drop, take, length, slice_get, Some}
use Rattle.wb_base.specs.declared.symbol.Symbol.{Symbol}
use Rattle.wb_automata.specs.Automata.{IsMatch}
use Rattle.wb_scan_theory.specs.declared.form.Form.{Form}
use Rattle.wb_scan_theory.specs.Languages.{LanguageView, IsLayout}
use Rattle.wb_scan_theory.specs.Winners.{IsConsideredForm, Wins}
use Rattle.wb_scan_theory.specs.Tokens.{Next, token, over, missing}

-- no form that is considered at the prefix matches a text that begins with the piece
abbrev pub IsDead : LanguageView → List Symbol → List ℕ → Type 0
IsDead l prefix piece =
    (place : ℕ) (more : List ℕ) → IsConsideredForm l prefix place → ¬ IsMatch l.expressions place (piece ++ more)

-- it is enough to look at the bytes before this place to see which form wins at the place `at`: the bytes from there up to it begin no
-- match; or it is one more than the length, where the text was seen to its end
pub data IsLooked (l : LanguageView) (text : List ℕ) (prefix : List Symbol) (at e : ℕ) : Type 0 where
  up_to : (piece rest : List ℕ) → drop at text ≡ piece ++ rest → 0 < length piece → IsDead l prefix piece → e ≡ at + length piece →
      IsLooked l text prefix at e
  to_end : at ≤ length text → e ≡ length text + 1 → IsLooked l text prefix at e

-- what is next at the prefix from the place on, where no byte from e on was looked at, and the end of the text only where e is more than
-- its length
pub data Scans (l : LanguageView) (text : List ℕ) (prefix : List Symbol) (e : ℕ) : ℕ → Next → Type 0 where
  skips : (place here : ℕ) (piece : List ℕ) {at : ℕ} {next : Next} → IsLooked l text prefix at here → here ≤ e → IsLayout l place →
      Wins l prefix text at place piece → Scans l text prefix e (at + length piece) next → Scans l text prefix e at next
  takes : (place here : ℕ) (form : Form) (piece lexeme : List ℕ) {at : ℕ} {next : Next} → IsLooked l text prefix at here → here ≤ e →
      slice_get l.forms place ≡ Some form → Wins l prefix text at place piece → piece ≡ form.prefix ++ lexeme →
      next ≡ token at form.terminal lexeme (at + length piece) → Scans l text prefix e at next
  finishes : {at : ℕ} {next : Next} → at ≡ length text → length text < e → next ≡ over at → Scans l text prefix e at next
  misses : (here : ℕ) {at : ℕ} {next : Next} → IsLooked l text prefix at here → here ≤ e → at < length text →
      ((place : ℕ) (piece : List ℕ) → ¬ Wins l prefix text at place piece) → next ≡ missing at → Scans l text prefix e at next

-- the texts agree in their first e bytes, and are equal where one of them has fewer
pub record HasSameFront (e : ℕ) (text other : List ℕ) : Type 0 where
  pub front : take e text ≡ take e other
  pub whole : length text < e → text ≡ other

-- what is examined by a scan: some e with which it gives what is next
abbrev pub IsExamined : LanguageView → List ℕ → List Symbol → ℕ → ℕ → Type 0
IsExamined l text prefix at e = (next : Next) × Scans l text prefix e at next
