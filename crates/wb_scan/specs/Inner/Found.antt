-- The form that is found to win from a place of a text on.
use Rattle.std.specs.Prelude.{◌≡◌, ◌<◌, ◌≤◌, ◌+◌, ℕ, List, ◌++◌, Some, length, slice_get, slice_range}
use Rattle.wb_base.specs.declared.symbol.Symbol.{Symbol}
use Rattle.wb_scan_theory.specs.declared.form.Form.{Form}
use Rattle.wb_scan_theory.specs.Winners.{Wins}
use Rattle.wb_scan_theory.specs.Parts.{IsPrefixOf}
use Rattle.wb_scan_theory.specs.Tokens.{Next}
use Rattle.wb_scan_theory.specs.Examined.{IsLooked, Scans}
use Rattle.wb_scan.specs.declared.scanned.Scanned.{Scanned}
use Rattle.wb_scan.specs.declared.scanned.Scanned.TheVariants.{Token, End, NoToken}
use Rattle.wb_scan.specs.declared.won.Won.{Won}
use Rattle.wb_scan.specs.declared.won.Won.TheVariants.{Nothing}
use Rattle.wb_scan.specs.Landings.{IsOfForm}
use Rattle.wb_scan.specs.Views.{LanguageParts}

-- the form wins at each prefix of the state, with the text up to the end
pub record IsFound (parts : LanguageParts) (state : ℕ) (text : List ℕ) (at form end : ℕ) : Type 0 where
  pub some : at < end
  pub within : end ≤ length text
  pub below : form < length parts.language.forms + length parts.language.layout
  pub terminal : (f : Form) → slice_get parts.language.forms form ≡ Some f → f.terminal < parts.language.grammar.terminals
  pub prefix : (f : Form) → slice_get parts.language.forms form ≡ Some f → (at + length f.prefix ≤ end) ×
      (slice_range text at end ≡ f.prefix ++ slice_range text (at + length f.prefix) end)
  pub wins : (prefix : List Symbol) → IsPrefixOf parts.language.grammar parts.tables state prefix →
      Wins parts.language prefix text at form (slice_range text at end)

-- no form wins, at no prefix of the state
abbrev pub IsNotFound : LanguageParts → ℕ → List ℕ → ℕ → Type 0
IsNotFound parts state text at =
    (prefix : List Symbol) → IsPrefixOf parts.language.grammar parts.tables state prefix → (place : ℕ) (piece : List ℕ) →
    ¬ Wins parts.language prefix text at place piece

-- with the text up to the end this wins at each prefix of the state: no form, or one of this sort
abbrev pub IsSought : LanguageParts → ℕ → List ℕ → ℕ → ℕ → Won → Type 0
IsSought parts state text at end Nothing = IsNotFound parts state text at
IsSought parts state text at end won = (form : ℕ) × IsFound parts state text at form end × IsOfForm parts.language.forms form won

-- the end is next where it is reached, and nothing elsewhere
abbrev pub IsOver : ℕ → ℕ → Scanned → Type 0
IsOver size at (Token terminal begin lexeme end) = ⊥
IsOver size at (End place) = (place ≡ at) × (at ≡ size)
IsOver size at (NoToken place) = (place ≡ at) × (at < size)

-- the bytes before the place e are enough to see which form wins, at each prefix of the state
pub record IsEnough (parts : LanguageParts) (state : ℕ) (text : List ℕ) (at e : ℕ) : Type 0 where
  pub on : at < e
  pub within : e ≤ length text + 1
  pub looked : (prefix : List Symbol) → IsPrefixOf parts.language.grammar parts.tables state prefix →
      IsLooked parts.language text prefix at e

-- what is next at the one place is next at the other, at each prefix of the state, where the bytes before d are looked at besides
abbrev pub SkipsTo : LanguageParts → ℕ → List ℕ → ℕ → ℕ → ℕ → Type 0
SkipsTo parts state text at place d =
    (prefix : List Symbol) → IsPrefixOf parts.language.grammar parts.tables state prefix → (e : ℕ) → d ≤ e → (next : Next) →
    Scans parts.language text prefix e place next → Scans parts.language text prefix e at next
